use Rattle.padding.proofs.PaddedCaches.PaddedLemmas.{keeps-padding}
use Rattle.padding.proofs.caches.padded_cache.PaddedCache.remove.Goals as goal

pub invariant_of-self : goal.invariant_of-self
invariant_of-self c = keeps-padding c.self.inside.padding c.remove.new.self c.remove.ensures.promises

pub returns-clause-promises : goal.returns-clause-promises
returns-clause-promises c = invariant_of-self c
