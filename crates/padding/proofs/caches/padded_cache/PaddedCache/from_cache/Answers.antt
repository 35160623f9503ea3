use Rattle.padding.proofs.PaddedCaches.PaddedLemmas.{keeps-padding}
use Rattle.padding.proofs.caches.padded_cache.PaddedCache.from_cache.Goals as goal

pub invariant_of-result : goal.invariant_of-result
invariant_of-result c = keeps-padding c.args.padding c.args.cache c.len.ensures.promises

pub returns-clause-promises : goal.returns-clause-promises
returns-clause-promises c = invariant_of-result c
