use Rattle.padding.proofs.PaddedPages.PaddedLemmas.{keeps-padding}
use Rattle.padding.proofs.pages.padded_pages.PaddedPages.grow.Goals as goal

pub invariant_of-self : goal.invariant_of-self
invariant_of-self c = keeps-padding c.self.inside.padding c.grow.new.self c.grow.ensures.promises

pub returns-clause-promises : goal.returns-clause-promises
returns-clause-promises c = invariant_of-self c
