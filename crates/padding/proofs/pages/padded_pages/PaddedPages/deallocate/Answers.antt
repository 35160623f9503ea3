use Rattle.padding.proofs.PaddedPages.PaddedLemmas.{keeps-padding}
use Rattle.padding.proofs.pages.padded_pages.PaddedPages.deallocate.Goals as goal

pub invariant_of-self : goal.invariant_of-self
invariant_of-self c = keeps-padding c.self.inside.padding c.deallocate.new.self c.deallocate.ensures.promises

pub returns-clause-promises : goal.returns-clause-promises
returns-clause-promises c = invariant_of-self c
