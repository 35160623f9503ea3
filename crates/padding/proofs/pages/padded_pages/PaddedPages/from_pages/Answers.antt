use Rattle.padding.proofs.PaddedPages.PaddedLemmas.{keeps-padding}
use Rattle.padding.proofs.pages.padded_pages.PaddedPages.from_pages.Goals as goal

pub invariant_of-result : goal.invariant_of-result
invariant_of-result c = keeps-padding c.args.padding c.args.pages c.page_count.ensures.promises

pub returns-clause-promises : goal.returns-clause-promises
returns-clause-promises c = invariant_of-result c
