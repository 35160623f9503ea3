use Rattle.std.proofs.Common.{sym, ◌∙◌}
use Rattle.atlas_pages.proofs.Keeping.{keeps-new}
use Rattle.atlas_pages.proofs.pages.AtlasPages.new.Goals as goal

pub invariant_of-result : goal.invariant_of-result
invariant_of-result c =
    rw c.new.ensures.items
    (keeps-new c.args.options.now (sym c.pages_fault.ensures.value ∙ c.in_default.is) (rw c.in_default.is at c.pages_fault.ensures.short))

pub returns-clause-promises : goal.returns-clause-promises
returns-clause-promises c = invariant_of-result c
