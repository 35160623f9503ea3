use Rattle.std.proofs.Common.{subst, sym}
use Rattle.std.specs.List.{AllByRecursion}
use Rattle.padding.specs.Padding.{IsNear}
use Rattle.atlas_pages.specs.declared.paged_allocation.PagedAllocation.{PagedAllocation}
use Rattle.padding.proofs.PaddedPages.PaddedLemmas.{listed-near}
use Rattle.padding.proofs.pages.padded_pages.PaddedPages.iter.Goals as goal

pub new-requires : goal.new-requires
new-requires c =
    subst (AllByRecursion (λ (paged : PagedAllocation). IsNear paged.allocation.rectangle)) (sym c.iter.ensures.listed)
    (listed-near c.self.inside.pages c.self.invariant.pages)
