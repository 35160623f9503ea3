-- What the fields of an iterator over pages with a padding have still to come.
use Rattle.std.specs.Prelude.{List, map}
use Rattle.std.specs.List.{AllByRecursion}
use Rattle.padding.specs.Padding.{IsNear}
use Rattle.padding.specs.declared.pages.listing.PaddedIter.TheInside.{Inside}
use Rattle.atlas_pages.specs.declared.paged_allocation.PagedAllocation.{PagedAllocation}
use Rattle.padding.specs.Pages.Padded.{trimmed_paged}

-- the places that are left, without their padding
abbrev pub trimmed_in : Inside → List PagedAllocation
trimmed_in fields = map (trimmed_paged fields.padding) fields.allocations

-- none of their rectangles is far from the origin
abbrev pub AreNear : Inside → Type 0
AreNear fields = AllByRecursion (λ (paged : PagedAllocation). IsNear paged.allocation.rectangle) fields.allocations
