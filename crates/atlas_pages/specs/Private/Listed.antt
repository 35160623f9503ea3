-- What the fields of an iterator over pages have still to come.
use Rattle.std.specs.Prelude.{◌^◌, ◌<◌, ◌≤◌, Option, None, Some, List, [], ◌++◌, drop, length}
use Rattle.atlas_pages.specs.declared.listing.Iter.TheInside.{Inside}
use Rattle.atlas_pages.specs.declared.listing.OnPage.{OnPage}
use Rattle.atlas_pages.specs.declared.paged_allocation.PagedAllocation.{PagedAllocation}
use Rattle.atlas_pages.specs.Listing.{allocations_from, on_page}

-- what is left of a page
abbrev pub left_on : OnPage → List PagedAllocation
left_on begun = on_page begun.page begun.allocations

-- what is left of the page that was begun last, if one was
abbrev pub left_of : Option OnPage → List PagedAllocation
left_of None = []
left_of (Some begun) = left_on begun

-- and what is on the pages that were not begun
abbrev pub listed_in : Inside → List PagedAllocation
listed_in fields = left_of fields.begun ++ allocations_from fields.next (drop fields.next fields.pages.now)

-- the next page is one of them, or all were begun
pub record IsListed (fields : Inside) : Type 0 where
  pub few : length fields.pages.now < 2 ^ 32
  pub within : fields.next ≤ length fields.pages.now
