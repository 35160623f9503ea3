-- The order in which everything that is allocated on pages is listed: page after page.
use Rattle.std.specs.Prelude.{ℕ, ◌+◌, List, [], ◌∷◌, ◌++◌, map}
use Rattle.etagere_base.specs.declared.ids.Allocation.{Allocation}
use Rattle.shelf_model.specs.Listing.{listed}
use Rattle.shelf_model.specs.State.{AtlasState}
use Rattle.atlas_pages.specs.declared.paged_allocation.PagedAllocation.{PagedAllocation}
use Rattle.atlas_pages.specs.Pages.{PagesState}

-- allocations of one page, with its number
abbrev pub on_page : ℕ → List Allocation → List PagedAllocation
on_page page allocations =
    map (λ (allocation : Allocation). record { page = page; allocation = allocation }) allocations

-- what is allocated on pages that are counted from a number on: on the first one, in the order of its own list, and then
-- on the others
abbrev pub allocations_from : ℕ → List AtlasState → List PagedAllocation
allocations_from number [] = []
allocations_from number (page ∷ pages) = on_page number (listed page) ++ allocations_from (number + 1) pages

-- everything that is allocated
abbrev pub listed_allocations : PagesState → List PagedAllocation
listed_allocations state = allocations_from 0 state.pages
