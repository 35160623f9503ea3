-- What an atlas and pages hold, in the words of what allocates sizes.
use Rattle.std.specs.Prelude.{◌≡◌, ℕ, ◌<◌, Bool, Some, is_some, List, [], ◌∷◌, ◌==◌, length, slice_get, if◌then◌else◌}
use Rattle.std.specs.List.{AllByRecursion}
use Rattle.etagere_base.specs.declared.geometry.Size.{Size}
use Rattle.etagere_base.specs.declared.ids.Allocation.{Allocation}
use Rattle.etagere_base.specs.Rectangles.{IsLarge}
use Rattle.shelf_model.specs.Callers.{AreTied}
use Rattle.shelf_model.specs.Choice.{placement_of}
use Rattle.shelf_model.specs.Fresh.{fresh}
use Rattle.shelf_model.specs.Places.{allocations, is_allocated}
use Rattle.shelf_model.specs.Returning.{returned}
use Rattle.shelf_model.specs.State.{AtlasState}
use Rattle.atlas_pages.specs.declared.paged_allocation.PagedAllocation.{PagedAllocation}
use Rattle.atlas_pages.specs.Allocated.{Places, is_allocated_on, returned_on}
use Rattle.atlas_pages.specs.Choosing.{has_place, page_for}
use Rattle.atlas_pages.specs.Pages.{PagesState, empty_page, page_frame}

-- a size has a place in an atlas, and in an empty one of its frame
abbrev pub has_place_in : AtlasState → Size → Bool
has_place_in state size = is_some (placement_of state size)

abbrev pub fits_atlas : AtlasState → Size → Bool
fits_atlas state size = is_some (placement_of (fresh state.frame) size)

-- an atlas after an allocation was given back, and all of them
abbrev pub allocation_returned : AtlasState → Allocation → AtlasState
allocation_returned state allocation = returned state allocation.id

abbrev pub emptied : AtlasState → AtlasState
emptied state = fresh state.frame

-- something is allocated under the id of an allocation; and these are all that is
abbrev pub is_allocation_held : AtlasState → Allocation → Bool
is_allocation_held state allocation = is_allocated state allocation.id

abbrev pub are_all_allocated : AtlasState → List Allocation → Type 0
are_all_allocated state kept = AreTied kept (allocations state)

-- a size has a place on an open page, or on one that may be opened
abbrev pub has_page : PagesState → Size → Bool
has_page state size = is_some (page_for state size)

-- a size has a place on an empty page
abbrev pub fits_page : PagesState → Size → Bool
fits_page state size = has_place size (empty_page state.options)

-- after an allocation was given back
abbrev pub paged_returned : PagesState → PagedAllocation → PagesState
paged_returned state paged = returned_on state paged.page paged.allocation.id

-- something is allocated there
abbrev pub is_paged_held : PagesState → PagedAllocation → Bool
is_paged_held state paged = is_allocated_on state paged.page paged.allocation.id

-- of some allocations those on one page, as what is allocated there
abbrev pub kept_on : ℕ → List PagedAllocation → List Allocation
kept_on page [] = []
kept_on page (paged ∷ kept) =
    if paged.page == page then paged.allocation ∷ kept_on page kept else kept_on page kept

-- these are all that is allocated on pages: each lies on an open one, and on each page they are what is allocated there
pub record AreAllPaged (state : PagesState) (kept : List PagedAllocation) : Type 0 where
  pub open_pages : AllByRecursion (λ (paged : PagedAllocation). paged.page < length state.pages) kept
  pub tied : (number : ℕ) (page : AtlasState) → slice_get state.pages number ≡ Some page
      → AreTied (kept_on number kept) (allocations page)

-- a size gets a place on pages, and a rectangle that is large enough
pub record GivesPaged (old : PagesState) (size : Size) (paged : PagedAllocation) (new : PagesState) : Type 0 where
  pub places : Places old size paged new
  pub large : IsLarge (page_frame old.options) size paged.allocation.rectangle
