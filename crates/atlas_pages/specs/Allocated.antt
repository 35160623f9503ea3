-- What is allocated on pages, and what becomes of them: when a size gets a place, when one is given back, when pages are
-- emptied, and when empty ones go.
use Rattle.std.specs.Prelude.{◌≡◌, ℕ, zero, suc, Bool, ◌&&◌, true, is_some, Option, None, Some, option_and_then, List, [], ◌∷◌, length, map, slice_get, slice_set, ◌==◌, ◌⊎◌, if◌then◌else◌}
use Rattle.etagere_base.specs.declared.geometry.Rectangle.{Rectangle}
use Rattle.etagere_base.specs.declared.geometry.Size.{Size}
use Rattle.etagere_base.specs.Lists.{total}
use Rattle.shelf_model.specs.Atlas.{Allocates, NeedsSplit}
use Rattle.shelf_model.specs.Fresh.{fresh}
use Rattle.shelf_model.specs.Places.{allocations, rectangle_of}
use Rattle.shelf_model.specs.Returning.{returned}
use Rattle.shelf_model.specs.Space as space
use Rattle.shelf_model.specs.State.{AtlasState}
use Rattle.atlas_pages.specs.declared.paged_allocation.PagedAllocation.{PagedAllocation}
use Rattle.atlas_pages.specs.Choosing.{chosen_page, free_space, may_open, page_for, ready_for}
use Rattle.atlas_pages.specs.Pages.{PagesState}

-- the rectangle that is allocated on a page under an id; none where the page isn't open, or nothing is
abbrev pub rectangle_on : PagesState → ℕ → ℕ → Option Rectangle
rectangle_on state page id =
    option_and_then (λ (atlas : AtlasState). rectangle_of atlas id) (slice_get state.pages page)

-- something is allocated on a page under an id
abbrev pub is_allocated_on : PagesState → ℕ → ℕ → Bool
is_allocated_on state page id = is_some (rectangle_on state page id)

-- a size is allocated on an open page, and the other pages stay
pub record AllocatesOn (old : List AtlasState) (size : Size) (paged : PagedAllocation) (new : List AtlasState)
    : Type 0 where
  pub before : AtlasState
  pub after : AtlasState
  pub is_open : slice_get old paged.page ≡ Some before
  pub allocates : Allocates before size paged.allocation after
  pub others : new ≡ slice_set old paged.page after

-- a size gets a place on the page that is chosen for it, which is opened where it has to be
pub record Places (old : PagesState) (size : Size) (paged : PagedAllocation) (new : PagesState) : Type 0 where
  pub chosen : page_for old size ≡ Some paged.page
  pub allocates : AllocatesOn (ready_for old size).pages size paged new.pages
  pub options : new.options ≡ old.options

-- a size has a place on an open page, where it needs a split
pub record NeedsSplitOn (state : PagesState) (size : Size) : Type 0 where
  pub number : ℕ
  pub page : AtlasState
  pub chosen : chosen_page state size ≡ Some number
  pub is_open : slice_get state.pages number ≡ Some page
  pub split : NeedsSplit page size

-- a size has no place on an open page, and one may be opened for it
pub record NeedsPage (state : PagesState) (size : Size) : Type 0 where
  pub none : chosen_page state size ≡ None
  pub opens : may_open state size ≡ true

-- a size has a place that needs memory
abbrev pub NeedsMemory : PagesState → Size → Type 0
NeedsMemory state size = NeedsSplitOn state size ⊎ NeedsPage state size

-- the pages with that of a number changed
abbrev pub at_page : ℕ → (AtlasState → AtlasState) → List AtlasState → List AtlasState
at_page n change [] = []
at_page zero change (page ∷ pages) = change page ∷ pages
at_page (suc n) change (page ∷ pages) = page ∷ at_page n change pages

-- after what is allocated on a page under an id was given back
abbrev pub returned_on : PagesState → ℕ → ℕ → PagesState
returned_on state page id =
    record { options = state.options; pages = at_page page (λ atlas. returned atlas id) state.pages }

-- with each open page empty
abbrev pub cleared : PagesState → PagesState
cleared state = record { options = state.options; pages = map (λ (page : AtlasState). fresh page.frame) state.pages }

-- with so many pages that there may be
abbrev pub with_most : PagesState → ℕ → PagesState
with_most state most =
    record { options = record state.options { most_pages = most }; pages = state.pages }

-- nothing is allocated on a page
abbrev pub is_unused : AtlasState → Bool
is_unused page = length (allocations page) == 0

-- the pages up to the last one on which something is allocated
abbrev pub used_pages : List AtlasState → List AtlasState
used_pages [] = []
used_pages (page ∷ pages) =
    if is_unused page && length (used_pages pages) == 0 then [] else page ∷ used_pages pages

-- without the empty pages at the end
abbrev pub shrunk : PagesState → PagesState
shrunk state = record { options = state.options; pages = used_pages state.pages }

-- the areas of everything that is allocated, added up
abbrev pub allocated_space_of : PagesState → ℕ
allocated_space_of state = total space.allocated_space state.pages

-- what is free on the open pages, added up
abbrev pub free_space_of : PagesState → ℕ
free_space_of state = total free_space state.pages
