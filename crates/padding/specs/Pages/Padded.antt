-- Pages on which each rectangle has padding: what is asked of them has it, and what is given back has not.
use Rattle.std.specs.Prelude.{◌≡◌, ℕ, List, Option, map, option_map}
use Rattle.std.specs.List.{AllByRecursion}
use Rattle.etagere_base.specs.declared.geometry.Rectangle.{Rectangle}
use Rattle.etagere_base.specs.declared.geometry.Size.{Size}
use Rattle.padding.specs.declared.sides.Padding.{Padding}
use Rattle.padding.specs.Padding.{ArePadded, padded, padded_allocation, trimmed, trimmed_allocation}
use Rattle.shelf_model.specs.Places.{allocations}
use Rattle.shelf_model.specs.State.{AtlasState}
use Rattle.atlas_pages.specs.declared.paged_allocation.PagedAllocation.{PagedAllocation}
use Rattle.atlas_pages.specs.Allocated.{Places, rectangle_on}
use Rattle.atlas_pages.specs.Listing.{listed_allocations}
use Rattle.atlas_pages.specs.Pages.{PagesState}
use Rattle.atlas_pages.specs.Promises.{KeepsPagesPromises}

-- pages with a padding: the pages hold the rectangles with it
pub record PaddedState : Type 0 where
  pub padding : Padding
  pub pages : PagesState

-- the rectangle that is allocated on a page under an id, without its padding
abbrev pub trimmed_on : PaddedState → ℕ → ℕ → Option Rectangle
trimmed_on state page id = option_map (trimmed state.padding) (rectangle_on state.pages page id)

-- a place of which the rectangle has its padding, or has not
abbrev pub padded_paged : Padding → PagedAllocation → PagedAllocation
padded_paged padding paged =
    record { page = paged.page; allocation = padded_allocation padding paged.allocation }

abbrev pub trimmed_paged : Padding → PagedAllocation → PagedAllocation
trimmed_paged padding paged =
    record { page = paged.page; allocation = trimmed_allocation padding paged.allocation }

-- everything that is allocated, without its padding
abbrev pub trimmed_allocations : PaddedState → List PagedAllocation
trimmed_allocations state = map (trimmed_paged state.padding) (listed_allocations state.pages)

-- a size gets a place: with the padding, it is one that the pages give to the size with the padding
pub record PlacesPadded (old : PaddedState) (size : Size) (paged : PagedAllocation) (new : PaddedState) : Type 0 where
  pub places : Places old.pages (padded old.padding size) (padded_paged old.padding paged) new.pages
  pub padding : new.padding ≡ old.padding

-- what is given back of a page, with its padding, lies inside the page and apart
abbrev pub IsPaddedPage : Padding → AtlasState → Type 0
IsPaddedPage padding page =
    ArePadded padding page.frame (map (trimmed_allocation padding) (allocations page))

-- that holds of each page, and the pages keep their promises
pub record KeepsPadding (state : PaddedState) : Type 0 where
  pub pages : KeepsPagesPromises state.pages
  pub padded : AllByRecursion (IsPaddedPage state.padding) state.pages.pages
