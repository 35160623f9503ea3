-- What an allocation on the open pages does to them.
use Rattle.std.specs.Prelude.{◌≡◌, ℕ, Some, List}
use Rattle.etagere_base.specs.declared.geometry.Size.{Size}
use Rattle.etagere_base.specs.Rectangles.{IsLarge}
use Rattle.shelf_model.specs.Atlas.{KeepsPromises, NeedsSplit}
use Rattle.shelf_model.specs.State.{AtlasState}
use Rattle.atlas_pages.specs.declared.options.PageChoice.{PageChoice}
use Rattle.atlas_pages.specs.declared.paged_allocation.PagedAllocation.{PagedAllocation}
use Rattle.atlas_pages.specs.Allocated.{AllocatesOn}
use Rattle.atlas_pages.specs.Choosing.{chosen_of}
use Rattle.std.specs.Prelude.{slice_get}

-- a size gets a place on the page that is chosen among open ones
pub record TakesRoom (choice : PageChoice) (old : List AtlasState) (size : Size) (paged : PagedAllocation)
    (new : List AtlasState) : Type 0 where
  pub chosen : chosen_of choice size old ≡ Some paged.page
  pub allocates : AllocatesOn old size paged new
  pub promises : KeepsPromises allocates.after
  pub large : IsLarge allocates.before.frame size paged.allocation.rectangle

-- the page that is chosen among open ones has to be split for a size
pub record NeedsSplitAmong (choice : PageChoice) (pages : List AtlasState) (size : Size) : Type 0 where
  pub number : ℕ
  pub page : AtlasState
  pub chosen : chosen_of choice size pages ≡ Some number
  pub is_open : slice_get pages number ≡ Some page
  pub split : NeedsSplit page size
