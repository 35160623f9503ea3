-- What a place on one of several pages is.
use Rattle.std.specs.Prelude.{◌≡◌, ◌≢◌, ℕ, ◌<◌, Some, List, slice_get}
use Rattle.etagere_base.specs.declared.geometry.Size.{Size}
use Rattle.shelf_model.specs.Choice.{IsRefused}
use Rattle.shelf_model.specs.Places.{rectangle_of}
use Rattle.shelf_model.specs.State.{AtlasState}
use Rattle.uses.specs.declared.pages.PagedAllocation.{PagedAllocation}

-- a size got a place: every page before it refused the size, its page has the rectangle under the
-- id, and all other pages are as they were
pub record IsOnPage (old : List AtlasState) (size : Size) (paged : PagedAllocation) (new : List AtlasState)
    : Type 0 where
  pub refused : (page : ℕ) → page < paged.page → (state : AtlasState)
      → slice_get old page ≡ Some state → IsRefused state size
  pub state : AtlasState
  pub page : slice_get new paged.page ≡ Some state
  pub found : rectangle_of state paged.allocation.id ≡ Some paged.allocation.rectangle
  pub others : (page : ℕ) → page ≢ paged.page → slice_get new page ≡ slice_get old page
