-- Laws of the choice of a page, in the words of a caller.
use Rattle.std.specs.Prelude.{◌≡◌, ℕ, ◌<◌, ◌≤◌, true, Some, None, List, slice_get}
use Rattle.std.specs.List.{AllByRecursion}
use Rattle.etagere_base.specs.declared.geometry.Size.{Size}
use Rattle.shelf_model.specs.Choice.{IsRefused}
use Rattle.shelf_model.specs.State.{AtlasState}
use Rattle.atlas_pages.specs.declared.options.PageChoice.{PageChoice}
use Rattle.atlas_pages.specs.declared.options.PageChoice.TheVariants.{FirstFit, FullestFirst}
use Rattle.atlas_pages.specs.Choosing.{chosen_of, free_space, has_place}

-- the page of a number has a place, and each one before it refuses the size
pub record IsFirst (size : Size) (pages : List AtlasState) (n : ℕ) : Type 0 where
  pub page : AtlasState
  pub is_open : slice_get pages n ≡ Some page
  pub fits : has_place size page ≡ true
  pub earlier : (m : ℕ) (other : AtlasState) → slice_get pages m ≡ Some other → m < n → IsRefused other size

-- the page of a number has a place; of those that have one, none has less free, and each one before it has more
pub record IsFullest (size : Size) (pages : List AtlasState) (n : ℕ) : Type 0 where
  pub page : AtlasState
  pub is_open : slice_get pages n ≡ Some page
  pub fits : has_place size page ≡ true
  pub least : (m : ℕ) (other : AtlasState) → slice_get pages m ≡ Some other → has_place size other ≡ true
      → free_space page ≤ free_space other
  pub earlier : (m : ℕ) (other : AtlasState) → slice_get pages m ≡ Some other → has_place size other ≡ true → m < n
      → free_space page < free_space other

-- by first fit the first page that has a place is chosen
abbrev pub FirstFitIsFirst : Type 0
FirstFitIsFirst =
    (size : Size) (pages : List AtlasState) (n : ℕ) → chosen_of FirstFit size pages ≡ Some n → IsFirst size pages n

-- by fullest first the first of the fullest that have one
abbrev pub FullestFirstIsFullest : Type 0
FullestFirstIsFullest =
    (size : Size) (pages : List AtlasState) (n : ℕ) → chosen_of FullestFirst size pages ≡ Some n
    → IsFullest size pages n

-- none is chosen only where each refuses
abbrev pub NoneIsRefused : Type 0
NoneIsRefused =
    (choice : PageChoice) (size : Size) (pages : List AtlasState) → chosen_of choice size pages ≡ None
    → AllByRecursion (λ (page : AtlasState). IsRefused page size) pages
