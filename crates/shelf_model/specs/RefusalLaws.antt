-- Laws of the reasons for which a size has no place.
use Rattle.std.specs.Prelude.{◌≡◌, ◌↔◌, ℕ, ◌≤◌, None, Some, List, IsTrue, is_some, slice_get}
use Rattle.etagere_base.specs.declared.geometry.Size.{Size}
use Rattle.etagere_base.specs.Frames.{asked, rounded}
use Rattle.shelf_model.specs.declared.faults.Refusal.TheVariants.{NoRoom}
use Rattle.shelf_model.specs.Choice.{placement_of, shelf_height}
use Rattle.shelf_model.specs.Laws.{FitsShelf}
use Rattle.shelf_model.specs.Refusal.{refusal, widest_for}
use Rattle.shelf_model.specs.State.{Shelf, AtlasState}
use Rattle.shelf_model.specs.Valid.{IsValid}
use Rattle.shelf_model.specs.Widest.{widest_free}

-- one of the shelves fits a width and a height
pub record SomeFits (width height : ℕ) (shelves : List Shelf) : Type 0 where
  pub number : ℕ
  pub shelf : Shelf
  pub at : slice_get shelves number ≡ Some shelf
  pub fits : FitsShelf width height shelf

-- the widest is as wide as just those widths that one of the shelves fits
abbrev pub WidestFits : Type 0
WidestFits =
    (width height : ℕ) (shelves : List Shelf) → 1 ≤ width
    → (width ≤ widest_free height shelves) ↔ SomeFits width height shelves

-- there is no reason exactly where a size has a place
abbrev pub RefusesExactly : Type 0
RefusesExactly =
    (state : AtlasState) (size : Size) → IsValid state
    → (refusal state size ≡ None) ↔ IsTrue (is_some (placement_of state size))

-- a size is one that may be asked for, but no shelf fits it; what is told is the widest of what is free in the shelves
-- that are tall enough
pub record HasNoRoom (state : AtlasState) (size : Size) (told : ℕ) : Type 0 where
  pub asks : asked state.frame size ≡ Some (rounded state.frame size)
  pub none :
      SomeFits (rounded state.frame size).along
      (shelf_height state.frame (rounded state.frame size).across) state.shelves
      → ⊥
  pub widest : told ≡ widest_for state (rounded state.frame size)

-- no room is the reason exactly where no shelf fits
abbrev pub NoRoomExactly : Type 0
NoRoomExactly =
    (state : AtlasState) (size : Size) (widest : ℕ) → IsValid state
    → (refusal state size ≡ Some (NoRoom widest)) ↔ HasNoRoom state size widest
