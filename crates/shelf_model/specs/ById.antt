-- What an allocation and a return do, as a caller sees it who has ids.
use Rattle.std.specs.Prelude.{◌≡◌, ◌≢◌, ℕ, None, Some, false}
use Rattle.etagere_base.specs.declared.geometry.Rectangle.{Rectangle}
use Rattle.etagere_base.specs.declared.ids.Allocation.{Allocation}
use Rattle.etagere_base.specs.Rectangles.{SharesNone}
use Rattle.shelf_model.specs.Atlas.{Adds}
use Rattle.shelf_model.specs.Places.{allocations, is_allocated, rectangle_of}
use Rattle.shelf_model.specs.State.{AtlasState}

-- each id that had a rectangle still has it
abbrev pub KeepsRectangles : AtlasState → AtlasState → Type 0
KeepsRectangles old new =
    (id : ℕ) (rectangle : Rectangle) → rectangle_of old id ≡ Some rectangle
    → rectangle_of new id ≡ Some rectangle

-- a rectangle shares no unit square with that of any id
abbrev pub IsClear : AtlasState → Rectangle → Type 0
IsClear state rectangle =
    (id : ℕ) (other : Rectangle) → rectangle_of state id ≡ Some other → SharesNone other rectangle

-- an id has no rectangle any more, and each other id has what it had
pub record TakesAway (old : AtlasState) (id : ℕ) (new : AtlasState) : Type 0 where
  pub gone : rectangle_of new id ≡ None
  pub others : (other : ℕ) → other ≢ id → rectangle_of new other ≡ rectangle_of old other

-- where what is allocated is what some state had and one more under an id that was new there, it is
-- what that state had once the id is returned
abbrev pub Undoes : AtlasState → ℕ → AtlasState → Type 0
Undoes old id new =
    (before : AtlasState) (allocation : Allocation)
    → Adds (allocations before) allocation (allocations old)
    → is_allocated before allocation.id ≡ false → allocation.id ≡ id
    → allocations new ≡ allocations before
