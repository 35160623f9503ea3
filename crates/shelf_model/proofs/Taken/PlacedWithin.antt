-- What a placement gives lies within the longest side.
use Rattle.std.proofs.Common.{◌≡◌, ◌+◌, ◌≤◌, Bool, true, false, Some, ◌∷◌, refl, ap, arith}
use Rattle.etagere_base.specs.declared.frames.Frame.{Frame}
use Rattle.etagere_base.specs.declared.geometry.Size.{Size}
use Rattle.shelf_model.specs.Choice.{Placement, placement_of}
use Rattle.shelf_model.specs.State.{Shelf, AtlasState, total_width}
use Rattle.shelf_model.specs.Valid.{IsValid}
use Rattle.etagere_base.proofs.FrameSides.{sides_low}
use Rattle.shelf_model.proofs.Places.Heights.{column_height-upto}
use Rattle.shelf_model.proofs.Chosen.Placed.{placement_of-placed}
use Rattle.shelf_model.proofs.Places.Within.{shelf-right}
use Rattle.shelf_model.proofs.Places.ItemLemmas.{total_width-append}
use Rattle.shelf_model.proofs.Taken.TakenPieces.{room-fits}
use Rattle.shelf_model.proofs.Taken.TakenShelves.{IsTaking, taking}

-- what is given of a shelf is no taller than it
given-short : (frame : Frame) (placement : Placement) (shelf : Shelf) → IsTaking frame placement shelf → placement.height ≤ shelf.height
given-short frame placement shelf t = by_test placement.splits_shelf refl
  where
    by_test : (b : Bool) → placement.splits_shelf ≡ b → placement.height ≤ shelf.height
    by_test true e = omega (arith, t.shorter e)
    by_test false e = omega (arith, t.full e)

-- what a placement gives ends within the longest side either way
pub record EndsWithin (placement : Placement) : Type 0 where
  pub right : placement.along + placement.width ≤ 65535
  pub bottom : placement.across + placement.height ≤ 65535

-- in a valid state what the placement of a size gives ends there
pub placed-within : (state : AtlasState) (size : Size) (placement : Placement) → IsValid state → placement_of state size ≡ Some placement → EndsWithin placement
placed-within state size placement valid h =
    let placed = placement_of-placed state size placement h in
    let shelf = placed.chosen.shelf in
    let t = taking state size placement valid placed in
    let f = t.found in
    let right = shelf-right state.frame valid.frame shelf t.valid in
    record {
      right = omega (
        arith,
        right,
        f.begins,
        room-fits state.frame f.item placement t.room,
        total_width-append f.at.front (f.item ∷ f.at.back),
        ap total_width f.at.whole,
      );
      bottom = omega (
        arith,
        ap (λ (p : Placement). p.across) placed.chosen.is,
        given-short state.frame placement shelf t,
        column_height-upto placement.shelf state.shelves shelf placed.chosen.at,
        valid.heights shelf.column t.valid.column,
        (sides_low 65535 state.frame valid.frame).1,
      );
    }
