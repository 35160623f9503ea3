-- The rectangle that a size is given is as large as the size, each side rounded up.
use Rattle.std.proofs.Common.{◌≡◌, ℕ, ◌≤◌, Bool, true, false, Some, ap, arith, cond}
use Rattle.etagere_base.proofs.AskedSides.{asked-is, large-at}
use Rattle.etagere_base.specs.declared.geometry.Size.{Size}
use Rattle.etagere_base.specs.declared.sides.Sides.{Sides}
use Rattle.shelf_model.specs.Choice.{Placement, is_item_split, is_shelf_split, placement_of, rectangle_of_placement, shelf_height, width_at}
use Rattle.shelf_model.specs.Places.{column_place}
use Rattle.etagere_base.specs.Rectangles.{IsLarge}
use Rattle.shelf_model.specs.State.{AtlasState}
use Rattle.shelf_model.proofs.Chosen.Placed.{chosen-stands, placement_of-placed, shelf_height-tall}

-- of two lengths of which one is at most the other, either is at least the lower
either-le : (b : Bool) (n m : ℕ) → n ≤ m → n ≤ cond b n m
either-le true n m h = omega arith
either-le false n m h = h

-- the rectangle that a placement of a size gives is as large as the size, each side rounded up
pub given-is_large : (state : AtlasState) (size : Size) (placement : Placement)
    → placement_of state size ≡ Some placement → IsLarge state.frame size (rectangle_of_placement state.frame placement)
given-is_large state size placement h =
    let placed = placement_of-placed state size placement h in
    let choice = placed.chosen in
    let is = asked-is state.frame size placed.sides placed.asked in
    let item_width = width_at (column_place state.frame choice.shelf) choice.shelf.items placement.along in
    let height = shelf_height state.frame placed.sides.across in
    let wide = either-le (is_item_split placed.sides.along item_width) placed.sides.along item_width (chosen-stands state placed.sides placement choice).0 in
    let tall = either-le (is_shelf_split height choice.shelf) height choice.shelf.height choice.tall in
    large-at state.frame size placement.along placement.across placement.width placement.height
    (omega (arith, ap (λ (s : Sides). s.along) is, ap (λ (p : Placement). p.width) choice.is, wide))
    (omega (arith, ap (λ (s : Sides). s.across) is, ap (λ (p : Placement). p.height) choice.is, shelf_height-tall state.frame placed.sides.across, tall))
