-- The order in which rectangles ask for new places: the tallest first, and of equally tall ones that of the least id.
use Rattle.std.specs.Prelude.{ℕ, ◌-ℤ◌, Bool, true, false, ◌&&◌, ◌||◌, ◌==◌, nat_lt, List}
use Rattle.etagere_base.specs.Lists.{NoNeighbours}
use Rattle.etagere_base.specs.Sides.{side}
use Rattle.etagere_base.specs.declared.geometry.Rectangle.{Rectangle}
use Rattle.etagere_base.specs.declared.geometry.Size.{Size}
use Rattle.etagere_base.specs.declared.ids.Allocation.{Allocation}

-- the sides of a rectangle
abbrev pub size_of : Rectangle → Size
size_of rectangle =
    record {
      width = rectangle.max.x -ℤ rectangle.min.x;
      height = rectangle.max.y -ℤ rectangle.min.y;
    }

-- how tall a rectangle stands on its shelf: its side across the shelves, which may be vertical
abbrev pub height_across : Bool → Rectangle → ℕ
height_across true rectangle = side (size_of rectangle).width
height_across false rectangle = side (size_of rectangle).height

-- the second of two allocations ought to be the first: it is taller, or as tall and of a lower id
abbrev pub is_out_of_turn : Bool → Allocation → Allocation → Bool
is_out_of_turn vertical one next =
    let height = height_across vertical one.rectangle in
    let next_height = height_across vertical next.rectangle in
    nat_lt height next_height || (height == next_height && nat_lt next.id one.id)

-- the tallest stand first, and of equally tall ones those of lower ids
abbrev pub AreTallestFirst : Bool → List Allocation → Type 0
AreTallestFirst vertical allocations = NoNeighbours (is_out_of_turn vertical) allocations
