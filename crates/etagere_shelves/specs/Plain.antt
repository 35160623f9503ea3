-- What the plain structs stand for.
use Rattle.etagere_base.specs.declared.geometry.Point.{Point}
use Rattle.etagere_base.specs.declared.geometry.Rectangle.{Rectangle}
use Rattle.etagere_base.specs.declared.ids.Allocation.{Allocation}
use Rattle.etagere_shelves.specs.declared.plain.PlainAllocation.{PlainAllocation}
use Rattle.etagere_shelves.specs.declared.plain.PlainPoint.{PlainPoint}
use Rattle.etagere_shelves.specs.declared.plain.PlainRectangle.{PlainRectangle}

abbrev pub point_in : PlainPoint → Point
point_in point = record { x = point.x; y = point.y }

abbrev pub rectangle_in : PlainRectangle → Rectangle
rectangle_in rectangle = record { min = point_in rectangle.min; max = point_in rectangle.max }

abbrev pub allocation_in : PlainAllocation → Allocation
allocation_in allocation =
    record { id = allocation.id; rectangle = rectangle_in allocation.rectangle }
