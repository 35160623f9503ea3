-- What the derived `==` of plain types says: each field is equal, so the values are the same.
use Rattle.std.proofs.Common.{◌≡◌, IsTrue, ◌↔◌, rules, int_eq}
use Rattle.std.specs.Prelude.{◌&&◌}
use Rattle.etagere_base.specs.declared.geometry.Point.{Point}
use Rattle.etagere_base.specs.declared.geometry.Size.{Size}

-- points that are equal by their fields are the same
pub points-same : (one other : Point) → IsTrue (int_eq one.x other.x && int_eq one.y other.y) ↔ (one ≡ other)
points-same one other = search rules

-- and sizes
pub sizes-same : (one other : Size) → IsTrue (int_eq one.width other.width && int_eq one.height other.height) ↔ (one ≡ other)
sizes-same one other = search rules
