-- One side of a size.
use Rattle.std.specs.Prelude.{ℤ, nat_lt, Option, None, Some, if◌then◌else◌}
use Rattle.etagere_base.specs.Frames.{longest_side}
use Rattle.etagere_base.specs.Sides.{side}

-- a length, where it is not above the longest side
abbrev pub short_side : ℤ → Option ℤ
short_side length = if nat_lt longest_side (side length) then None else Some length
