-- Lengths: rounding by an alignment, the steps of heights of shelves, and swapping the axes.
use Rattle.std.specs.Prelude.{◌≡◌, ℕ, ◌+◌, ◌-◌, ◌*◌, ◌/◌, ◌%◌, ◌≤◌, Bool, true, false, ℤ, pos, negsuc, nat_lt, if◌then◌else◌}
use Rattle.etagere_base.specs.declared.sides.Sides.{Sides}

-- a signed length as a number: 0 where it is negative
abbrev pub side : ℤ → ℕ
side (pos n) = n
side (negsuc n) = 0

-- the two lengths change places where the shelves are vertical
abbrev pub swapped_axes : Bool → Sides → Sides
swapped_axes true sides = record { along = sides.across; across = sides.along }
swapped_axes false sides = sides

-- the least multiple of the alignment that is not below the length
abbrev pub up : ℕ → ℕ → ℕ
up length alignment = (length + (alignment - 1)) / alignment * alignment

-- a length rounded up: of the multiples of the alignment that are not below it, this is the least
pub record IsRoundedUp (length alignment rounded : ℕ) : Type 0 where
  pub multiple : rounded % alignment ≡ 0
  pub enough : length ≤ rounded
  pub least : (count : ℕ) → length ≤ count * alignment → rounded ≤ count * alignment

-- the greatest multiple of the alignment that is not above the length
abbrev pub down : ℕ → ℕ → ℕ
down length alignment = length / alignment * alignment

-- how coarsely the heights of shelves are stepped
abbrev pub coarseness : ℕ → ℕ
coarseness height =
    if nat_lt height 32 then 8
    else (if nat_lt height 128 then 16 else (if nat_lt height 512 then 32 else 64))

-- the height of a shelf that is made for items of this height
abbrev pub step : ℕ → ℕ
step height = up height (coarseness height)
