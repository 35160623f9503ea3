-- What a size asks of the shelves: both sides, aligned, within a column. What lies at a place is as large as a size
-- where it has the sides asked for.
use Rattle.std.proofs.Common.{◌≡◌, ℕ, suc, ◌+◌, ◌-◌, ◌*◌, ◌/◌, ◌%◌, ◌<◌, ◌≤◌, Bool, true, false, cond, Option, None, Some, nat_le, nat_lt, subst, arith, refl}
use Rattle.std.proofs.Math.Nat.{div-lt_iff_lt-mul, mul-le-mul_right, mul-mod_left}
use Rattle.std.proofs.lemmas.Bool.{and_parts, leb-true}
use Rattle.std.proofs.lemmas.Int.{ints}
use Rattle.std.specs.Prelude.{◌&&◌}
use Rattle.etagere_base.specs.declared.frames.Frame.{Frame}
use Rattle.etagere_base.specs.declared.geometry.Size.{Size}
use Rattle.etagere_base.specs.declared.sides.Sides.{Sides}
use Rattle.etagere_base.specs.Frames.{IsFrame, across_side, alignment_along, asked, fitting, is_side}
use Rattle.etagere_base.specs.Places.{rectangle_at}
use Rattle.etagere_base.specs.Rectangles.{IsLarge}
use Rattle.etagere_base.specs.Sides.{IsRoundedUp, coarseness, side, step, swapped_axes, up}

-- what is asked of the shelves has both sides, is aligned and fits a column
pub record IsAsked (frame : Frame) (sides : Sides) : Type 0 where
  pub along : 1 ≤ sides.along
  pub across : 1 ≤ sides.across
  pub aligned : sides.along % alignment_along frame ≡ 0
  pub narrow : sides.along ≤ frame.column_width
  pub short : sides.across ≤ across_side frame

-- what is given where a test passes, by what may give none
pub test-both : {A : Type 0} (b : Bool) (o : Option A) (y : A) → cond b o None ≡ Some y → (b ≡ true) × (o ≡ Some y)
test-both true o y h = (cc, h)
test-both false o y h = cc

-- what a length is rounded up to is the least multiple of the alignment that is not below it
pub rounded-up : (length alignment : ℕ) → 1 ≤ alignment → IsRoundedUp length alignment (up length alignment)
rounded-up length alignment h = record { multiple = mul-mod_left _ _; enough = omega arith; least = none_between }
  where
    none_between : (count : ℕ) → length ≤ count * alignment → up length alignment ≤ count * alignment
    none_between count within =
        let below : (length + (alignment - 1)) / alignment < suc count =
        (div-lt_iff_lt-mul {k = alignment} {x = length + (alignment - 1)} {y = suc count} h).1 (omega arith) in
        mul-le-mul_right alignment (omega arith)

-- a height is at most what it is stepped to
pub step-tall : (height : ℕ) → height ≤ step height
step-tall height = (rounded-up height (coarseness height) (grind arith)).enough

-- sides that fit a column
fitting-fits : (frame : Frame) (s sides : Sides) → fitting frame s ≡ Some sides
    → (s ≡ sides) × (sides.along ≤ frame.column_width) × (sides.across ≤ across_side frame)
fitting-fits frame s sides h =
    let given = test-both (nat_le s.along frame.column_width && nat_le s.across (across_side frame)) (Some s) sides h in
    let tests = and_parts (nat_le s.along frame.column_width) (nat_le s.across (across_side frame)) given.0 in
    let same : s ≡ sides = cc in (
      same,
      subst (λ (s : Sides). s.along ≤ frame.column_width) same (leb-true s.along frame.column_width tests.0),
      subst (λ (s : Sides). s.across ≤ across_side frame) same (leb-true s.across (across_side frame) tests.1),
    )

-- two aligned sides are both there along and across the shelves, and aligned along them
record IsLaid (frame : Frame) (sides : Sides) : Type 0 where
  pub along : 1 ≤ sides.along
  pub across : 1 ≤ sides.across
  pub aligned : sides.along % alignment_along frame ≡ 0

-- whichever side lies along the shelves
swapped-laid : (frame : Frame) (width height : ℕ)
    → 1 ≤ width → 1 ≤ height → width % frame.alignment_width ≡ 0 → height % frame.alignment_height ≡ 0
    → IsLaid frame (swapped_axes frame.vertical (record { along = width; across = height }))
swapped-laid frame width height wide tall aligned_width aligned_height = by_turn frame.vertical refl
  where
    by_turn : (b : Bool) → frame.vertical ≡ b → IsLaid frame (swapped_axes b (record { along = width; across = height }))
    by_turn true e = record { along = tall; across = wide; aligned = rw e aligned_height }
    by_turn false e = record { along = wide; across = tall; aligned = rw e aligned_width }

-- the tests of a size show that it has both sides
sides_positive : (n m : ℕ) → ((nat_lt 0 n && nat_le n 65535) && (nat_lt 0 m && nat_le m 65535)) ≡ true → (1 ≤ n) × (1 ≤ m)
sides_positive n m h = (grind arith, grind arith)

-- what is asked of the shelves of a frame
pub asked-sides : (longest : ℕ) (frame : Frame) (size : Size) (sides : Sides) → IsFrame longest frame → asked frame size ≡ Some sides → IsAsked frame sides
asked-sides longest frame size sides valid h =
    let tests = test-both (is_side 65535 size.width && is_side 65535 size.height) _ sides h in
    let wide = rounded-up (side size.width) frame.alignment_width valid.alignment_width.0 in
    let tall = rounded-up (side size.height) frame.alignment_height valid.alignment_height.0 in
    let range = sides_positive (side size.width) (side size.height) tests.0 in
    let fits = fitting-fits frame _ sides tests.1 in
    let laid = subst (IsLaid frame) fits.0
    (swapped-laid frame (up (side size.width) frame.alignment_width) (up (side size.height) frame.alignment_height)
    (omega arith) (omega arith) wide.multiple tall.multiple) in
    record { along = laid.along; across = laid.across; aligned = laid.aligned; narrow = fits.1; short = fits.2 }

-- what is asked of the shelves is the size rounded up
pub asked-is : (frame : Frame) (size : Size) (sides : Sides) → asked frame size ≡ Some sides
    → swapped_axes frame.vertical (record { along = up (side size.width) frame.alignment_width; across = up (side size.height) frame.alignment_height }) ≡ sides
asked-is frame size sides h =
    (fitting-fits frame _ sides (test-both (is_side 65535 size.width && is_side 65535 size.height) _ sides h).1).0

-- what lies at a place is large where it is as wide along and as tall across as the size, rounded up
pub large-at : (frame : Frame) (size : Size) (along across width height : ℕ)
    → (swapped_axes frame.vertical (record { along = up (side size.width) frame.alignment_width; across = up (side size.height) frame.alignment_height })).along ≤ width
    → (swapped_axes frame.vertical (record { along = up (side size.width) frame.alignment_width; across = up (side size.height) frame.alignment_height })).across ≤ height
    → IsLarge frame size (rectangle_at frame along across width height)
large-at frame size along across width height = by_turn frame.vertical refl
  where
    wide : ℕ
    wide = up (side size.width) frame.alignment_width

    tall : ℕ
    tall = up (side size.height) frame.alignment_height

    by_turn : (b : Bool) → frame.vertical ≡ b → (swapped_axes b (record { along = wide; across = tall })).along ≤ width → (swapped_axes b (record { along = wide; across = tall })).across ≤ height
        → IsLarge frame size (rectangle_at frame along across width height)
    by_turn true e w h = record { width = rw e (omega (arith, ints)); height = rw e (omega (arith, ints)) }
    by_turn false e w h = record { width = rw e (omega (arith, ints)); height = rw e (omega (arith, ints)) }
