-- The widths of buckets: equal shares of a column, rounded down to the alignment.
use Rattle.std.proofs.Common.{◌≡◌, ℕ, zero, suc, ◌+◌, ◌-◌, ◌*◌, ◌/◌, ◌%◌, ◌<◌, ◌≤◌, Bool, true, false, cond, max, refl, arith, mul_comm}
use Rattle.std.proofs.Math.Nat.{div-mul-le_self, dvd-add, le-div_iff_mul-le, mul-mod_left, dvd-mul_left_of_dvd, mul-le-mul_left, mul-le-mul_right, mul-le-mul, mul-div-le}
use Rattle.std.proofs.lemmas.Nat.{div-add-mod'}
use Rattle.std.proofs.lemmas.Nat.Gcd.{dvd_of_mod-eq-zero, mod-eq-zero_of_dvd}
use Rattle.std.specs.Prelude.{nat_le}
use Rattle.etagere_base.specs.declared.frames.Frame.{Frame}
use Rattle.etagere_base.specs.Frames.{alignment_along}
use Rattle.etagere_base.specs.Sides.{down}
use Rattle.bucketed_model.specs.Adding.{bucket_count, doubled, new_count, width_of_share}
use Rattle.bucketed_model.specs.Frames.{IsBucketedFrame}

-- a multiple of a length without a remainder has none
pub aligned-times : (n length alignment : ℕ) → length % alignment ≡ 0 → (n * length) % alignment ≡ 0
aligned-times n length alignment h = mod-eq-zero_of_dvd alignment (dvd-mul_left_of_dvd alignment (dvd_of_mod-eq-zero alignment h) n)

-- the sum of two lengths without a remainder has none
pub aligned-sum : (one other alignment : ℕ) → one % alignment ≡ 0 → other % alignment ≡ 0 → (one + other) % alignment ≡ 0
aligned-sum one other alignment h k =
    mod-eq-zero_of_dvd alignment (dvd-add alignment (dvd_of_mod-eq-zero alignment h) (dvd_of_mod-eq-zero alignment k))

-- doubling ends at one power, or below twice the number
doubled-le : (steps power n : ℕ) → 1 ≤ power → (1 ≤ doubled steps power n) × (doubled steps power n ≤ max power (n + n))
doubled-le zero power n h = (h, omega arith)
doubled-le (suc steps) power n h = by_test (nat_le n power) refl (doubled-le steps (power + power) n (omega arith))
  where
    by_test : (b : Bool) → nat_le n power ≡ b → (1 ≤ doubled steps (power + power) n) × (doubled steps (power + power) n ≤ max (power + power) (n + n)) → (1 ≤ cond b power (doubled steps (power + power) n)) × (cond b power (doubled steps (power + power) n) ≤ max power (n + n))
    by_test true e k = (h, omega arith)
    by_test false e k = let more : power < n = grind arith in (k.0, omega (arith, k.1))

-- a shelf is divided into no more buckets than it is items long
pub bucket_count-le : (items : ℕ) → (1 ≤ bucket_count items) × (bucket_count items ≤ max 1 items)
bucket_count-le items = few (doubled 12 1 (items / 16 - 1)) (doubled-le 12 1 (items / 16 - 1) (omega arith))
  where
    few : (many : ℕ) → (1 ≤ many) × (many ≤ max 1 (items / 16 - 1 + (items / 16 - 1))) → (1 ≤ (cond (nat_le items 4) 1 (cond (nat_le items 16) 2 (cond (nat_le items 32) 4 many)))) × ((cond (nat_le items 4) 1 (cond (nat_le items 16) 2 (cond (nat_le items 32) 4 many))) ≤ max 1 items)
    few many h = by_tests (nat_le items 4) (nat_le items 16) (nat_le items 32) refl refl refl
      where
        by_tests : (a b c : Bool) → nat_le items 4 ≡ a → nat_le items 16 ≡ b → nat_le items 32 ≡ c → (1 ≤ (cond a 1 (cond b 2 (cond c 4 many)))) × ((cond a 1 (cond b 2 (cond c 4 many))) ≤ max 1 items)
        by_tests true b c e f g = (omega arith, omega arith)
        by_tests false true c e f g = let more : 4 < items = grind arith in (omega arith, omega arith)
        by_tests false false true e f g = let more : 16 < items = grind arith in (omega arith, omega arith)
        by_tests false false false e f g = let more : 32 < items = grind arith in (h.0, omega (arith, h.1))

-- the shares of a column fit it side by side
pub shares-fit : (frame : Frame) (count : ℕ) → count * width_of_share frame count ≤ frame.column_width
shares-fit frame count =
    omega (
      arith,
      mul-le-mul_left count (div-mul-le_self (frame.column_width / count) (alignment_along frame)),
      mul_comm count (frame.column_width / count),
      div-mul-le_self frame.column_width count,
    )

-- a share is aligned
pub share-aligned : (frame : Frame) (count : ℕ) → width_of_share frame count % alignment_along frame ≡ 0
share-aligned frame count = mul-mod_left _ _

-- an aligned length that is at most another is at most that one rounded down
pub down-le : (length other alignment : ℕ) → 1 ≤ alignment → length % alignment ≡ 0 → length ≤ other → length ≤ down other alignment
down-le length other alignment one even h =
    let whole : length ≡ length / alignment * alignment = omega (arith, div-add-mod' length alignment) in
    let fits : length / alignment ≤ other / alignment = (le-div_iff_mul-le one).1 (omega (arith, whole)) in
    omega (arith, whole, mul-le-mul_right alignment fits)

-- an item is at most as wide as the share of a shelf that is made for it
pub share-wide : (frame : Frame) (width height left : ℕ) → 1 ≤ alignment_along frame → 1 ≤ width → width ≤ frame.column_width → width % alignment_along frame ≡ 0 → 1 ≤ left
    → width ≤ width_of_share frame (new_count frame width height left)
share-wide frame width height left one some narrow even more =
    let all = bucket_count-le (frame.column_width / max width height) in
    down-le width _ (alignment_along frame) one even (fits (new_count frame width height left) (omega (arith, all.0), omega (arith, all.1)))
  where
    most_area : (n : ℕ) → suc (suc n) ≤ frame.column_width / max width height → width * suc (suc n) ≤ max width height * (frame.column_width / max width height)
    most_area n most = let wide : width ≤ max width height = omega arith in mul-le-mul wide most

    fits : (count : ℕ) → (1 ≤ count) × (count ≤ max 1 (frame.column_width / max width height)) → width ≤ frame.column_width / count
    fits zero h = absurd (omega (arith, h.0))
    fits (suc zero) h = (le-div_iff_mul-le (omega arith)).1 (omega arith)
    fits (suc (suc n)) h =
        let most : suc (suc n) ≤ frame.column_width / max width height = omega (arith, h.1) in
        (le-div_iff_mul-le (omega arith)).1
        (omega (arith, most_area n most, mul-div-le frame.column_width (max width height)))

-- an alignment is at least 1 along the shelves
pub alignment-positive : (frame : Frame) → IsBucketedFrame frame → 1 ≤ alignment_along frame
alignment-positive frame is_frame = by_turn frame.vertical refl
  where
    by_turn : (b : Bool) → frame.vertical ≡ b → 1 ≤ alignment_along frame
    by_turn true e = rw e (is_frame.alignment_height.0)
    by_turn false e = rw e (is_frame.alignment_width.0)
