-- Which reason the tests of a size leave, where its sides fit a column.
use Rattle.std.proofs.Common.{◌≡◌, ℕ, ◌<◌, ◌≤◌, Bool, true, false, nat_lt, Option, None, Some, refl, ap, arith, sym, ◌∙◌}
use Rattle.std.proofs.lemmas.Bool.Decides.{nat_tests}
use Rattle.std.specs.Prelude.{if◌then◌else◌}
use Rattle.etagere_base.specs.declared.faults.SizeRefusal.{SizeRefusal}
use Rattle.etagere_base.specs.declared.faults.SizeRefusal.TheVariants.{NotPositive, TooLong, WiderThanColumn, TallerThanAtlas}
use Rattle.etagere_base.specs.declared.frames.Frame.{Frame}
use Rattle.etagere_base.specs.declared.geometry.Size.{Size}
use Rattle.etagere_base.specs.declared.sides.Sides.{Sides}
use Rattle.etagere_base.specs.Frames.{across_side, is_not_positive, is_too_long, rounded}
use Rattle.etagere_base.specs.Refusing.{is_taller_than_atlas, is_wider_than_column, size_refusal}
use Rattle.shelf_records.specs.RecordLists.{Records}
use Rattle.shelf_model.specs.declared.faults.Refusal.TheVariants.{NoRoom, NoRecords}
use Rattle.shelf_model.specs.Choice.{shelf_height}
use Rattle.shelf_model.specs.Refusal.{has_no_room, lacks_records, refusal, widest_for}
use Rattle.shelf_model.specs.State.{AtlasState}
use Rattle.shelf_model.specs.Widest.{widest_free}
use Rattle.shelf_records.specs.Private.Kept.{AreKept, state_of}
use Rattle.shelf_search.specs.Private.Asking.{widest_by}
use Rattle.shelf_search.proofs.Searched.CountedStates.{kept-widest}

not-above : (n limit : ℕ) → n ≤ limit → nat_lt limit n ≡ false
not-above n limit h = grind (arith, nat_tests)

is-below : (n m : ℕ) → n < m → nat_lt n m ≡ true
is-below n m h = grind (arith, nat_tests)

-- the reason of a size, by the tests of its sides
abbrev reason_by : (empty long wide tall : Bool) → Option SizeRefusal
reason_by empty long wide tall =
    if empty then Some NotPositive
    else (if long then Some TooLong else (if wide then Some WiderThanColumn else (if tall then Some TallerThanAtlas else None)))

-- a size without a reason of its own is no taller than the atlas
pub fits-across : (frame : Frame) (size : Size) → size_refusal frame size ≡ None → (rounded frame size).across ≤ across_side frame
fits-across frame size fits = by_tests (is_not_positive size) (is_too_long size) (is_wider_than_column frame size) (is_taller_than_atlas frame size) refl fits
  where
    by_tests : (empty long wide tall : Bool) → is_taller_than_atlas frame size ≡ tall → reason_by empty long wide tall ≡ None → (rounded frame size).across ≤ across_side frame
    by_tests true long wide tall e none = absurd (cc)
    by_tests false true wide tall e none = absurd (cc)
    by_tests false false true tall e none = absurd (cc)
    by_tests false false false true e none = absurd (cc)
    by_tests false false false false e none = grind (arith, nat_tests)

-- the widest that was found is that of the state
pub widest-told : (frame : Frame) (records : Records) (size : Size) (sides : Sides) (height widest : ℕ) → AreKept frame records → sides ≡ rounded frame size → height ≡ shelf_height frame sides.across
    → widest ≡ widest_by records height → widest ≡ widest_for (state_of frame records) (rounded frame size)
widest-told frame records size sides height widest kept is stepped found =
    found
    ∙ sym (kept-widest frame records height kept)
    ∙ ap (λ h. widest_free h (state_of frame records).shelves) (stepped ∙ ap (λ (s : Sides). shelf_height frame s.across) is)

module _ (state : AtlasState) (size : Size) (fits : size_refusal state.frame size ≡ None) (sides : Sides) (is : sides ≡ rounded state.frame size) (widest : ℕ) (told : widest ≡ widest_for state (rounded state.frame size)) where
  -- the widest is less wide
  pub room-lacking : widest < sides.along → Some (NoRoom widest) ≡ refusal state size
  room-lacking narrow =
      let none : has_no_room state (rounded state.frame size) ≡ true =
      is-below (widest_for state (rounded state.frame size)) (rounded state.frame size).along (omega (arith, ap (λ (s : Sides). s.along) is, told, narrow)) in
      rw (fits, none) (ap (λ n. Some (NoRoom n)) told)

  -- it is as wide
  has-room : sides.along ≤ widest → has_no_room state (rounded state.frame size) ≡ false
  has-room wide =
      not-above (rounded state.frame size).along (widest_for state (rounded state.frame size)) (omega (arith, ap (λ (s : Sides). s.along) is, told, wide))

  pub records-lacking : sides.along ≤ widest → lacks_records state sides ≡ true → Some NoRecords ≡ refusal state size
  records-lacking wide lacks =
      let some : has_no_room state (rounded state.frame size) ≡ false = has-room wide in
      let lacking : lacks_records state (rounded state.frame size) ≡ true = ap (lacks_records state) (sym is) ∙ lacks in
      rw (fits, some, lacking) refl

  pub nothing-lacking : sides.along ≤ widest → lacks_records state sides ≡ false → None ≡ refusal state size
  nothing-lacking wide lacks =
      let some : has_no_room state (rounded state.frame size) ≡ false = has-room wide in
      let lacking : lacks_records state (rounded state.frame size) ≡ false = ap (lacks_records state) (sym is) ∙ lacks in
      rw (fits, some, lacking) refl
