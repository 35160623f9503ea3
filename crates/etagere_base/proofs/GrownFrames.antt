-- The frame of a grown atlas keeps the ranges of a frame, and is no smaller.
use Rattle.std.proofs.Common.{◌≡◌, ℕ, zero, suc, ◌+◌, ◌*◌, ◌/◌, ◌%◌, ◌<◌, ◌≤◌, ◌^◌, Bool, true, false, cond, Option, Some, None, option_map, refl, arith, subst, ◌||◌, ◌&&◌, sym, ap, ◌∙◌, ◌-◌, ◌==◌}
use Rattle.std.proofs.Math.Nat.{div-mul-le_self, mul-mod_left, mul-le-mul_right, suc-mul, zero-mul}
use Rattle.std.proofs.lemmas.Bool.{eq-eqb, eqb-true}
use Rattle.std.proofs.lemmas.Nat.{le-div}
use Rattle.std.specs.Prelude.{nat_lt, nat_le, not}
use Rattle.etagere_base.specs.declared.faults.ResizeFault.{ResizeFault}
use Rattle.etagere_base.specs.declared.frames.Frame.{Frame}
use Rattle.etagere_base.specs.declared.geometry.Size.{Size}
use Rattle.etagere_base.specs.Frames.{IsFrame, across_side, alignment_along, along_side}
use Rattle.etagere_base.specs.Growing.{grown_column_width, grown_frame, resize_fault, resized}
use Rattle.etagere_base.specs.Sides.{down, side}
use Rattle.etagere_base.proofs.AlignedPlaces.{multiple}
use Rattle.etagere_base.proofs.FrameSides.{column_width-le}

-- a size is no smaller than the atlas
pub record IsNoSmaller (frame : Frame) (size : Size) : Type 0 where
  pub wider : frame.width ≤ side size.width
  pub taller : frame.height ≤ side size.height

-- what the tests of a size have shown
pub record FitsSize (longest : ℕ) (frame : Frame) (size : Size) : Type 0 where
  pub width : (1 ≤ side size.width) × (side size.width ≤ longest)
  pub height : (1 ≤ side size.height) × (side size.height ≤ longest)
  pub no_smaller : IsNoSmaller frame size
  pub area : side size.width * side size.height < 2 ^ 31

-- tests of which none passed
none-passed : {A : Type 0} (a b c : Bool) (x y z : A) → cond a (Some x) (cond b (Some y) (cond c (Some z) None)) ≡ None → (a ≡ false) × (b ≡ false) × (c ≡ false)
none-passed true b c x y z h = cc
none-passed false true c x y z h = cc
none-passed false false true x y z h = cc
none-passed false false false x y z h = (refl, refl, refl)

-- sides in range
in-range : (longest n m : ℕ) → not ((nat_lt 0 n && nat_le n longest) && (nat_lt 0 m && nat_le m longest)) ≡ false → ((1 ≤ n) × (n ≤ longest)) × ((1 ≤ m) × (m ≤ longest))
in-range longest n m h = ((grind arith, grind arith), (grind arith, grind arith))

-- sides that aren't smaller
no-smaller : (n a m b : ℕ) → (nat_lt n a || nat_lt m b) ≡ false → (a ≤ n) × (b ≤ m)
no-smaller n a m b h = (grind arith, grind arith)

-- a number that isn't larger
no-larger : (n m : ℕ) → nat_lt n m ≡ false → m ≤ n
no-larger n m h = grind arith

-- a size without a fault
pub size-fits : (longest : ℕ) (frame : Frame) (size : Size) → resize_fault longest frame size ≡ None → FitsSize longest frame size
size-fits longest frame size h =
    let tests = none-passed _ _ _ _ _ _ h in
    let range = in-range longest (side size.width) (side size.height) tests.0 in
    let sides = no-smaller (side size.width) frame.width (side size.height) frame.height tests.1 in
    let area = no-larger (2 ^ 31 - 1) (side size.width * side size.height) tests.2 in
    record { width = range.0; height = range.1; no_smaller = record { wider = sides.0; taller = sides.1 }; area = omega (arith, area) }

-- no fault under another name is no fault
pub no-fault : {F : Type 0} (name : ResizeFault → F) (fault : Option ResizeFault) → option_map name fault ≡ None → fault ≡ None
no-fault name None h = refl
no-fault name (Some x) h = absurd (cc)

-- a frame of a shorter longest side
pub frame-weaken : (short long : ℕ) (frame : Frame) → short ≤ long → IsFrame short frame → IsFrame long frame
frame-weaken short long frame h is_frame =
    record {
      width = (is_frame.width.0, omega (arith, h, is_frame.width.1));
      height = (is_frame.height.0, omega (arith, h, is_frame.height.1));
      area = is_frame.area;
      alignment_width = is_frame.alignment_width;
      alignment_height = is_frame.alignment_height;
      column_width = is_frame.column_width;
      aligned = is_frame.aligned;
      columns = is_frame.columns;
    }

-- the sides of the grown atlas are no shorter
pub sides-grow : (frame : Frame) (size : Size) → IsNoSmaller frame size
    → (along_side frame ≤ along_side (resized frame size)) × (across_side frame ≤ across_side (resized frame size))
sides-grow frame size fits = by_turn frame.vertical refl
  where
    by_turn : (b : Bool) → frame.vertical ≡ b → (along_side frame ≤ along_side (resized frame size)) × (across_side frame ≤ across_side (resized frame size))
    by_turn true e = rw e (fits.taller, fits.wider)
    by_turn false e = rw e (fits.wider, fits.taller)

-- the width of columns that grow: no smaller, aligned, within the atlas, and no two would fit for one
pub record GrowsWidth (frame : Frame) (size : Size) : Type 0 where
  pub more : frame.column_width ≤ grown_column_width frame size
  pub aligned : grown_column_width frame size % alignment_along frame ≡ 0
  pub within : grown_column_width frame size ≤ along_side (resized frame size)
  pub one : frame.columns ≡ 1 → along_side (resized frame size) / grown_column_width frame size ≡ 1
  pub many : 2 ≤ frame.columns → grown_column_width frame size ≡ frame.column_width

-- an alignment along the shelves is at least 1
pub alignment-positive : (longest : ℕ) (frame : Frame) → IsFrame longest frame → 1 ≤ alignment_along frame
alignment-positive longest frame is_frame = by_turn frame.vertical refl
  where
    by_turn : (b : Bool) → frame.vertical ≡ b → 1 ≤ alignment_along frame
    by_turn true e = rw e (is_frame.alignment_height.0)
    by_turn false e = rw e (is_frame.alignment_width.0)

-- a length rounded down is no shorter than an aligned one within it, and more than half of it where one fits
pub down-le : (length along alignment : ℕ) → 1 ≤ alignment → length % alignment ≡ 0 → length ≤ along → length ≤ down along alignment
down-le length along alignment some even within =
    omega (
      arith,
      multiple length alignment even,
      mul-le-mul_right alignment (le-div (length / alignment) along alignment some (omega (arith, within, multiple length alignment even))),
    )

-- what is left of a length that was rounded down is shorter than the alignment
down-rest : (along alignment : ℕ) → 1 ≤ alignment → along < down along alignment + alignment
down-rest along alignment some = grind arith

-- one of a length fits another that is shorter than two of it
fits-once : (along width : ℕ) → 1 ≤ width → width ≤ along → along < width + width → along / width ≡ 1
fits-once along width some within short = grind arith

-- a multiple that is something is no less than one time
least : (n m : ℕ) → 1 ≤ n → n % m ≡ 0 → m ≤ n
least n m some even = of (n / m) (multiple n m even)
  where
    of : (k : ℕ) → n ≡ k * m → m ≤ n
    of zero h = absurd (omega (arith, some, h, zero-mul m))
    of (suc k) h = omega (arith, h, suc-mul k m)

-- how the width of columns grows
pub width-grows : (longest : ℕ) (frame : Frame) (size : Size) → IsFrame longest frame → IsNoSmaller frame size → GrowsWidth frame size
width-grows longest frame size is_frame fits = by_test (frame.columns == 1) refl
  where
    along : ℕ
    along = along_side (resized frame size)

    longer : along_side frame ≤ along
    longer = (sides-grow frame size fits).0

    some : 1 ≤ alignment_along frame
    some = alignment-positive longest frame is_frame

    by_test : (b : Bool) → (frame.columns == 1) ≡ b → GrowsWidth frame size
    by_test true e =
        let width : grown_column_width frame size ≡ down along (alignment_along frame) = rw e refl in
        let more : frame.column_width ≤ down along (alignment_along frame) =
        down-le frame.column_width along (alignment_along frame) some is_frame.aligned (omega (arith, column_width-le longest frame is_frame, longer)) in
        let single : alignment_along frame ≤ down along (alignment_along frame) =
        omega (arith, more, least frame.column_width (alignment_along frame) is_frame.column_width is_frame.aligned) in
        record {
          more = rw width more;
          aligned = rw width (mul-mod_left _ _);
          within = rw width (div-mul-le_self along (alignment_along frame));
          one = λ _. rw width
              (fits-once along (down along (alignment_along frame)) (omega (arith, some, single)) (div-mul-le_self along (alignment_along frame))
              (omega (arith, single, down-rest along (alignment_along frame) some)));
          many = λ h. absurd (omega (arith, h, eqb-true frame.columns 1 e));
        }
    by_test false e =
        let width : grown_column_width frame size ≡ frame.column_width = rw e refl in
        record {
          more = omega (arith, width);
          aligned = rw width is_frame.aligned;
          within = omega (arith, width, column_width-le longest frame is_frame, longer);
          one = λ h. absurd (differs e (eq-eqb frame.columns 1 h));
          many = λ _. width;
        }
      where
        differs : {b : Bool} → b ≡ false → b ≡ true → ⊥
        differs h k = cc

-- one column becomes as wide as the alignment allows
one-width : (frame : Frame) (size : Size) → frame.columns ≡ 1 → grown_column_width frame size ≡ down (along_side (resized frame size)) (alignment_along frame)
one-width frame size one = rw (eq-eqb frame.columns 1 one) refl

-- one column grows as wide as the atlas, and stays one
pub one-grown : (longest : ℕ) (frame : Frame) (size : Size) → IsFrame longest frame → IsNoSmaller frame size → frame.columns ≡ 1
    → grown_frame frame size ≡ record (resized frame size) { column_width = down (along_side (resized frame size)) (alignment_along frame) }
one-grown longest frame size is_frame fits one =
    let single : along_side (resized frame size) / grown_column_width frame size ≡ 1 = (width-grows longest frame size is_frame fits).one one in
    ap (λ (columns : ℕ). record (resized frame size) { column_width = grown_column_width frame size; columns = columns }) (single ∙ sym one)
    ∙ ap (λ (width : ℕ). record (resized frame size) { column_width = width }) (one-width frame size one)

-- the grown frame, which has no fewer columns, no narrower and no lower ones
pub record GrowsFrame (longest : ℕ) (frame : Frame) (size : Size) : Type 0 where
  pub is_frame : IsFrame longest (grown_frame frame size)
  pub width : GrowsWidth frame size
  pub columns : frame.columns ≤ (grown_frame frame size).columns
  pub across : across_side frame ≤ across_side (grown_frame frame size)

-- columns that aren't one are two at least
several : (n : ℕ) → (n == 1) ≡ false → 1 ≤ n → 2 ≤ n
several n h some = grind arith

-- a grow without a fault makes a frame
pub frame-grows : (longest : ℕ) (frame : Frame) (size : Size) → IsFrame longest frame → FitsSize longest frame size → GrowsFrame longest frame size
frame-grows longest frame size is_frame fits =
    let along : ℕ = along_side (resized frame size) in
    let width : GrowsWidth frame size = width-grows longest frame size is_frame fits.no_smaller in
    let wide : 1 ≤ grown_column_width frame size = omega (arith, width.more, is_frame.column_width) in
    let more : frame.columns ≤ along / grown_column_width frame size = by_test (frame.columns == 1) refl wide width in
    record {
      is_frame =
          record {
            width = fits.width;
            height = fits.height;
            area = fits.area;
            alignment_width = is_frame.alignment_width;
            alignment_height = is_frame.alignment_height;
            column_width = wide;
            aligned = width.aligned;
            columns = (omega (arith, more, is_frame.columns.0), div-mul-le_self along (grown_column_width frame size));
          };
      width = width;
      columns = more;
      across = (sides-grow frame size fits.no_smaller).1;
    }
  where
    by_test : (b : Bool) → (frame.columns == 1) ≡ b → 1 ≤ grown_column_width frame size → GrowsWidth frame size
        → frame.columns ≤ along_side (resized frame size) / grown_column_width frame size
    by_test true e wide width = omega (arith, width.one (eqb-true frame.columns 1 e), eqb-true frame.columns 1 e)
    by_test false e wide width =
        le-div frame.columns (along_side (resized frame size)) (grown_column_width frame size) wide
        (subst (λ (w : ℕ). frame.columns * w ≤ along_side (resized frame size)) (sym (width.many (several frame.columns e is_frame.columns.0)))
        (omega (arith, is_frame.columns.1, (sides-grow frame size fits.no_smaller).0)))
