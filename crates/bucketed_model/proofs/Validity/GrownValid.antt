-- A grow leads from a valid state to a valid one.
use Rattle.std.proofs.Common.{◌≡◌, ℕ, ◌+◌, ◌-◌, ◌*◌, ◌/◌, ◌≤◌, Bool, true, false, None, List, [], ◌∷◌, ◌++◌, length, take, drop, min, refl, arith, sym, ◌∙◌, subst, ◌==◌, zero-add}
use Rattle.std.proofs.Math.Nat.{div-mul-le_self, mul-le-mul_right, zero-mul}
use Rattle.std.proofs.lemmas.Bool.{eqb-true}
use Rattle.std.proofs.lemmas.List.{length-take}
use Rattle.std.specs.List.{AllByRecursion}
use Rattle.etagere_base.proofs.EachLemmas.{Each-append, Each-weaken}
use Rattle.etagere_base.proofs.GrownFrames.{GrowsFrame, frame-grows}
use Rattle.etagere_base.specs.declared.frames.Frame.{Frame}
use Rattle.etagere_base.specs.declared.geometry.Size.{Size}
use Rattle.etagere_base.specs.Frames.{across_side, alignment_along}
use Rattle.etagere_base.specs.Lists.{times}
use Rattle.bucketed_model.specs.Adding.{AreNewTags, IsTag, new_buckets}
use Rattle.bucketed_model.specs.Atlas.{Grows}
use Rattle.bucketed_model.specs.Frames.{IsBucketedFrame}
use Rattle.bucketed_model.specs.Growing.{grow_fault, grown, grown_column_width, grown_counts, grown_frame, grow_counts, resized, total, widened}
use Rattle.bucketed_model.specs.State.{Bucket, BucketShelf, BucketedState, Tag, bucket_numbers, buckets_left, column_place, tag_numbers, with_buckets}
use Rattle.bucketed_model.specs.Valid.{AreShelves, IsBucket, IsShelf, IsValid, StandBetween}
use Rattle.bucketed_model.proofs.Shelving.Added.{each-drop, each-take}
use Rattle.bucketed_model.proofs.Shelving.GrownFrames.{Fits, grow-fits}
use Rattle.bucketed_model.proofs.Shelving.GrownShelves.{columns-widened, counts-le, AreZero, counts-zero, ends-widened, height-widened, numbers-widened, stand-append, stand-later, use-widened, widened-zero}
use Rattle.bucketed_model.proofs.Shelving.Made.{each-new, stand-new}

-- buckets that stand in a column that begins at 0
stand-zero : (al width begin column : ℕ) (bs : List Bucket) → begin ≡ 0 → StandBetween al width begin (begin + column) bs → StandBetween al width 0 column bs
stand-zero al width begin column bs e stand =
    subst (λ (end : ℕ). StandBetween al width 0 end bs) (zero-add column) (subst (λ (b : ℕ). StandBetween al width b (b + column) bs) e stand)

-- and back
stand-begin : (al width begin column : ℕ) (bs : List Bucket) → begin ≡ 0 → StandBetween al width 0 column bs → StandBetween al width begin (begin + column) bs
stand-begin al width begin column bs e stand =
    subst (λ (b : ℕ). StandBetween al width b (b + column) bs) (sym e) (subst (λ (end : ℕ). StandBetween al width 0 end bs) (sym (zero-add column)) stand)

-- a frame with other sides, divided otherwise
abbrev divided : Frame → Size → ℕ → ℕ → Frame
divided frame size column_width columns = record (resized frame size) { column_width = column_width; columns = columns }

-- a shelf of the one column, with new buckets behind its own
shelf-widened : (frame : Frame) (size : Size) (column_width columns : ℕ) (x : BucketShelf) (tags : List Tag) → 1 ≤ columns → IsBucketedFrame frame → frame.columns ≡ 1 → IsShelf frame x
    → frame.column_width + length tags * x.bucket_width ≤ column_width → AllByRecursion IsTag tags
    → IsShelf (divided frame size column_width columns) (with_buckets (new_buckets frame.column_width x.bucket_width tags ++ x.buckets) x)
shelf-widened frame size column_width columns x tags some is_frame one is_shelf fits each =
    let al = alignment_along frame in
    let new = new_buckets frame.column_width x.bucket_width tags in
    let first : x.column ≡ 0 = omega (arith, is_shelf.column, one) in
    let old = stand-zero al x.bucket_width (column_place frame x.column) frame.column_width x.buckets (rw first (zero-mul frame.column_width)) is_shelf.stand in
    let both = stand-append al x.bucket_width 0 frame.column_width (frame.column_width + length tags * x.bucket_width) new x.buckets
    (stand-new al x.bucket_width frame.column_width tags is_frame.aligned is_shelf.aligned) old in
    record {
      column = omega (arith, first, some);
      aligned = is_shelf.aligned;
      width = λ _. is_shelf.width one;
      buckets = Each-append (IsBucket al x.bucket_width x.height) new x.buckets (each-new al x.bucket_width x.height frame.column_width tags each) is_shelf.buckets;
      stand = stand-begin al x.bucket_width (x.column * column_width) column_width (new ++ x.buckets) (rw first (zero-mul column_width))
          (stand-later al x.bucket_width 0 (frame.column_width + length tags * x.bucket_width) column_width (new ++ x.buckets) (omega (arith, is_frame.column_width)) fits both);
    }

-- each shelf of the one column
each-widened : (frame : Frame) (size : Size) (column_width columns left : ℕ) (tags : List Tag) (xs : List BucketShelf) → 1 ≤ columns → IsBucketedFrame frame → frame.columns ≡ 1 → frame.column_width ≤ column_width
    → AllByRecursion IsTag tags → AllByRecursion (IsShelf frame) xs
    → AllByRecursion (IsShelf (divided frame size column_width columns)) (widened frame.column_width (grown_counts (column_width - frame.column_width) left xs) tags xs)
each-widened frame size column_width columns left tags [] some is_frame one more each shelves = tt
each-widened frame size column_width columns left tags (x ∷ xs) some is_frame one more each shelves =
    let width = column_width - frame.column_width in
    let count = min (width / x.bucket_width) left in
    let few : length (take count tags) ≤ width / x.bucket_width = omega (arith, length-take count tags) in (
      shelf-widened frame size column_width columns x (take count tags) some is_frame one shelves.0
          (omega (arith, more, mul-le-mul_right x.bucket_width few, div-mul-le_self width x.bucket_width)) (each-take count tags each),
      each-widened frame size column_width columns (left - count) (drop count tags) xs some is_frame one more (each-drop count tags each) shelves.1,
    )

-- each shelf of more columns
each-resized : (frame : Frame) (size : Size) (columns : ℕ) (xs : List BucketShelf) → 2 ≤ frame.columns → frame.columns ≤ columns
    → AllByRecursion (IsShelf frame) xs → AllByRecursion (IsShelf (divided frame size frame.column_width columns)) xs
each-resized frame size columns xs many more each =
    Each-weaken (IsShelf frame) (IsShelf (divided frame size frame.column_width columns)) xs
    (λ (x : BucketShelf) (is_shelf : IsShelf frame x).
    let now : IsShelf (divided frame size frame.column_width columns) x = record {
      column = omega (arith, is_shelf.column);
      aligned = is_shelf.aligned;
      width = λ (h : columns ≡ 1). absurd (omega (arith, h, many, more));
      buckets = is_shelf.buckets;
      stand = is_shelf.stand;
    } in now) each

-- the shelves of a grown frame, each of which is as it must be
shelves-widened : (frame grown : Frame) (counts : List ℕ) (tags : List Tag) (xs : List BucketShelf) → AreShelves frame xs → across_side frame ≤ across_side grown
    → total counts ≤ buckets_left xs → ((n : ℕ) → times n (tag_numbers tags) + times n (bucket_numbers xs) ≤ 1)
    → AllByRecursion (IsShelf grown) (widened frame.column_width counts tags xs) → AreShelves grown (widened frame.column_width counts tags xs)
shelves-widened frame grown counts tags xs valid taller few numbers each = record {
  each = each;
  columns = columns-widened 0 frame.column_width counts tags xs valid.columns;
  heights = λ column. omega (arith, height-widened column frame.column_width counts tags xs, valid.heights column);
  numbers = λ n. omega (arith, numbers-widened n frame.column_width counts tags xs, numbers n);
  few = omega (arith, use-widened frame.column_width counts tags xs, valid.few);
}

-- a grown frame with its shelves
pub record IsGrown (frame grown : Frame) (tags : List Tag) (xs : List BucketShelf) : Type 0 where
  pub is_frame : IsBucketedFrame grown
  pub vertical : grown.vertical ≡ frame.vertical
  pub shelves : AreShelves grown (widened frame.column_width (grown_counts (grown.column_width - frame.column_width) (buckets_left xs) xs) tags xs)

-- the shelves of a grow without a fault
pub shelves-grown : (frame : Frame) (size : Size) (tags : List Tag) (xs : List BucketShelf) → IsBucketedFrame frame → Fits frame size → AreShelves frame xs
    → AllByRecursion IsTag tags → ((n : ℕ) → times n (tag_numbers tags) + times n (bucket_numbers xs) ≤ 1) → IsGrown frame (grown_frame frame size) tags xs
shelves-grown frame size tags xs is_frame fits valid each numbers =
    record { is_frame = grows.is_frame; vertical = refl; shelves = by_test (frame.columns == 1) refl }
  where
    grows : GrowsFrame 65534 frame size
    grows = frame-grows 65534 frame size is_frame fits

    width : ℕ
    width = grown_column_width frame size

    columns : ℕ
    columns = (grown_frame frame size).columns

    counts : List ℕ
    counts = grown_counts (width - frame.column_width) (buckets_left xs) xs

    kept : AllByRecursion (IsShelf (divided frame size width columns)) (widened frame.column_width counts tags xs)
        → AreShelves (grown_frame frame size) (widened frame.column_width counts tags xs)
    kept shelves =
        shelves-widened frame (grown_frame frame size) counts tags xs valid grows.across
        (counts-le (width - frame.column_width) (buckets_left xs) xs) numbers shelves

    by_test : (b : Bool) → (frame.columns == 1) ≡ b → AreShelves (grown_frame frame size) (widened frame.column_width counts tags xs)
    by_test true e =
        kept (each-widened frame size width columns (buckets_left xs) tags xs grows.is_frame.columns.0 is_frame (eqb-true frame.columns 1 e) grows.width.more each valid.each)
    by_test false e =
        let more : 2 ≤ frame.columns = some_more frame.columns is_frame.columns.0 e in
        let same : width ≡ frame.column_width = grows.width.many more in
        let zeros : AreZero counts = subst (λ (n : ℕ). AreZero (grown_counts n (buckets_left xs) xs)) (sym (no-more width frame.column_width same)) (counts-zero (buckets_left xs) xs) in
        kept (subst (AllByRecursion (IsShelf (divided frame size width columns))) (sym (widened-zero frame.column_width counts tags xs zeros))
        (subst (λ (n : ℕ). AllByRecursion (IsShelf (divided frame size n columns)) xs) (sym same) (each-resized frame size columns xs more grows.columns valid.each)))
      where
        some_more : (n : ℕ) → 1 ≤ n → (n == 1) ≡ false → 2 ≤ n
        some_more n h k = grind arith

        no-more : (n m : ℕ) → n ≡ m → n - m ≡ 0
        no-more n m h = omega (arith, h)

-- the state after a grow without a fault is valid
pub grown-valid : (state : BucketedState) (size : Size) (tags : List Tag) → IsValid state → grow_fault state.frame size ≡ None
    → AreNewTags state.shelves (total (grow_counts state.frame size state.shelves)) tags → IsValid (grown state size tags)
grown-valid state size tags valid h are_new =
    let is_grown = shelves-grown state.frame size tags state.shelves valid.frame (grow-fits state.frame size h) valid.shelves are_new.each are_new.numbers in
    record {
      frame = is_grown.is_frame;
      shelves = is_grown.shelves;
      ends = ends-widened state.frame.column_width (grow_counts state.frame size state.shelves) tags state.shelves ∙ valid.ends;
    }

-- a grow leads to a valid state
pub grows-valid : (old : BucketedState) (size : Size) (new : BucketedState) → IsValid old → Grows old size new → IsValid new
grows-valid old size new valid h = subst IsValid (sym h.after) (grown-valid old size h.tags valid h.fits h.new_tags)
