-- The records of a bucket that can take an item, and what it gives.
use Rattle.std.proofs.Common.{◌≡◌, ℕ, suc, ◌+◌, ◌-◌, ◌*◌, ◌<◌, ◌≤◌, min, Bool, true, false, cond, Option, Some, List, [], ◌∷◌, ◌++◌, length, take, ap, arith, sym, ◌∙◌, subst, length-append}
use Rattle.std.proofs.lemmas.List.{length-take}
use Rattle.std.proofs.lemmas.Option.{slice_get_within}
use Rattle.std.specs.Option.{option_map_or}
use Rattle.std.specs.Prelude.{nat_lt, option_map, slice_get, ◌^◌, ◌==◌}
use Rattle.std.specs.List.{AllByRecursion}
use Rattle.etagere_base.proofs.FrameSides.{columns-apart, sides_low}
use Rattle.etagere_base.proofs.ReplacedLists.{slice_get-append}
use Rattle.etagere_base.proofs.TimesLemmas.{times-append}
use Rattle.etagere_base.specs.declared.frames.Frame.{Frame}
use Rattle.etagere_base.specs.Frames.{alignment_along}
use Rattle.etagere_base.specs.Lists.{times}
use Rattle.etagere_base.specs.declared.ids.Allocation.{Allocation}
use Rattle.etagere_base.specs.Places.{rectangle_at}
use Rattle.bucketed_model.specs.Frames.{IsBucketedFrame}
use Rattle.bucketed_model.specs.Picking.{Spot}
use Rattle.bucketed_model.specs.State.{Bucket, BucketShelf, column_height, column_place}
use Rattle.bucketed_model.specs.Taking.{allocation_in, id_of}
use Rattle.bucketed_model.specs.Valid.{AreShelves, IsBucket, StandBetween}
use Rattle.bucketed_model.proofs.Shelving.Shelves.{column_height-append, numbers_of}
use Rattle.bucketed_model.proofs.Validity.Spots.{IsSpot, spot-alone, times-here}
use Rattle.bucketed_model.proofs.Validity.Taken.{CanTake, spot-valid}
use Rattle.bucketed_records.specs.declared.records.LinkedBucket.{LinkedBucket}
use Rattle.bucketed_records.specs.Private.Store.{AreBucketsSpelled, HasUnused, Spells, Stored, first_link, kept_shelf, kept_shelves, live_items, record_of}
use Rattle.bucketed_records.specs.declared.records.KeptShelf.{KeptShelf}
use Rattle.bucketed_store.specs.Private.StoreEdits.{CanGive, height_of, kept_allocation, live_items_of}
use Rattle.bucketed_store.specs.Private.StoreEdits as store
use Rattle.bucketed_store.proofs.Spelling.FoundFirst.{spelled-back}
use Rattle.bucketed_store.proofs.Spelling.FoundBucket.{few-at, found_seen, kept-at, spelled-at}

-- the shelf of a spot stands under its number
pub spot-at : (shelves : List BucketShelf) (spot : Spot) → IsSpot shelves spot → slice_get shelves spot.number ≡ Some spot.shelf
spot-at shelves spot at =
    let taken : length at.front ≡ min spot.number (length shelves) = sym (ap (λ (xs : List BucketShelf). length xs) at.before) ∙ length-take spot.number shelves in
    let whole : length shelves ≡ length at.front + suc (length at.back) = ap (λ (xs : List BucketShelf). length xs) at.whole ∙ length-append at.front (spot.shelf ∷ at.back) in
    ap (λ (xs : List BucketShelf). slice_get xs spot.number) at.whole
    ∙ slice_get-append at.front spot.shelf at.back spot.number (omega (arith, taken, whole))

-- what the records of a spot say
pub record AreSpotRecords (stored : Stored) (shelves : List BucketShelf) (spot : Spot) : Type 0 where
  pub next : Option ℕ
  pub at : slice_get shelves spot.number ≡ Some spot.shelf
  pub shelf : (frame : Frame) → stored.shelves ≡ kept_shelves frame [] shelves → slice_get stored.shelves spot.number ≡ Some (kept_shelf frame (take spot.number shelves) spot.shelf)
  pub bucket : slice_get stored.buckets spot.bucket.tag.number ≡ Some (record_of (0 + spot.number) spot.shelf.bucket_width next spot.bucket)
  pub once : times spot.bucket.tag.number (numbers_of spot.shelf.buckets) ≡ 1

-- the records of a spot
pub spot-records : (frame : Frame) (stored : Stored) (unused : List ℕ) (shelves : List BucketShelf) (spot : Spot) → AreShelves frame shelves → Spells frame stored unused shelves → IsSpot shelves spot
    → AreSpotRecords stored shelves spot
spot-records frame stored unused shelves spot valid spells at =
    let here = spot-at shelves spot at in
    let alone = spot-alone shelves spot at valid.numbers in
    let own = spelled-at stored.buckets 0 shelves spot.number spot.shelf spells.buckets here in
    let back = spelled-back stored.buckets (0 + spot.number) spot.shelf.bucket_width at.left (spot.bucket ∷ at.right)
    (subst (AreBucketsSpelled stored.buckets (0 + spot.number) spot.shelf.bucket_width) at.buckets own) in
    record {
      next = first_link at.right;
      at = here;
      shelf = λ f kept. ap (λ (ks : List KeptShelf). slice_get ks spot.number) kept ∙ kept-at f [] shelves spot.number ∙ ap (option_map (kept_shelf f (take spot.number shelves))) here;
      bucket = back.0;
      once = ap (λ (bs : List Bucket). times spot.bucket.tag.number (numbers_of bs)) at.buckets ∙ times-here at.left spot.bucket at.right ∙ omega (arith, alone.beside, alone.past);
    }

-- a bucket between others ends where they do, or before
stand-end : (al width begin end : ℕ) (left : List Bucket) (b : Bucket) (right : List Bucket) → StandBetween al width begin end (left ++ b ∷ right) → b.place + width ≤ end
stand-end al width begin end [] b right stand = stand.1
stand-end al width begin end (x ∷ left) b right stand = omega (arith, stand.1, stand-end al width begin x.place left b right stand.2)

-- the bucket of a spot ends within the longest side
bucket-short : (frame : Frame) (shelves : List BucketShelf) (spot : Spot) → IsBucketedFrame frame → AreShelves frame shelves → IsSpot shelves spot
    → spot.bucket.place + spot.shelf.bucket_width ≤ 65534
bucket-short frame shelves spot is_frame valid at =
    let shelf = (spot-valid frame shelves spot at valid).0 in
    let begin = column_place frame spot.shelf.column in
    let end = begin + frame.column_width in
    let stand = stand-end (alignment_along frame) spot.shelf.bucket_width begin end at.left spot.bucket at.right
    (subst (StandBetween (alignment_along frame) spot.shelf.bucket_width begin end) at.buckets shelf.stand) in
    omega (arith, stand, columns-apart spot.shelf.column frame.columns frame.column_width shelf.column, is_frame.columns.1, (sides_low 65534 frame is_frame).0)

-- the shelf of a spot ends within the longest side
shelf-short : (frame : Frame) (shelves : List BucketShelf) (spot : Spot) → IsBucketedFrame frame → AreShelves frame shelves → IsSpot shelves spot
    → column_height spot.shelf.column (take spot.number shelves) + spot.shelf.height ≤ 65534
shelf-short frame shelves spot is_frame valid at =
    omega (
      arith,
      ap (column_height spot.shelf.column) at.before,
      ap (column_height spot.shelf.column) at.whole,
      column_height-append spot.shelf.column at.front (spot.shelf ∷ at.back),
      own,
      valid.heights spot.shelf.column,
      (sides_low 65534 frame is_frame).1,
    )
  where
    own : cond (spot.shelf.column == spot.shelf.column) spot.shelf.height 0 ≡ spot.shelf.height
    own = grind arith

-- a bucket can give an item
pub spot-gives : (frame : Frame) (stored : Stored) (unused : List ℕ) (shelves : List BucketShelf) (spot : Spot) (item : ℕ) → IsBucketedFrame frame → AreShelves frame shelves
    → Spells frame stored unused shelves → CanTake frame shelves item spot → CanGive frame item (found_seen spot) stored
spot-gives frame stored unused shelves spot item is_frame valid spells can =
    let records = spot-records frame stored unused shelves spot valid spells can.at in
    let parts = spot-valid frame shelves spot can.at valid in
    record {
      kept = kept_shelf frame (take spot.number shelves) spot.shelf;
      shelf = records.shelf frame spells.shelves;
      bucket = record_of (0 + spot.number) spot.shelf.bucket_width records.next spot.bucket;
      here = records.bucket;
      can = record {
        number = parts.1.tag.number;
        given = can.few;
        free = omega arith;
        right = omega (arith, bucket-short frame shelves spot is_frame valid can.at, can.room);
        bottom = omega (arith, shelf-short frame shelves spot is_frame valid can.at);
      };
    }

-- a bucket's record can be taken from
pub spot-takes : (frame : Frame) (stored : Stored) (unused : List ℕ) (shelves : List BucketShelf) (spot : Spot) (item : ℕ) → IsBucketedFrame frame → AreShelves frame shelves
    → Spells frame stored unused shelves → CanTake frame shelves item spot → store.CanTake spot.bucket.tag.number item stored.buckets
spot-takes frame stored unused shelves spot item is_frame valid spells can =
    let records = spot-records frame stored unused shelves spot valid spells can.at in
    let parts = spot-valid frame shelves spot can.at valid in
    record {
      bucket = record_of (0 + spot.number) spot.shelf.bucket_width records.next spot.bucket;
      here = records.bucket;
      narrow = omega (arith, bucket-short frame shelves spot is_frame valid can.at, can.room);
      free = omega (arith, can.room);
      given = can.few;
      live = parts.1.live;
    }

-- buckets hold few items
live-few : (al width height : ℕ) (bs : List Bucket) → AllByRecursion (IsBucket al width height) bs → live_items bs ≤ length bs * 4095
live-few al width height [] each = omega arith
live-few al width height (b ∷ bs) each = omega (arith, each.0.live, each.0.given, live-few al width height bs each.1)

-- the shelf of a spot holds few items
pub spot-few : (frame : Frame) (stored : Stored) (unused : List ℕ) (shelves : List BucketShelf) (spot : Spot) → AreShelves frame shelves → Spells frame stored unused shelves → IsSpot shelves spot
    → live_items_of stored.shelves spot.number + 1 < 2 ^ 32
spot-few frame stored unused shelves spot valid spells at =
    let records = spot-records frame stored unused shelves spot valid spells at in
    let live : live_items_of stored.shelves spot.number ≡ live_items spot.shelf.buckets =
    ap (λ (k : Option KeptShelf). option_map_or (λ (kept : KeptShelf). kept.live_items) k 0) (records.shelf frame spells.shelves) in
    let shelf = (spot-valid frame shelves spot at valid).0 in
    omega (arith, live, live-few (alignment_along frame) spot.shelf.bucket_width spot.shelf.height spot.shelf.buckets shelf.buckets, few-at shelves spot.number spot.shelf records.at, valid.few)

-- the shelf of a spot is one of those that are kept
pub spot-within : (frame : Frame) (stored : Stored) (unused : List ℕ) (shelves : List BucketShelf) (spot : Spot) → AreShelves frame shelves → Spells frame stored unused shelves → IsSpot shelves spot
    → spot.number < length stored.shelves
spot-within frame stored unused shelves spot valid spells at =
    slice_get_within stored.shelves spot.number (kept_shelf frame (take spot.number shelves) spot.shelf) ((spot-records frame stored unused shelves spot valid spells at).shelf frame spells.shelves)

-- the height of the kept shelf of a spot
pub spot-height : (frame : Frame) (stored : Stored) (unused : List ℕ) (shelves : List BucketShelf) (spot : Spot) → AreShelves frame shelves → Spells frame stored unused shelves → IsSpot shelves spot
    → height_of stored.shelves spot.number ≡ spot.shelf.height
spot-height frame stored unused shelves spot valid spells at =
    ap (λ (k : Option KeptShelf). option_map_or (λ (kept : KeptShelf). kept.shelf.height) k 0) ((spot-records frame stored unused shelves spot valid spells at).shelf frame spells.shelves)

-- what the records of a bucket give is what the bucket gives
pub spot-given : (frame : Frame) (shelves : List BucketShelf) (spot : Spot) (item number : ℕ) (next : Option ℕ) → spot.bucket.used ≤ spot.shelf.bucket_width
    → kept_allocation frame item (found_seen spot) (kept_shelf frame (take spot.number shelves) spot.shelf) (record_of number spot.shelf.bucket_width next spot.bucket)
    ≡ allocation_in frame item shelves spot
spot-given frame shelves spot item number next fits =
    let used : spot.shelf.bucket_width - (spot.shelf.bucket_width - spot.bucket.used) ≡ spot.bucket.used = omega (arith, fits) in
    ap (λ (u : ℕ). let given : Allocation = record {
      id = id_of spot.bucket.tag (spot.bucket.given + 1);
      rectangle = rectangle_at frame (spot.bucket.place + u) (column_height spot.shelf.column (take spot.number shelves)) item spot.shelf.height;
    } in given) used

-- a number in use is not unused
pub used-not_unused : (records : List LinkedBucket) (first : Option ℕ) (used unused : List ℕ) (n : ℕ) → HasUnused records first used unused → 1 ≤ times n used → times n unused ≡ 0
used-not_unused records first used unused n has_unused stands = by_test (nat_lt n (length records)) (has_unused.once n)
  where
    by_test : (b : Bool) → times n (used ++ unused) ≡ cond b 1 0 → times n unused ≡ 0
    by_test true h = omega (arith, times-append n used unused, h, stands)
    by_test false h = omega (arith, times-append n used unused, h, stands)
