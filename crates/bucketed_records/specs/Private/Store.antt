-- The records of shelves and buckets as the private functions see them, and those that spell a
-- state.
use Rattle.std.specs.Prelude.{◌≡◌, ℕ, suc, ◌+◌, ◌-◌, ◌≤◌, max, Option, None, Some, List, [], ◌∷◌, ◌++◌, length, map, slice_get, nat_lt, if◌then◌else◌, Bool, ◌==◌}
use Rattle.std.specs.List.{AllByRecursion}
use Rattle.etagere_base.specs.declared.frames.Frame.{Frame}
use Rattle.etagere_links.specs.Chains.{IsList}
use Rattle.etagere_links.specs.Lists.{HasEachOnce}
use Rattle.bucketed_model.specs.State.{Bucket, BucketShelf, BucketedState, bucket_numbers, column_height, column_place, most_buckets, most_given}
use Rattle.bucketed_records.specs.declared.records.LinkedBucket.{LinkedBucket}
use Rattle.bucketed_records.specs.declared.records.LinkedBucketShelf.{LinkedBucketShelf}
use Rattle.bucketed_records.specs.declared.records.KeptShelf.{KeptShelf}
use Rattle.bucketed_records.specs.BucketRecords.{next_of, spelled_state}
use Rattle.bucketed_records.specs.StandsFor.{live_of}

-- the shelf records with what is kept beside them, the bucket records, and where the unused ones
-- begin
pub record Stored : Type 0 where
  pub shelves : List KeptShelf
  pub buckets : List LinkedBucket
  pub unused : Option ℕ

-- the record of a kept shelf
abbrev pub shelf_record : KeptShelf → LinkedBucketShelf
shelf_record kept = kept.shelf

-- the state that what is stored spells
abbrev pub stored_state : Frame → Stored → BucketedState
stored_state frame stored = spelled_state frame (map shelf_record stored.shelves) stored.buckets

-- the link to the first of some buckets
abbrev pub first_link : List Bucket → Option ℕ
first_link [] = None
first_link (bucket ∷ buckets) = Some bucket.tag.number

-- the width that a bucket can give to one item; none where it has given the most
abbrev pub room_of : ℕ → Bucket → ℕ
room_of width bucket = if nat_lt bucket.given most_given then width - bucket.used else 0

-- the greatest width that a bucket of some can give to one item
abbrev pub widest_room : ℕ → List Bucket → ℕ
widest_room width [] = 0
widest_room width (bucket ∷ buckets) = max (room_of width bucket) (widest_room width buckets)

-- how many items of buckets are live
abbrev pub live_items : List Bucket → ℕ
live_items [] = 0
live_items (bucket ∷ buckets) = bucket.live + live_items buckets

-- what is kept of a shelf that stands after others
abbrev pub kept_shelf : Frame → List BucketShelf → BucketShelf → KeptShelf
kept_shelf frame before shelf =
    record {
      shelf = record {
        x = column_place frame shelf.column;
        y = column_height shelf.column before;
        height = shelf.height;
        bucket_width = shelf.bucket_width;
        first_bucket = first_link shelf.buckets;
      };
      live_items = live_items shelf.buckets;
      widest_room = widest_room shelf.bucket_width shelf.buckets;
    }

-- what is kept of shelves that stand after others
abbrev pub kept_shelves : Frame → List BucketShelf → List BucketShelf → List KeptShelf
kept_shelves frame before [] = []
kept_shelves frame before (shelf ∷ shelves) =
    kept_shelf frame before shelf ∷ kept_shelves frame (before ++ shelf ∷ []) shelves

-- the record of a bucket in the shelf of a number, whose buckets are this wide, that links to
-- another
abbrev pub record_of : ℕ → ℕ → Option ℕ → Bucket → LinkedBucket
record_of shelf width next bucket =
    record {
      x = bucket.place;
      free_space = width - bucket.used;
      next = next;
      refcount = bucket.live;
      item_count = bucket.given;
      shelf = shelf;
      generation = bucket.tag.generation;
    }

-- records spell buckets of the shelf of a number, whose buckets are this wide: each stands under
-- its number, and links to the next one
abbrev pub AreBucketsSpelled : List LinkedBucket → ℕ → ℕ → List Bucket → Type 0
AreBucketsSpelled records shelf width [] = Unit {0}
AreBucketsSpelled records shelf width (bucket ∷ buckets) =
    (slice_get records bucket.tag.number ≡ Some (record_of shelf width (first_link buckets) bucket))
    × AreBucketsSpelled records shelf width buckets

-- records spell the buckets of shelves, of which the first has this number
abbrev pub AreShelvesSpelled : List LinkedBucket → ℕ → List BucketShelf → Type 0
AreShelvesSpelled records number [] = Unit {0}
AreShelvesSpelled records number (shelf ∷ shelves) =
    AreBucketsSpelled records number shelf.bucket_width shelf.buckets
    × AreShelvesSpelled records (suc number) shelves

-- the records in use have these numbers; the others are the unused ones, in the order of their
-- links, and hold nothing live
pub record HasUnused (records : List LinkedBucket) (first : Option ℕ) (used unused : List ℕ)
    : Type 0 where
  pub list : IsList (next_of records) first unused
  pub once : HasEachOnce (length records) (used ++ unused)
  pub count : length records ≡ length used + length unused
  pub few : length records ≤ most_buckets
  pub idle : AllByRecursion (λ number. live_of records number ≡ 0) unused

-- records spell shelves, with these unused
pub record Spells (frame : Frame) (stored : Stored) (unused : List ℕ) (spelled : List BucketShelf)
    : Type 0 where
  pub shelves : stored.shelves ≡ kept_shelves frame [] spelled
  pub buckets : AreShelvesSpelled stored.buckets 0 spelled
  pub has_unused : HasUnused stored.buckets stored.unused (bucket_numbers spelled) unused

-- a shelf holds nothing live
abbrev pub is_kept_idle : KeptShelf → Bool
is_kept_idle kept = kept.live_items == 0

-- the width that a bucket record can give to one item
abbrev pub record_room : LinkedBucket → ℕ
record_room bucket = if nat_lt bucket.item_count most_given then bucket.free_space else 0

-- the last of shelves
abbrev pub last_kept : List KeptShelf → Option KeptShelf
last_kept shelves = slice_get shelves (length shelves - 1)
