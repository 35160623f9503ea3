-- What a return does to records: a bucket has one item less, and shelves at the end are dropped.
use Rattle.std.specs.Prelude.{ℕ, zero, suc, ◌≡◌, ◌<◌, ◌+◌, ◌-◌, ◌*◌, ◌/◌, ◌%◌, Bool, false, true, ◌&&◌, not, Option, None, Some, List, length, take, slice_get, nat_le, nat_lt, ◌==◌, if◌then◌else◌}
use Rattle.std.specs.Option.{option_map_or}
use Rattle.etagere_links.specs.Edits.{changed_by, field_at}
use Rattle.bucketed_model.specs.Picking.{or_else}
use Rattle.bucketed_model.specs.Returning.{given_of, tag_of}
use Rattle.bucketed_model.specs.State.{generation_unit, generations}
use Rattle.bucketed_records.specs.declared.records.LinkedBucket.{LinkedBucket}
use Rattle.bucketed_records.specs.BucketRecords.{next_of}
use Rattle.bucketed_records.specs.declared.records.KeptShelf.{KeptShelf}
use Rattle.bucketed_records.specs.Private.Store.{Stored, last_kept}
use Rattle.bucketed_records.specs.StandsFor.{free_of, live_of, shelf_of}
pub use Rattle.bucketed_store.specs.declared.dropping.RowEnd.{RowEnd}
use Rattle.bucketed_store.specs.Private.StoreEdits.{height_of, live_items_of}

-- a record holds something live and has given the item of an id
abbrev pub gives_item : ℕ → LinkedBucket → Bool
gives_item id bucket =
    id / generation_unit == bucket.generation
    && (nat_lt 0 bucket.refcount
    && (nat_lt 0 (given_of id) && nat_le (given_of id) bucket.item_count))

-- the record that an id names has given its item
abbrev pub is_known_in : List LinkedBucket → ℕ → Bool
is_known_in buckets id = field_at (gives_item id) false buckets (tag_of id).number

-- a record of a bucket this wide that was emptied, under the next generation
abbrev pub emptied_record : ℕ → LinkedBucket → LinkedBucket
emptied_record width bucket =
    record bucket {
      free_space = width;
      refcount = 0;
      item_count = 0;
      generation = (bucket.generation + 1) % generations;
    }

-- a record with one item less that is live
abbrev pub lessened_record : LinkedBucket → LinkedBucket
lessened_record bucket = record bucket { refcount = bucket.refcount - 1 }

-- a record of a bucket this wide after one of its items was returned
abbrev pub returned_record : ℕ → LinkedBucket → LinkedBucket
returned_record width bucket =
    if nat_le bucket.refcount 1 then emptied_record width bucket else lessened_record bucket

-- what is kept of a shelf one of whose items was returned; where that emptied a bucket, all of the
-- bucket is free
abbrev pub returned_kept : Bool → KeptShelf → KeptShelf
returned_kept empties kept =
    record kept {
      widest_room = if empties then kept.shelf.bucket_width else kept.widest_room;
      live_items = kept.live_items - 1;
    }

-- how wide the buckets of the shelf of a number are
abbrev pub width_of : List KeptShelf → ℕ → ℕ
width_of shelves number =
    option_map_or (λ (kept : KeptShelf). kept.shelf.bucket_width) (slice_get shelves number) 0

-- an item of the bucket of a number was returned
abbrev pub item_returned : ℕ → Stored → Stored
item_returned number stored =
    let shelf = shelf_of stored.buckets number in
    record {
      shelves = changed_by (Some shelf) (returned_kept (nat_le (live_of stored.buckets number) 1))
          stored.shelves;
      buckets =
          changed_by (Some number) (returned_record (width_of stored.shelves shelf)) stored.buckets;
      unused = stored.unused;
    }

-- the area that a return to the bucket of a number gives back
abbrev pub returned_area : ℕ → List KeptShelf → List LinkedBucket → ℕ
returned_area number shelves buckets =
    let shelf = shelf_of buckets number in
    if nat_le (live_of buckets number) 1
    then (width_of shelves shelf - free_of buckets number) * height_of shelves shelf
    else 0

-- where the links end from a record on, in so many steps, and how many records stand up to there,
-- where these were met
abbrev pub row_from : ℕ → List LinkedBucket → ℕ → ℕ → RowEnd
row_from zero buckets count at = record { last = at; count = count }
row_from (suc steps) buckets count at =
    option_map_or (row_from steps buckets (suc count)) (next_of buckets at)
    (record { last = at; count = count })

-- where the list of a bucket ends, and how many stand in it
abbrev pub row_end : List LinkedBucket → ℕ → RowEnd
row_end buckets first = row_from (length buckets) buckets 1 first

-- a record with another link
abbrev pub linked_to : Option ℕ → LinkedBucket → LinkedBucket
linked_to next bucket = record bucket { next = next }

-- records from which shelves at the end are dropped, and how many buckets became unused
pub record Dropping : Type 0 where
  pub stored : Stored
  pub count : ℕ

abbrev pub dropping_of : List KeptShelf → List LinkedBucket → Option ℕ → ℕ → Dropping
dropping_of shelves buckets unused count =
    record {
      stored = record { shelves = shelves; buckets = buckets; unused = unused };
      count = count;
    }

-- the same of records, of which so many buckets became unused
abbrev pub dropping_from : Stored → ℕ → Dropping
dropping_from stored count = dropping_of stored.shelves stored.buckets stored.unused count

-- the list of a bucket put in front of the unused ones
abbrev pub row_unused : Option ℕ → Option ℕ → List LinkedBucket → List LinkedBucket
row_unused None unused buckets = buckets
row_unused (Some first) unused buckets =
    changed_by (Some (row_end buckets first).last) (linked_to unused) buckets

-- how many buckets stand in a list
abbrev pub row_count : List LinkedBucket → Option ℕ → ℕ
row_count buckets None = 0
row_count buckets (Some first) = (row_end buckets first).count

-- the last shelf was dropped, and its unused buckets
abbrev pub last_dropped : KeptShelf → Dropping → Dropping
last_dropped kept done =
    let first = kept.shelf.first_bucket in
    dropping_of (take (length done.stored.shelves - 1) done.stored.shelves)
    (row_unused first done.stored.unused done.stored.buckets)
    (or_else first done.stored.unused)
    (done.count + row_count done.stored.buckets first)

-- there is a last shelf, and it holds nothing live
abbrev pub ends_idle : List KeptShelf → Bool
ends_idle shelves = option_map_or (λ (kept : KeptShelf). kept.live_items == 0) (last_kept shelves) false

-- the only live item of a shelf stands in this bucket, if one does
pub record IsOnly (number : ℕ) (shelves : List KeptShelf) (buckets : List LinkedBucket) : Type 0 where
  pub bucket : nat_le (live_of buckets number) 1 ≡ true
  pub shelf : live_items_of shelves (shelf_of buckets number) ≡ 1

-- the only live item of a shelf stands in this bucket, if one does, and no shelf can be dropped once it goes: another one is
-- the last, and holds something live
abbrev pub leaves_idle : ℕ → List KeptShelf → List LinkedBucket → Bool
leaves_idle number shelves buckets =
    nat_le (live_of buckets number) 1
    && (live_items_of shelves (shelf_of buckets number) == 1)
    && nat_lt (shelf_of buckets number + 1) (length shelves)
    && not (ends_idle shelves)

-- a bucket and its shelf each have more than one live item, and the last shelf has some
pub record LeavesOthers (number : ℕ) (shelves : List KeptShelf) (buckets : List LinkedBucket) : Type 0 where
  pub bucket : nat_le (live_of buckets number) 1 ≡ false
  pub shelf : 1 < live_items_of shelves (shelf_of buckets number)
  pub last : ends_idle shelves ≡ false

-- the last shelves were dropped, at most so many, as long as the last one holds nothing live
abbrev pub end_dropped : ℕ → Dropping → Dropping
end_dropped zero done = done
end_dropped (suc steps) done =
    option_map_or
    (λ (kept : KeptShelf).
    if kept.live_items == 0 then end_dropped steps (last_dropped kept done) else done)
    (last_kept done.stored.shelves) done
