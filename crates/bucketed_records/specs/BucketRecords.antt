-- The records of a bucketed atlas, and the state that they spell.
use Rattle.std.specs.Prelude.{ℕ, ℤ, ◌-◌, ◌/◌, Option, List, map}
use Rattle.etagere_base.specs.declared.frames.Frame.{Frame}
use Rattle.etagere_links.specs.Edits.{link_at, field_at}
use Rattle.etagere_links.specs.Walks.{walk_by, Walked}
use Rattle.bucketed_model.specs.State.{Bucket, BucketShelf, BucketedState}
use Rattle.bucketed_records.specs.declared.records.LinkedBucket.{LinkedBucket}
use Rattle.bucketed_records.specs.declared.records.LinkedBucketShelf.{LinkedBucketShelf}

-- a bucketed atlas: its frame, its records, where its unused buckets begin, and the totals that it
-- says
pub record BucketRecords : Type 0 where
  pub frame : Frame
  pub shelves : List LinkedBucketShelf
  pub buckets : List LinkedBucket
  pub unused : Option ℕ
  pub current_column : ℕ
  pub available_height : ℕ
  pub allocated_space : ℤ

-- the bucket that the record of this number links to
abbrev pub next_of : List LinkedBucket → ℕ → Option ℕ
next_of buckets number = link_at (λ (bucket : LinkedBucket). bucket.next) buckets number

-- the buckets that a walk meets from a link on
abbrev pub bucket_walk : List LinkedBucket → Option ℕ → Walked
bucket_walk buckets first = walk_by (λ (bucket : LinkedBucket). bucket.next) buckets first

-- the bucket that a record of this number spells, of a shelf whose buckets are this wide
abbrev pub spelled_bucket : ℕ → ℕ → LinkedBucket → Bucket
spelled_bucket width number bucket =
    record {
      place = bucket.x;
      used = width - bucket.free_space;
      live = bucket.refcount;
      given = bucket.item_count;
      tag = record { number = number; generation = bucket.generation };
    }

-- the bucket of this number
abbrev pub bucket_at : List LinkedBucket → ℕ → ℕ → Bucket
bucket_at buckets width number =
    field_at (spelled_bucket width number)
    (record {
      place = 0;
      used = 0;
      live = 0;
      given = 0;
      tag = record { number = number; generation = 0 };
    }) buckets number

-- the shelf that a record spells, with the buckets that a walk meets
abbrev pub spelled_shelf : Frame → List LinkedBucket → LinkedBucketShelf → BucketShelf
spelled_shelf frame buckets shelf =
    record {
      column = shelf.x / frame.column_width;
      height = shelf.height;
      bucket_width = shelf.bucket_width;
      buckets =
          map (bucket_at buckets shelf.bucket_width) (bucket_walk buckets shelf.first_bucket).met;
    }

-- the state that records spell
abbrev pub spelled_state : Frame → List LinkedBucketShelf → List LinkedBucket → BucketedState
spelled_state frame shelves buckets =
    record { frame = frame; shelves = map (spelled_shelf frame buckets) shelves }

-- the state that the records of an atlas spell, whether they keep the rules or not
abbrev pub state_of : BucketRecords → BucketedState
state_of atlas = spelled_state atlas.frame atlas.shelves atlas.buckets
