-- A bucketed state whose buckets have other numbers, and no generations.
use Rattle.std.specs.Prelude.{ℕ, ◌%◌, map}
use Rattle.etagere_base.specs.declared.geometry.Rectangle.{Rectangle}
use Rattle.bucketed_model.specs.Picking.{Spot}
use Rattle.bucketed_model.specs.Placing.{Destination, BucketPlacement, InAdded, InBucket, InMerged}
use Rattle.bucketed_model.specs.State.{Bucket, BucketShelf, BucketedState, Tag, given_unit}
use Rattle.etagere_run.specs.Answers.Live.{Entry}

-- a tag with another number, and its first generation
abbrev pub renumbered_tag : (ℕ → ℕ) → Tag → Tag
renumbered_tag name tag = record { number = name tag.number; generation = 0 }

-- a bucket, a shelf and a state whose buckets have such tags
abbrev pub renumbered_bucket : (ℕ → ℕ) → Bucket → Bucket
renumbered_bucket name bucket =
    record {
      place = bucket.place;
      used = bucket.used;
      live = bucket.live;
      given = bucket.given;
      tag = renumbered_tag name bucket.tag;
    }

abbrev pub renumbered_shelf : (ℕ → ℕ) → BucketShelf → BucketShelf
renumbered_shelf name shelf =
    record {
      column = shelf.column;
      height = shelf.height;
      bucket_width = shelf.bucket_width;
      buckets = map (renumbered_bucket name) shelf.buckets;
    }

abbrev pub renumbered : (ℕ → ℕ) → BucketedState → BucketedState
renumbered name state =
    record { frame = state.frame; shelves = map (renumbered_shelf name) state.shelves }

-- where a size goes among such buckets
abbrev pub renumbered_spot : (ℕ → ℕ) → Spot → Spot
renumbered_spot name spot =
    record {
      number = spot.number;
      shelf = renumbered_shelf name spot.shelf;
      bucket = renumbered_bucket name spot.bucket;
    }

abbrev pub renumbered_destination : (ℕ → ℕ) → Destination → Destination
renumbered_destination name (InBucket spot) = InBucket (renumbered_spot name spot)
renumbered_destination name (InAdded news) = InAdded news
renumbered_destination name (InMerged group) = InMerged group

abbrev pub renumbered_placement : (ℕ → ℕ) → BucketPlacement → BucketPlacement
renumbered_placement name placement =
    record { width = placement.width; destination = renumbered_destination name placement.destination }

-- what is seen of an entry: its position, its rectangle and the number of its bucket
pub record Seen : Type 0 where
  pub position : ℕ
  pub rectangle : Rectangle
  pub number : ℕ

-- that, where its bucket has another number
abbrev pub seen_entry : (ℕ → ℕ) → Entry → Seen
seen_entry name entry =
    record {
      position = entry.position;
      rectangle = entry.allocation.rectangle;
      number = name (entry.allocation.id % given_unit);
    }
