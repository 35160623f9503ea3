-- The state after a placement was taken, and what is given.
use Rattle.std.specs.Option.{option_map_or}
use Rattle.std.specs.Prelude.{ℕ, ◌+◌, ◌-◌, ◌*◌, Option, Some, option_map, List, ◌++◌, length, take, slice_get}
use Rattle.etagere_base.specs.declared.frames.Frame.{Frame}
use Rattle.etagere_base.specs.declared.ids.Allocation.{Allocation}
use Rattle.etagere_base.specs.Places.{rectangle_at}
use Rattle.bucketed_model.specs.Adding.{made_shelves, total_count}
use Rattle.bucketed_model.specs.Merging.{merged_shelves}
use Rattle.bucketed_model.specs.Picking.{Spot, spot_in}
use Rattle.bucketed_model.specs.Placing.{Destination, BucketPlacement, InBucket, InAdded, InMerged}
use Rattle.bucketed_model.specs.State.{Bucket, BucketShelf, BucketedState, Tag, changed_bucket, column_height, given_unit, generation_unit}

-- how many buckets have to be made for a destination
abbrev pub needed_buckets : Destination → ℕ
needed_buckets (InBucket spot) = 0
needed_buckets (InAdded news) = total_count news
needed_buckets (InMerged group) = 0

-- the shelves made ready for a destination, with these tags for new buckets
abbrev pub prepared : Frame → List BucketShelf → List Tag → Destination → List BucketShelf
prepared frame shelves tags (InBucket spot) = shelves
prepared frame shelves tags (InAdded news) = shelves ++ made_shelves frame news tags
prepared frame shelves tags (InMerged group) = merged_shelves group.first group.others shelves

-- the first bucket of the shelf of a number
abbrev pub first_bucket : ℕ → List BucketShelf → Option Spot
first_bucket number shelves = spot_in (λ shelf. slice_get shelf.buckets 0) number shelves

-- the bucket of a destination in shelves that were made ready for it: the first of the last shelf where
-- one was added
abbrev pub spot_of : List BucketShelf → Destination → Option Spot
spot_of shelves (InBucket spot) = Some spot
spot_of shelves (InAdded news) = first_bucket (length shelves - 1) shelves
spot_of shelves (InMerged group) = first_bucket group.first shelves

-- the id of the item that a bucket with this tag gives as this one since it was empty
abbrev pub id_of : Tag → ℕ → ℕ
id_of tag given = tag.number + given_unit * given + generation_unit * tag.generation

-- a bucket after it gave an item this wide
abbrev pub taken_bucket : ℕ → Bucket → Bucket
taken_bucket width bucket =
    record {
      place = bucket.place;
      used = bucket.used + width;
      live = bucket.live + 1;
      given = bucket.given + 1;
      tag = bucket.tag;
    }

-- what a bucket gives next: after what it has used, as tall as its shelf, which lies after those
-- before it in its column
abbrev pub allocation_in : Frame → ℕ → List BucketShelf → Spot → Allocation
allocation_in frame width shelves spot =
    record {
      id = id_of spot.bucket.tag (spot.bucket.given + 1);
      rectangle = rectangle_at frame (spot.bucket.place + spot.bucket.used)
          (column_height spot.shelf.column (take spot.number shelves)) width spot.shelf.height;
    }

-- what a placement gives, with these tags for new buckets
abbrev pub given : BucketedState → BucketPlacement → List Tag → Option Allocation
given state placement tags =
    let shelves = prepared state.frame state.shelves tags placement.destination in
    option_map (allocation_in state.frame placement.width shelves) (spot_of shelves placement.destination)

-- the state after a placement was taken, with these tags for new buckets
abbrev pub bucket_taken : BucketedState → BucketPlacement → List Tag → BucketedState
bucket_taken state placement tags =
    let shelves = prepared state.frame state.shelves tags placement.destination in
    record {
      frame = state.frame;
      shelves = option_map_or
          (λ spot. changed_bucket spot.bucket.tag.number (taken_bucket placement.width) shelves)
          (spot_of shelves placement.destination) shelves;
    }
