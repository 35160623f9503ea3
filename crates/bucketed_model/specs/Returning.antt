-- The state after a return: a bucket is emptied with its last item, and idle shelves at the end go.
use Rattle.std.specs.Prelude.{ℕ, ◌+◌, ◌-◌, ◌/◌, ◌%◌, Bool, ◌&&◌, List, [], ◌∷◌, nat_le, nat_lt, ◌==◌, if◌then◌else◌}
use Rattle.std.specs.List.{list_any}
use Rattle.bucketed_model.specs.State.{Bucket, BucketShelf, BucketedState, Tag, changed_bucket, generations, is_idle, given_unit, generation_unit}

-- the tag that an id names
abbrev pub tag_of : ℕ → Tag
tag_of id = record { number = id % given_unit; generation = id / generation_unit }

-- which item of its bucket an id names
abbrev pub given_of : ℕ → ℕ
given_of id = id / given_unit % given_unit

-- two tags are the same
abbrev pub is_same_tag : Tag → Tag → Bool
is_same_tag tag other = tag.number == other.number && tag.generation == other.generation

-- a bucket holds something live and has given the item of an id
abbrev pub is_giver : ℕ → Bucket → Bool
is_giver id bucket =
    is_same_tag (tag_of id) bucket.tag
    && (nat_lt 0 bucket.live && (nat_lt 0 (given_of id) && nat_le (given_of id) bucket.given))

-- an id is known
abbrev pub is_known : BucketedState → ℕ → Bool
is_known state id = list_any (λ shelf. list_any (is_giver id) shelf.buckets) state.shelves

-- a bucket that was emptied: as new, under the next generation
abbrev pub emptied_bucket : Bucket → Bucket
emptied_bucket bucket =
    record {
      place = bucket.place;
      used = 0;
      live = 0;
      given = 0;
      tag =
          record {
            number = bucket.tag.number;
            generation = (bucket.tag.generation + 1) % generations;
          };
    }

-- a bucket with one item less that is live, which gives nothing back of the width
abbrev pub lessened_bucket : Bucket → Bucket
lessened_bucket bucket =
    record {
      place = bucket.place;
      used = bucket.used;
      live = bucket.live - 1;
      given = bucket.given;
      tag = bucket.tag;
    }

-- a bucket after one of its items was returned: it is emptied with the last one
abbrev pub returned_bucket : Bucket → Bucket
returned_bucket bucket =
    if nat_le bucket.live 1 then emptied_bucket bucket else lessened_bucket bucket

-- a shelf before others, unless it is the last one and holds nothing live
abbrev pub kept_before : BucketShelf → List BucketShelf → List BucketShelf
kept_before shelf [] = if is_idle shelf then [] else shelf ∷ []
kept_before shelf (next ∷ shelves) = shelf ∷ next ∷ shelves

-- the shelves without the longest end of such as hold nothing live
abbrev pub without_idle_end : List BucketShelf → List BucketShelf
without_idle_end [] = []
without_idle_end (shelf ∷ shelves) = kept_before shelf (without_idle_end shelves)

-- the state after the item of an id was returned
abbrev pub bucket_returned : BucketedState → ℕ → BucketedState
bucket_returned state id =
    record {
      frame = state.frame;
      shelves = without_idle_end (changed_bucket (tag_of id).number returned_bucket state.shelves);
    }
