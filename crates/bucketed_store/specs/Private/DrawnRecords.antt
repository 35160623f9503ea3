-- What a picture of a bucketed atlas shows, by its records.
use Rattle.std.specs.List.{AllByRecursion, flat_map}
use Rattle.std.specs.Option.{option_map_or}
use Rattle.std.specs.Prelude.{ℕ, zero, suc, ◌+◌, ◌-◌, ◌≤◌, Option, None, Some, List, [], ◌∷◌, ◌++◌, nat_lt, slice_get, if◌then◌else◌}
use Rattle.etagere_base.specs.Drawing.{drawn_at, drawn_line}
use Rattle.etagere_base.specs.declared.drawing.Colour.TheVariants.{Allocated, Free}
use Rattle.etagere_base.specs.declared.drawing.Drawn.{Drawn}
use Rattle.etagere_base.specs.declared.frames.Frame.{Frame}
use Rattle.bucketed_model.specs.State.{most_buckets}
use Rattle.bucketed_records.specs.declared.records.LinkedBucket.{LinkedBucket}
use Rattle.bucketed_records.specs.declared.records.LinkedBucketShelf.{LinkedBucketShelf}
use Rattle.bucketed_records.specs.declared.records.KeptShelf.{KeptShelf}
use Rattle.bucketed_records.specs.Private.Store.{Stored, stored_state}
use Rattle.bucketed_records.specs.Private.Witnessed.{Witnessed}

-- the used part of the bucket of a record, in the shelf of a record
abbrev pub recorded_used : Frame → LinkedBucketShelf → LinkedBucket → Drawn
recorded_used frame shelf bucket =
    drawn_at frame Allocated bucket.x shelf.y (shelf.bucket_width - bucket.free_space) shelf.height

-- the free part of it
abbrev pub recorded_free : Frame → LinkedBucketShelf → LinkedBucket → Drawn
recorded_free frame shelf bucket =
    drawn_at frame Free (bucket.x + (shelf.bucket_width - bucket.free_space)) shelf.y
    bucket.free_space shelf.height

-- the line of the used part, also where it has no width
abbrev pub used_line : Frame → LinkedBucketShelf → LinkedBucket → List ℕ
used_line frame shelf bucket = drawn_line (recorded_used frame shelf bucket)

-- the line of the free part, where there is some
abbrev pub free_line : Frame → LinkedBucketShelf → LinkedBucket → List ℕ
free_line frame shelf bucket =
    if nat_lt 0 bucket.free_space then drawn_line (recorded_free frame shelf bucket) else []

-- the lines of a bucket
abbrev pub bucket_lines : Frame → LinkedBucketShelf → LinkedBucket → List ℕ
bucket_lines frame shelf bucket =
    used_line frame shelf bucket ++ free_line frame shelf bucket

-- the records that links name one after another, in so many steps
abbrev pub linked_from : ℕ → List LinkedBucket → Option ℕ → List LinkedBucket
linked_from zero buckets at = []
linked_from (suc steps) buckets None = []
linked_from (suc steps) buckets (Some number) =
    option_map_or
    (λ (bucket : LinkedBucket). bucket ∷ linked_from steps buckets bucket.next)
    (slice_get buckets number) []

-- the records of the buckets of a shelf, in the order of search
abbrev pub linked_buckets : List LinkedBucket → LinkedBucketShelf → List LinkedBucket
linked_buckets buckets shelf = linked_from most_buckets buckets shelf.first_bucket

-- the lines of the buckets of a shelf
abbrev pub shelf_lines : Frame → List LinkedBucket → KeptShelf → List ℕ
shelf_lines frame buckets kept =
    flat_map (bucket_lines frame kept.shelf) (linked_buckets buckets kept.shelf)

-- the lines of every bucket
abbrev pub recorded_lines : Frame → Stored → List ℕ
recorded_lines frame stored = flat_map (shelf_lines frame stored.buckets) stored.shelves

-- no more of a bucket is free than it is wide
abbrev pub FitsIn : LinkedBucketShelf → LinkedBucket → Type 0
FitsIn shelf bucket = bucket.free_space ≤ shelf.bucket_width

-- nor of the buckets of a shelf
abbrev pub FitAlong : List LinkedBucket → KeptShelf → Type 0
FitAlong buckets kept = AllByRecursion (FitsIn kept.shelf) (linked_buckets buckets kept.shelf)

-- records spell a valid state
pub record AreKept (frame : Frame) (stored : Stored) : Type 0 where
  pub unused : List ℕ
  pub witnessed : Witnessed stored unused (stored_state frame stored)
