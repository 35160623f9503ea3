-- The passes over the records of a snapshot that test its rules, as the code makes them.
use Rattle.std.specs.Prelude.{◌≡◌, ◌<◌, ℕ, ◌+◌, ◌-◌, ◌*◌, ◌/◌, ◌%◌, max, Bool, false, ◌&&◌, ◌||◌, not, Option, None, Some, option_and_then, List, [], ◌∷◌, length, map, slice_get, nat_le, nat_lt, ◌==◌, if◌then◌else◌}
use Rattle.std.specs.List.{AllByRecursion, list_all}
use Rattle.std.specs.Option.{option_map_or}
use Rattle.etagere_base.specs.declared.faults.RestoreFault.{RestoreFault}
use Rattle.etagere_base.specs.declared.faults.RestoreFault.TheVariants.{Link, Runs}
use Rattle.etagere_base.specs.declared.frames.Frame.{Frame}
pub use Rattle.etagere_base.specs.Frames.{across_side, alignment_along}
use Rattle.etagere_base.specs.Lists.{total}
use Rattle.etagere_links.specs.Edits.{field_at}
use Rattle.bucketed_model.specs.Space.{used_width}
use Rattle.bucketed_model.specs.State.{BucketShelf, generations, most_given}
use Rattle.bucketed_records.specs.declared.records.LinkedBucket.{LinkedBucket}
use Rattle.bucketed_records.specs.declared.records.LinkedBucketShelf.{LinkedBucketShelf}
use Rattle.bucketed_records.specs.BucketRecords.{bucket_at}
use Rattle.bucketed_records.specs.Private.Store.{is_kept_idle, record_room, live_items, widest_room}
use Rattle.bucketed_records.specs.declared.records.KeptShelf.{KeptShelf}
use Rattle.bucketed_records.specs.StandsFor.{AreBuckets}
pub use Rattle.bucketed_records.specs.StandsFor.{free_of, generation_of, live_of, shelf_of}
pub use Rattle.bucketed_restoring.specs.declared.judging.Judged.{Judged}
pub use Rattle.bucketed_restoring.specs.declared.judging.Stack.{Stack}

-- the record of this number names this shelf
abbrev pub is_owned : List LinkedBucket → ℕ → ℕ → Bool
is_owned buckets shelf number = field_at (λ (bucket : LinkedBucket). bucket.shelf == shelf) false buckets number

-- nothing of the record of this number is live
abbrev pub is_unused : List LinkedBucket → ℕ → Bool
is_unused buckets number = field_at (λ (bucket : LinkedBucket). bucket.refcount == 0) false buckets number

-- a record of a bucket this wide, in a shelf this tall, is filled as a bucket must be
abbrev pub is_filled : ℕ → ℕ → ℕ → LinkedBucket → Bool
is_filled alignment width height bucket =
    nat_le bucket.free_space width
    && ((width - bucket.free_space) % alignment == 0
    && ((nat_le bucket.refcount bucket.item_count && nat_le bucket.item_count most_given)
    && (if bucket.refcount == 0 then bucket.item_count == 0 && width - bucket.free_space == 0
    else nat_le (bucket.item_count * alignment) (width - bucket.free_space) && nat_le 1 height)))

-- so is the record of this number
abbrev pub is_filled_at : ℕ → ℕ → ℕ → List LinkedBucket → ℕ → Bool
is_filled_at alignment width height buckets number = field_at (is_filled alignment width height) false buckets number

-- where a bucket this wide stands that is to end by there at most; none where it is not aligned or ends later
abbrev pub stand_at : ℕ → ℕ → ℕ → LinkedBucket → Option ℕ
stand_at alignment width end bucket =
    if bucket.x % alignment == 0 && nat_le (bucket.x + width) end then Some bucket.x else None

-- the same for the record of this number
abbrev pub stand_by : ℕ → ℕ → List LinkedBucket → ℕ → ℕ → Option ℕ
stand_by alignment width buckets end number = option_and_then (stand_at alignment width end) (slice_get buckets number)

-- a bucket this wide stands at the begin, and ends by there at most
abbrev pub begins_at : ℕ → ℕ → ℕ → LinkedBucket → Bool
begins_at width begin end bucket = bucket.x == begin && nat_le (bucket.x + width) end

-- the same for the record of this number
abbrev pub begins_by : ℕ → ℕ → ℕ → List LinkedBucket → ℕ → Bool
begins_by width begin end buckets number = field_at (begins_at width begin end) false buckets number

-- the records of these numbers stand one before the other, the last one at the begin
abbrev pub stand_together : ℕ → ℕ → List LinkedBucket → ℕ → ℕ → List ℕ → Bool
stand_together alignment width buckets begin end [] = false
stand_together alignment width buckets begin end (number ∷ []) = begins_by width begin end buckets number
stand_together alignment width buckets begin end (number ∷ next ∷ numbers) =
    option_map_or (λ (place : ℕ). stand_together alignment width buckets begin place (next ∷ numbers))
    (stand_by alignment width buckets end number) false

-- the buckets of a shelf have a width that they may have
abbrev pub has_width : Frame → LinkedBucketShelf → Bool
has_width frame shelf =
    shelf.bucket_width % alignment_along frame == 0 && (not (frame.columns == 1) || nat_le 1 shelf.bucket_width)

-- the records of these numbers are those of the buckets of a shelf
abbrev pub has_buckets : Frame → List LinkedBucket → LinkedBucketShelf → List ℕ → Bool
has_buckets frame buckets shelf numbers =
    let alignment = alignment_along frame in
    let width = shelf.bucket_width in
    has_width frame shelf
    && (list_all (is_filled_at alignment width shelf.height buckets) numbers
    && stand_together alignment width buckets shelf.x (shelf.x + frame.column_width) numbers)

-- the shelf that a record spells with the buckets of these numbers
abbrev pub row_shelf : Frame → List LinkedBucket → LinkedBucketShelf → List ℕ → BucketShelf
row_shelf frame buckets shelf numbers =
    record {
      column = shelf.x / frame.column_width;
      height = shelf.height;
      bucket_width = shelf.bucket_width;
      buckets = map (bucket_at buckets shelf.bucket_width) numbers;
    }

-- how much the record of this number has used of a width
abbrev pub used_at : ℕ → List LinkedBucket → ℕ → ℕ
used_at width buckets number = field_at (λ (bucket : LinkedBucket). width - bucket.free_space) 0 buckets number

-- how much the records of these numbers have used of it
abbrev pub used_by : ℕ → List LinkedBucket → List ℕ → ℕ
used_by width buckets numbers = total (used_at width buckets) numbers

-- how many items of them are live
abbrev pub live_by : List LinkedBucket → List ℕ → ℕ
live_by buckets numbers = total (live_of buckets) numbers

-- the width that the record of this number can give
abbrev pub room_at : List LinkedBucket → ℕ → ℕ
room_at buckets number = field_at record_room 0 buckets number

-- the greatest width that one of them can give
abbrev pub widest_by : List LinkedBucket → List ℕ → ℕ
widest_by buckets [] = 0
widest_by buckets (number ∷ numbers) = max (room_at buckets number) (widest_by buckets numbers)

-- what is opened, and how tall the last column is, once a shelf stands there too; none where it breaks the rule
abbrev pub stacked_on : Frame → Stack → LinkedBucketShelf → Option Stack
stacked_on frame stack shelf =
    let column = shelf.x / frame.column_width in
    let height = if column + 1 == stack.opened then stack.height else 0 in
    if (shelf.x % frame.column_width == 0 && nat_lt column frame.columns)
    && ((column + 1 == stack.opened || (column == stack.opened && nat_le 1 shelf.height))
    && (shelf.y == height && nat_le (height + shelf.height) (across_side frame)))
    then Some (record { opened = column + 1; height = height + shelf.height })
    else None

-- the same once these shelves stand there
abbrev pub stack_end : Frame → Stack → List LinkedBucketShelf → Option Stack
stack_end frame stack [] = Some stack
stack_end frame stack (shelf ∷ shelves) =
    option_and_then (λ (next : Stack). stack_end frame next shelves) (stacked_on frame stack shelf)

-- the shelves stand as they must, and leave what is said
abbrev pub is_stacked : Frame → List LinkedBucketShelf → ℕ → ℕ → Bool
is_stacked frame shelves column height =
    option_map_or (λ (stack : Stack). stack.opened - 1 == column && across_side frame - stack.height == height)
    (stack_end frame (record { opened = 0; height = 0 }) shelves) false

-- nothing of the last shelf is live
abbrev pub ends_idle : List KeptShelf → Bool
ends_idle shelves = option_map_or is_kept_idle (slice_get shelves (length shelves - 1)) false

-- what is kept of a shelf with the buckets of these numbers
abbrev pub row_kept : LinkedBucketShelf → List LinkedBucket → List ℕ → KeptShelf
row_kept shelf buckets numbers =
    record {
      shelf = shelf;
      live_items = live_items (map (bucket_at buckets shelf.bucket_width) numbers);
      widest_room = widest_room shelf.bucket_width (map (bucket_at buckets shelf.bucket_width) numbers);
    }

-- the buckets of these numbers are those of the shelf of a number, and this is what is kept of it
pub record IsRow (frame : Frame) (buckets : List LinkedBucket) (number : ℕ) (shelf : LinkedBucketShelf) (numbers : List ℕ) (judged : Judged) : Type 0 where
  pub owned : AllByRecursion (λ bucket. shelf_of buckets bucket ≡ number) numbers
  pub has : AreBuckets frame buckets shelf numbers
  pub generations : AllByRecursion (λ bucket. generation_of buckets bucket < generations) numbers
  pub kept : judged.kept ≡ row_kept shelf buckets numbers
  pub space : judged.space ≡ used_width (row_shelf frame buckets shelf numbers).buckets * shelf.height

-- the rule that a fault names is broken by them
abbrev pub BreaksRow : Frame → List LinkedBucket → ℕ → LinkedBucketShelf → List ℕ → RestoreFault → Type 0
BreaksRow frame buckets number shelf numbers Link = AllByRecursion (λ bucket. shelf_of buckets bucket ≡ number) numbers → ⊥
BreaksRow frame buckets number shelf numbers Runs = AreBuckets frame buckets shelf numbers → ⊥
BreaksRow frame buckets number shelf numbers fault = ⊥
