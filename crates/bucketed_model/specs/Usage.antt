-- How full a bucketed atlas is: what its shelves and buckets hold, and the widest item that one gives.
use Rattle.std.specs.Prelude.{ℕ, ◌&&◌, List, length, map, nat_lt, ◌==◌, if◌then◌else◌}
use Rattle.std.specs.List.{count_by}
use Rattle.etagere_base.specs.declared.frames.Frame.{Frame}
use Rattle.etagere_base.specs.declared.geometry.Size.{Size}
use Rattle.etagere_base.specs.declared.sides.Sides.{Sides}
use Rattle.etagere_base.specs.Lists.{total}
use Rattle.etagere_base.specs.Places.{size_at}
use Rattle.bucketed_model.specs.declared.usage.BucketedUsage.{BucketedUsage}
use Rattle.bucketed_model.specs.Refusal.{greatest, rooms_in, widest}
use Rattle.bucketed_model.specs.State.{Bucket, BucketShelf, BucketedState, buckets_in_use, buckets_left, is_idle, is_idle_bucket}

-- how many buckets of a shelf hold nothing live
abbrev pub idle_buckets : BucketShelf → ℕ
idle_buckets shelf = count_by is_idle_bucket shelf.buckets

-- how many items of a shelf are live
abbrev pub live_items : BucketShelf → ℕ
live_items shelf = total (λ (bucket : Bucket). bucket.live) shelf.buckets

-- the height of a shelf of which a bucket has just this room
abbrev pub height_with : ℕ → BucketShelf → ℕ
height_with width shelf =
    if nat_lt 0 shelf.height && greatest (rooms_in 1 shelf) == width then shelf.height else 0

-- the widest room in the shelves that have a height, and the greatest height of those that have it;
-- nothing along or across where no shelf has room
abbrev pub largest_sides : List BucketShelf → Sides
largest_sides shelves =
    let width = widest 1 shelves in
    record {
      along = width;
      across = if width == 0 then 0 else greatest (map (height_with width) shelves);
    }

-- sides along and across the shelves as a size
abbrev pub size_of : Frame → Sides → Size
size_of frame sides = size_at frame sides.along sides.across

-- the widest item that a shelf can give, with the height of that shelf
abbrev pub largest_free : BucketedState → Size
largest_free state = size_of state.frame (largest_sides state.shelves)

-- how full a state is
abbrev pub usage : BucketedState → BucketedUsage
usage state =
    record {
      shelves = length state.shelves;
      idle_shelves = count_by is_idle state.shelves;
      buckets = buckets_in_use state.shelves;
      idle_buckets = total idle_buckets state.shelves;
      items = total live_items state.shelves;
      unused_buckets = buckets_left state.shelves;
      largest_free = largest_free state;
    }
