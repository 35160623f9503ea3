-- Growing: the first fault of a new size, and the state after a grow.
use Rattle.std.specs.Prelude.{ℕ, ◌+◌, ◌-◌, ◌/◌, min, Option, option_map, List, [], ◌∷◌, ◌++◌, take, drop}
use Rattle.etagere_base.specs.declared.faults.ResizeFault.{ResizeFault}
use Rattle.etagere_base.specs.declared.faults.ResizeFault.TheVariants as resizes
use Rattle.etagere_base.specs.declared.frames.Frame.{Frame}
use Rattle.etagere_base.specs.declared.geometry.Size.{Size}
use Rattle.etagere_base.specs.Growing.{resize_fault}
pub use Rattle.etagere_base.specs.Growing.{grown_column_width, grown_frame, resized}
use Rattle.bucketed_model.specs.Adding.{new_buckets}
use Rattle.bucketed_model.specs.declared.faults.GrowFault.{GrowFault}
use Rattle.bucketed_model.specs.declared.faults.GrowFault.TheVariants as faults
use Rattle.bucketed_model.specs.Frames.{longest_bucketed_side}
use Rattle.bucketed_model.specs.State.{BucketShelf, BucketedState, Tag, buckets_left, with_buckets}

-- a fault of a size, as one of a grow
abbrev pub of_resize : ResizeFault → GrowFault
of_resize resizes.Size = faults.Size
of_resize resizes.Smaller = faults.Smaller
of_resize resizes.Area = faults.Area

-- the first fault of a grow to a size
abbrev pub grow_fault : Frame → Size → Option GrowFault
grow_fault frame size = option_map of_resize (resize_fault longest_bucketed_side frame size)

-- how many buckets each shelf gets for a width that is added, where so many are left
abbrev pub grown_counts : ℕ → ℕ → List BucketShelf → List ℕ
grown_counts width left [] = []
grown_counts width left (shelf ∷ shelves) =
    let count = min (width / shelf.bucket_width) left in
    count ∷ grown_counts width (left - count) shelves

-- numbers, added up
abbrev pub total : List ℕ → ℕ
total [] = 0
total (n ∷ ns) = n + total ns

-- the buckets that a grow adds to each shelf
abbrev pub grow_counts : Frame → Size → List BucketShelf → List ℕ
grow_counts frame size shelves =
    grown_counts ((grown_frame frame size).column_width - frame.column_width) (buckets_left shelves)
    shelves

-- the shelves with so many new buckets each, which stand side by side from a place on and are
-- searched first
abbrev pub widened : ℕ → List ℕ → List Tag → List BucketShelf → List BucketShelf
widened place (count ∷ counts) tags (shelf ∷ shelves) =
    with_buckets (new_buckets place shelf.bucket_width (take count tags) ++ shelf.buckets) shelf
    ∷ widened place counts (drop count tags) shelves
widened place [] tags shelves = shelves
widened place counts tags [] = []

-- the state after a grow, with these tags for new buckets
abbrev pub grown : BucketedState → Size → List Tag → BucketedState
grown state size tags =
    record {
      frame = grown_frame state.frame size;
      shelves = widened state.frame.column_width (grow_counts state.frame size state.shelves) tags
          state.shelves;
    }
