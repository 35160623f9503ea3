-- Why sides do not fit among records, and what shelves and buckets hold, as the private functions
-- find it.
use Rattle.std.specs.Prelude.{ℕ, zero, suc, ◌+◌, ◌-◌, ◌&&◌, ◌||◌, max, Bool, not, Option, None, Some, is_some, List, [], ◌∷◌, length, slice_get, nat_le, nat_lt, ◌==◌, if◌then◌else◌}
use Rattle.std.specs.List.{list_any}
use Rattle.std.specs.Option.{option_map_or}
use Rattle.etagere_base.specs.declared.frames.Frame.{Frame}
use Rattle.etagere_base.specs.declared.sides.Sides.{Sides}
use Rattle.bucketed_model.specs.declared.refusals.BucketedRefusal.{BucketedRefusal}
use Rattle.bucketed_model.specs.declared.refusals.BucketedRefusal.TheVariants as reasons
use Rattle.bucketed_model.specs.declared.usage.BucketedUsage.{BucketedUsage}
use Rattle.bucketed_model.specs.Adding.{Remaining}
use Rattle.bucketed_model.specs.Refusal.{has_space}
use Rattle.bucketed_model.specs.State.{most_buckets}
use Rattle.bucketed_model.specs.Usage.{size_of}
use Rattle.bucketed_records.specs.declared.records.LinkedBucket.{LinkedBucket}
use Rattle.bucketed_records.specs.declared.records.KeptShelf.{KeptShelf}
use Rattle.bucketed_records.specs.Private.Store.{is_kept_idle}
use Rattle.bucket_index.specs.declared.searching.Wanted.TheVariants.{Wide}
use Rattle.bucket_index.specs.Private.Searching.{first_wanted}
use Rattle.bucketed_store.specs.Private.Placing.{kept_placement}

-- the widest room in the shelves that are at least so tall
abbrev pub kept_widest : ℕ → List KeptShelf → ℕ
kept_widest height [] = 0
kept_widest height (kept ∷ shelves) =
    max (if nat_le height kept.shelf.height then kept.widest_room else 0)
    (kept_widest height shelves)

-- a shelf is tall enough, and a bucket of it has the width left
abbrev pub kept_has_width : Sides → List LinkedBucket → KeptShelf → Bool
kept_has_width sides buckets kept =
    nat_le sides.across kept.shelf.height && is_some (first_wanted (Wide sides.along) buckets kept)

-- the reason why sides do not fit in shelves of which none can take them
abbrev pub kept_shelves_refusal : Frame → Remaining → Sides → List KeptShelf → List LinkedBucket → BucketedRefusal
kept_shelves_refusal frame left sides shelves buckets =
    let spacious = has_space frame left sides.across in
    if not (spacious || list_any (kept_has_width sides buckets) shelves)
    then reasons.NoRoom (kept_widest sides.across shelves)
    else (if spacious then reasons.NoBuckets else reasons.ItemsUsedUp)

-- the reason why sides do not fit, none where they do
abbrev pub kept_refusal : Frame → Remaining → Sides → List KeptShelf → List LinkedBucket → Option BucketedRefusal
kept_refusal frame left sides shelves buckets =
    if is_some (kept_placement frame left sides shelves buckets)
    then None
    else Some (kept_shelves_refusal frame left sides shelves buckets)

-- the height of a shelf that can give just this width to one item
abbrev pub kept_height_with : ℕ → KeptShelf → ℕ
kept_height_with width kept =
    if nat_lt 0 kept.shelf.height && kept.widest_room == width then kept.shelf.height else 0

-- the greatest of these heights
abbrev pub kept_tallest : ℕ → List KeptShelf → ℕ
kept_tallest width [] = 0
kept_tallest width (kept ∷ shelves) =
    max (kept_height_with width kept) (kept_tallest width shelves)

-- the widest room in shelves that have a height, and the greatest height of those that have it
abbrev pub kept_largest : List KeptShelf → Sides
kept_largest shelves =
    let width = kept_widest 1 shelves in
    record { along = width; across = if width == 0 then 0 else kept_tallest width shelves }

-- how many shelves hold nothing live
abbrev pub kept_idle_count : List KeptShelf → ℕ
kept_idle_count [] = 0
kept_idle_count (kept ∷ shelves) =
    (if is_kept_idle kept then 1 else 0) + kept_idle_count shelves

-- how many items are live
abbrev pub kept_items : List KeptShelf → ℕ
kept_items [] = 0
kept_items (kept ∷ shelves) = kept.live_items + kept_items shelves

-- a record counts where it holds nothing live
abbrev pub idle_one : LinkedBucket → ℕ
idle_one bucket = if bucket.refcount == 0 then 1 else 0

-- how many records hold nothing live, in so many steps from a link on
abbrev pub idle_from : ℕ → List LinkedBucket → Option ℕ → ℕ
idle_from zero buckets at = 0
idle_from (suc steps) buckets None = 0
idle_from (suc steps) buckets (Some number) =
    option_map_or
    (λ (bucket : LinkedBucket). idle_one bucket + idle_from steps buckets bucket.next)
    (slice_get buckets number) 0

-- how many buckets of shelves hold nothing live
abbrev pub idle_in : List LinkedBucket → List KeptShelf → ℕ
idle_in buckets [] = 0
idle_in buckets (kept ∷ shelves) =
    idle_from most_buckets buckets kept.shelf.first_bucket + idle_in buckets shelves

-- how full the records are, of which so many buckets are in use
abbrev pub kept_usage : Frame → ℕ → List KeptShelf → List LinkedBucket → BucketedUsage
kept_usage frame in_use shelves buckets =
    record {
      shelves = length shelves;
      idle_shelves = kept_idle_count shelves;
      buckets = in_use;
      idle_buckets = idle_in buckets shelves;
      items = kept_items shelves;
      unused_buckets = most_buckets - in_use;
      largest_free = size_of frame (kept_largest shelves);
    }
