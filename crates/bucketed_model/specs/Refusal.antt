-- Why a size does not fit into a bucketed atlas, and by which number that is told.
use Rattle.std.specs.Prelude.{ℕ, Bool, ◌&&◌, ◌||◌, max, not, Option, None, Some, option_and_then, option_map, is_some, List, [], ◌∷◌, find, flat_map, map, nat_le, nat_lt, if◌then◌else◌}
use Rattle.std.specs.List.{list_any}
use Rattle.etagere_base.specs.declared.frames.Frame.{Frame}
use Rattle.etagere_base.specs.declared.geometry.Size.{Size}
use Rattle.etagere_base.specs.declared.sides.Sides.{Sides}
use Rattle.etagere_base.specs.declared.faults.SizeRefusal.{SizeRefusal}
use Rattle.etagere_base.specs.declared.faults.SizeRefusal.TheVariants as sizes
use Rattle.etagere_base.specs.Frames.{asked}
use Rattle.etagere_base.specs.Refusing as sizes_refused
use Rattle.bucketed_model.specs.declared.refusals.BucketedRefusal.{BucketedRefusal}
use Rattle.bucketed_model.specs.declared.refusals.BucketedRefusal.TheVariants as reasons
use Rattle.bucketed_model.specs.Adding.{Remaining, has_later_column, left_to}
use Rattle.bucketed_model.specs.Picking.{free_width, or_else}
use Rattle.bucketed_model.specs.Placing.{destination_of}
use Rattle.bucketed_model.specs.State.{Bucket, BucketShelf, BucketedState, most_given}

-- the reason of a size itself, as one of a bucketed atlas
abbrev pub of_size : SizeRefusal → BucketedRefusal
of_size sizes.NotPositive = reasons.NotPositive
of_size sizes.TooLong = reasons.TooLong
of_size sizes.WiderThanColumn = reasons.WiderThanColumn
of_size sizes.TallerThanAtlas = reasons.TallerThanAtlas

-- the first reason why no shelf of a frame, however empty, could take a size
abbrev pub size_refusal : Frame → Size → Option BucketedRefusal
size_refusal frame size = option_map of_size (sizes_refused.size_refusal frame size)

-- the greatest of some numbers, 0 where there are none
abbrev pub greatest : List ℕ → ℕ
greatest [] = 0
greatest (n ∷ ns) = max n (greatest ns)

-- the width that a bucket can give to one item: what it has left, and none where it has given the
-- most items
abbrev pub room : BucketShelf → Bucket → ℕ
room shelf bucket = if nat_lt bucket.given most_given then free_width shelf bucket else 0

-- the rooms of the buckets of a shelf, where that is at least so tall
abbrev pub rooms_in : ℕ → BucketShelf → List ℕ
rooms_in height shelf = if nat_le height shelf.height then map (room shelf) shelf.buckets else []

-- the widest room in the shelves that are at least so tall
abbrev pub widest : ℕ → List BucketShelf → ℕ
widest height shelves = greatest (flat_map (rooms_in height) shelves)

-- there is space for a new shelf so tall: in the current column, or in one after it
abbrev pub has_space : Frame → Remaining → ℕ → Bool
has_space frame left height = nat_le height left.height || has_later_column frame left

-- a bucket has so much width left, whether or not it can give another item
abbrev pub is_wide : ℕ → BucketShelf → Bucket → Bool
is_wide width shelf bucket = nat_le width (free_width shelf bucket)

-- a shelf is tall enough, and a bucket of it has the width left
abbrev pub has_width : Sides → BucketShelf → Bool
has_width sides shelf =
    nat_le sides.across shelf.height && is_some (find (is_wide sides.along shelf) shelf.buckets)

-- of shelves of which none can take these sides: there is neither space for a new shelf nor
-- width left in a bucket; else there is that space, but too few buckets; else the bucket that has
-- the width has given its items
abbrev pub shelves_refusal : Frame → List BucketShelf → Sides → BucketedRefusal
shelves_refusal frame shelves sides =
    let spacious = has_space frame (left_to frame shelves) sides.across in
    if not (spacious || list_any (has_width sides) shelves)
    then reasons.NoRoom (widest sides.across shelves)
    else (if spacious then reasons.NoBuckets else reasons.ItemsUsedUp)

-- the reason why sides do not fit, none where they do
abbrev pub sides_refusal : Frame → List BucketShelf → Sides → Option BucketedRefusal
sides_refusal frame shelves sides =
    if is_some (destination_of frame shelves sides)
    then None
    else Some (shelves_refusal frame shelves sides)

-- the first reason why a size does not fit, none where it does
abbrev pub refusal : BucketedState → Size → Option BucketedRefusal
refusal state size =
    or_else (size_refusal state.frame size)
    (option_and_then (sides_refusal state.frame state.shelves) (asked state.frame size))

-- the number by which a reason is told
abbrev pub refusal_number : BucketedRefusal → ℕ
refusal_number reasons.NotPositive = 1
refusal_number reasons.TooLong = 2
refusal_number reasons.WiderThanColumn = 3
refusal_number reasons.TallerThanAtlas = 4
refusal_number (reasons.NoRoom widest) = 5
refusal_number reasons.NoBuckets = 6
refusal_number reasons.ItemsUsedUp = 7
