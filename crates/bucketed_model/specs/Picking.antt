-- Which bucket is picked for a size: the shelf of least waste, or an exact bucket.
use Rattle.std.specs.Prelude.{ℕ, suc, ◌-◌, Bool, ◌&&◌, not, Option, None, Some, option_map, option_and_then, unwrap_or, List, [], ◌∷◌, find, map, drop, slice_get, nat_le, nat_lt, ◌==◌, if◌then◌else◌}
use Rattle.etagere_base.specs.declared.sides.Sides.{Sides}
use Rattle.etagere_base.specs.Least.{first_least}
use Rattle.bucketed_model.specs.State.{Bucket, BucketShelf, most_given}

-- a bucket of a shelf, and the shelf's number
pub record Spot : Type 0 where
  pub number : ℕ
  pub shelf : BucketShelf
  pub bucket : Bucket

-- the width that a bucket has left
abbrev pub free_width : BucketShelf → Bucket → ℕ
free_width shelf bucket = shelf.bucket_width - bucket.used

-- a bucket can give an item this wide
abbrev pub has_room : ℕ → BucketShelf → Bucket → Bool
has_room width shelf bucket =
    nat_le width (free_width shelf bucket) && nat_lt bucket.given most_given

-- the first bucket of a shelf that has room
abbrev pub roomy_bucket : ℕ → BucketShelf → Option Bucket
roomy_bucket width shelf = find (has_room width shelf) shelf.buckets

-- a shelf is tall enough, its buckets are wide enough, and it isn't more than twice as tall as
-- asked while a shelf can be added
abbrev pub is_eligible : Bool → Sides → BucketShelf → Bool
is_eligible adds sides shelf =
    nat_le sides.across shelf.height
    && (nat_le sides.along shelf.bucket_width
    && not (adds && nat_lt sides.across (shelf.height - sides.across)))

-- the height that an eligible shelf with a roomy bucket wastes; none for any other shelf
abbrev pub waste : Bool → Sides → BucketShelf → Option ℕ
waste adds sides shelf =
    if is_eligible adds sides shelf
    then option_map (λ _. shelf.height - sides.across) (roomy_bucket sides.along shelf)
    else None

-- the bucket that a choice finds in the shelf of a number
abbrev pub spot_in : (BucketShelf → Option Bucket) → ℕ → List BucketShelf → Option Spot
spot_in choose number shelves =
    option_and_then
    (λ shelf. option_map (λ bucket. record { number = number; shelf = shelf; bucket = bucket })
    (choose shelf))
    (slice_get shelves number)

-- the first bucket with room in the shelf of least waste
abbrev pub least_spot : Bool → Sides → List BucketShelf → Option Spot
least_spot adds sides shelves =
    option_and_then
    (λ found. spot_in (roomy_bucket sides.along) found.number shelves)
    (first_least (map (waste adds sides) shelves))

-- a bucket with room for an item this wide and no wider
abbrev pub is_exact : ℕ → BucketShelf → Bucket → Bool
is_exact width shelf bucket = has_room width shelf bucket && free_width shelf bucket == width

-- the first exact bucket of a shelf that wastes no height
abbrev pub exact_bucket : Sides → BucketShelf → Option Bucket
exact_bucket sides shelf =
    if shelf.height == sides.across then find (is_exact sides.along shelf) shelf.buckets else None

-- what was found, or else what comes after
abbrev pub or_else : {X : Type 0} → Option X → Option X → Option X
or_else None later = later
or_else (Some x) later = Some x

-- the first bucket that a choice finds in shelves, of which the first one has this number
abbrev pub first_spot : (BucketShelf → Option Bucket) → ℕ → List BucketShelf → Option Spot
first_spot choose number [] = None
first_spot choose number (shelf ∷ shelves) =
    or_else
    (option_map (λ bucket. record { number = number; shelf = shelf; bucket = bucket })
    (choose shelf))
    (first_spot choose (suc number) shelves)

-- a spot that wastes height or width gives way to none; one that wastes width alone to the first
-- exact bucket after it
abbrev pub exact_or : Sides → List BucketShelf → Spot → Spot
exact_or sides shelves spot =
    if spot.shelf.height == sides.across && not (free_width spot.shelf spot.bucket == sides.along)
    then unwrap_or
    (first_spot (exact_bucket sides) (suc spot.number) (drop (suc spot.number) shelves)) spot
    else spot

-- the bucket that is picked for these sides
abbrev pub pick : Bool → Sides → List BucketShelf → Option Spot
pick adds sides shelves = option_map (exact_or sides shelves) (least_spot adds sides shelves)
