-- Searching among records: what is found, by the links that are followed.
use Rattle.std.specs.Prelude.{ℕ, zero, suc, ◌-◌, ◌+◌, ◌^◌, max, min, Bool, false, ◌&&◌, not, Option, None, Some, option_map, option_and_then, unwrap_or, List, [], ◌∷◌, map, drop, slice_get, nat_le, nat_lt, ◌==◌, if◌then◌else◌}
use Rattle.std.specs.Option.{option_map_or}
use Rattle.etagere_base.specs.declared.sides.Sides.{Sides}
use Rattle.etagere_base.specs.Least.{first_least, Found}
use Rattle.bucketed_model.specs.Picking.{or_else}
use Rattle.bucketed_model.specs.State.{most_buckets, most_given}
use Rattle.bucketed_records.specs.declared.records.LinkedBucket.{LinkedBucket}
use Rattle.bucketed_records.specs.declared.records.KeptShelf.{KeptShelf}
use Rattle.bucketed_records.specs.StandsFor.{free_of}
use Rattle.bucketed_records.specs.Private.Store.{record_room}
pub use Rattle.bucket_index.specs.declared.searching.Wanted.{Wanted}
pub use Rattle.bucket_index.specs.declared.searching.Wanted.TheVariants.{Roomy, Exact, Wide}
pub use Rattle.bucket_index.specs.declared.searching.FoundBucket.{FoundBucket}

-- a bucket record is what is wanted
abbrev pub is_wanted : Wanted → LinkedBucket → Bool
is_wanted (Roomy width) bucket =
    nat_le width bucket.free_space && nat_lt bucket.item_count most_given
is_wanted (Exact width) bucket =
    (nat_le width bucket.free_space && nat_lt bucket.item_count most_given)
    && bucket.free_space == width
is_wanted (Wide width) bucket = nat_le width bucket.free_space

-- the room that a bucket needs to be wanted
abbrev pub needed_room : Wanted → ℕ
needed_room (Roomy width) = width
needed_room (Exact width) = width
needed_room (Wide width) = 0

-- the number of the first record that is wanted, in so many steps from a link on
abbrev pub first_from : ℕ → Wanted → List LinkedBucket → Option ℕ → Option ℕ
first_from zero wanted buckets at = None
first_from (suc steps) wanted buckets None = None
first_from (suc steps) wanted buckets (Some number) =
    option_and_then
    (λ (bucket : LinkedBucket). if is_wanted wanted bucket then Some number
    else first_from steps wanted buckets bucket.next)
    (slice_get buckets number)

-- the number of the first bucket of a shelf that is wanted
abbrev pub first_wanted : Wanted → List LinkedBucket → KeptShelf → Option ℕ
first_wanted wanted buckets kept = first_from most_buckets wanted buckets kept.shelf.first_bucket

-- the greatest width that a record can give, in so many steps from a link on
abbrev pub widest_from : ℕ → List LinkedBucket → Option ℕ → ℕ
widest_from zero buckets at = 0
widest_from (suc steps) buckets None = 0
widest_from (suc steps) buckets (Some number) =
    option_map_or
    (λ (bucket : LinkedBucket). max (record_room bucket) (widest_from steps buckets bucket.next))
    (slice_get buckets number) 0

-- the height that a shelf wastes where it is eligible and has room
abbrev pub kept_waste : Bool → Sides → KeptShelf → Option ℕ
kept_waste adds sides kept =
    if (nat_le sides.across kept.shelf.height
    && (nat_le sides.along kept.shelf.bucket_width
    && not (adds && nat_lt sides.across (kept.shelf.height - sides.across))))
    && nat_le sides.along kept.widest_room
    then Some (kept.shelf.height - sides.across)
    else None

-- the height that a shelf wastes where it has room and that is below a limit
abbrev pub waste_below : ℕ → Sides → KeptShelf → Option ℕ
waste_below limit sides kept =
    if (nat_le sides.across kept.shelf.height
    && (nat_le sides.along kept.shelf.bucket_width && nat_le sides.along kept.widest_room))
    && nat_lt (kept.shelf.height - sides.across) limit
    then Some (kept.shelf.height - sides.across)
    else None

-- a shelf that may be chosen wastes less height than this
abbrev pub most_waste : Bool → Sides → ℕ
most_waste adds sides = if adds then min (sides.across + 1) (2 ^ 32 - 1) else 2 ^ 32 - 1

-- the same where something was found before it, that it has to be better than
abbrev pub limit_beside : Bool → Sides → Option Found → ℕ
limit_beside adds sides best =
    option_map_or (λ (least : Found). min least.rank (most_waste adds sides)) best
    (most_waste adds sides)

-- a shelf was found that wastes less than two differ in height
abbrev pub is_least : ℕ → Option Found → Bool
is_least step None = false
is_least step (Some least) = nat_lt least.rank step

-- the number of a shelf and that of its first bucket that is wanted
abbrev pub found_in : Wanted → List LinkedBucket → ℕ → KeptShelf → Option FoundBucket
found_in wanted buckets number kept =
    option_map (λ bucket. record { shelf = number; bucket = bucket })
    (first_wanted wanted buckets kept)

-- the first exact bucket of a shelf that wastes no height
abbrev pub exact_in : Sides → List LinkedBucket → ℕ → KeptShelf → Option FoundBucket
exact_in sides buckets number kept =
    if kept.shelf.height == sides.across && nat_le sides.along kept.widest_room
    then found_in (Exact sides.along) buckets number kept
    else None

-- the first exact bucket of shelves that waste no height, of which the first has this number
abbrev pub exact_from : Sides → List LinkedBucket → ℕ → List KeptShelf → Option FoundBucket
exact_from sides buckets number [] = None
exact_from sides buckets number (kept ∷ shelves) =
    or_else (exact_in sides buckets number kept) (exact_from sides buckets (suc number) shelves)

-- what was found, unless it wastes width alone, and there is an exact bucket in a later shelf
abbrev pub exact_or_found : Sides → List KeptShelf → List LinkedBucket → Found → ℕ → FoundBucket
exact_or_found sides shelves buckets least bucket =
    let found : FoundBucket = record { shelf = least.number; bucket = bucket } in
    if least.rank == 0 && not (free_of buckets bucket == sides.along)
    then unwrap_or (exact_from sides buckets (suc least.number) (drop (suc least.number) shelves))
    found
    else found

-- the bucket that is picked for these sides
abbrev pub picked : Bool → Sides → List KeptShelf → List LinkedBucket → Option FoundBucket
picked adds sides shelves buckets =
    option_and_then
    (λ (least : Found). option_and_then
    (λ (kept : KeptShelf). option_map (exact_or_found sides shelves buckets least)
    (first_wanted (Roomy sides.along) buckets kept))
    (slice_get shelves least.number))
    (first_least (map (kept_waste adds sides) shelves))
