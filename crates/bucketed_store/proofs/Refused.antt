-- Why sides have no place among records, and how full these are, is what the shelves that they spell say.
use Rattle.std.proofs.Common.{◌≡◌, ℕ, zero, suc, ◌+◌, ◌-◌, ◌*◌, ◌≤◌, Bool, true, false, cond, Option, None, Some, List, [], ◌∷◌, ◌++◌, length, map, refl, ap, arith, sym, ◌∙◌, ◌&&◌}
use Rattle.std.proofs.lemmas.Bool.Decides.{nat_tests}
use Rattle.std.proofs.lemmas.List.Sums.{sum_by-cons}
use Rattle.std.specs.List.{AllByRecursion, count_by, list_any}
use Rattle.std.specs.Prelude.{◌||◌, ◌==◌, find, flat_map, is_some, max, nat_le, nat_lt, not}
use Rattle.std.specs.Option.{option_map_or}
use Rattle.etagere_base.proofs.FirstPlace.{is_some-map}
use Rattle.etagere_base.specs.declared.frames.Frame.{Frame}
use Rattle.etagere_base.specs.declared.sides.Sides.{Sides}
use Rattle.etagere_base.specs.Frames.{alignment_along}
use Rattle.etagere_base.specs.Lists.{total}
use Rattle.bucketed_model.specs.declared.refusals.BucketedRefusal.{BucketedRefusal}
use Rattle.bucketed_model.specs.declared.refusals.BucketedRefusal.TheVariants.{NoRoom, NoBuckets, ItemsUsedUp}
use Rattle.bucketed_model.specs.declared.usage.BucketedUsage.{BucketedUsage}
use Rattle.bucketed_model.specs.Adding.{left_to}
use Rattle.bucketed_model.specs.Placing.{destination_of}
use Rattle.bucketed_model.specs.Refusal.{greatest, has_space, has_width, is_wide, sides_refusal, room, rooms_in, shelves_refusal, widest}
use Rattle.bucketed_model.specs.State.{Bucket, BucketShelf, BucketedState, buckets_in_use, is_idle, is_idle_bucket, most_buckets}
use Rattle.bucketed_model.specs.Usage.{height_with, idle_buckets, largest_sides, live_items, size_of, usage}
use Rattle.bucketed_model.specs.Valid.{IsBucket, IsShelf, IsValid}
use Rattle.bucketed_records.specs.declared.records.LinkedBucket.{LinkedBucket}
use Rattle.bucketed_records.specs.declared.records.KeptShelf.{KeptShelf}
use Rattle.bucketed_records.specs.Private.Store.{AreBucketsSpelled, AreShelvesSpelled, Spells, Stored, first_link, kept_shelf, kept_shelves, widest_room}
use Rattle.bucketed_records.specs.Private.Store as store
use Rattle.bucketed_records.proofs.Spelling.KeptShelves.{length-kept, live-idle}
use Rattle.bucket_index.specs.declared.searching.Wanted.TheVariants.{Wide}
use Rattle.bucketed_store.specs.Private.Refusals.{idle_from, idle_in, idle_one, kept_has_width, kept_height_with, kept_idle_count, kept_items, kept_largest, kept_refusal, kept_shelves_refusal, kept_tallest, kept_usage, kept_widest}
use Rattle.bucketed_store.proofs.Spelling.FoundFirst.{first-found, number_of}
use Rattle.bucketed_store.proofs.Spelling.PlacedRecords.{destination-is, placement_by}

-- the greatest of two lists of numbers
greatest-append : (xs ys : List ℕ) → greatest (xs ++ ys) ≡ max (greatest xs) (greatest ys)
greatest-append [] ys = omega arith
greatest-append (x ∷ xs) ys = ap (max x) (greatest-append xs ys) ∙ omega arith

-- the greatest of the rooms of buckets is what is kept as their widest room
rooms-widest : (s : BucketShelf) (bs : List Bucket) → greatest (map (room s) bs) ≡ widest_room s.bucket_width bs
rooms-widest s [] = refl
rooms-widest s (b ∷ bs) = ap (max (room s b)) (rooms-widest s bs)

-- the greatest of the rooms of a shelf that is at least so tall
rooms-kept : (height : ℕ) (s : BucketShelf) → greatest (rooms_in height s) ≡ cond (nat_le height s.height) (widest_room s.bucket_width s.buckets) 0
rooms-kept height s = by_test (nat_le height s.height)
  where
    by_test : (t : Bool) → greatest (cond t (map (room s) s.buckets) []) ≡ cond t (widest_room s.bucket_width s.buckets) 0
    by_test true = rooms-widest s s.buckets
    by_test false = refl

-- the widest room in kept shelves is that of the shelves
pub widest-kept : (height : ℕ) (frame : Frame) (before ss : List BucketShelf) → kept_widest height (kept_shelves frame before ss) ≡ widest height ss
widest-kept height frame before [] = refl
widest-kept height frame before (s ∷ ss) =
    ap (max (cond (nat_le height s.height) (widest_room s.bucket_width s.buckets) 0)) (widest-kept height frame (before ++ s ∷ []) ss)
    ∙ ap (λ (n : ℕ). max n (widest height ss)) (sym (rooms-kept height s))
    ∙ sym (greatest-append (rooms_in height s) (flat_map (rooms_in height) ss))

-- a kept shelf has the width where the shelf has it
has_width-kept : (sides : Sides) (records : List LinkedBucket) (number : ℕ) (frame : Frame) (before : List BucketShelf) (s : BucketShelf) → length s.buckets ≤ most_buckets
    → AreBucketsSpelled records number s.bucket_width s.buckets → kept_has_width sides records (kept_shelf frame before s) ≡ has_width sides s
has_width-kept sides records number frame before s few h =
    ap (λ (o : Option ℕ). nat_le sides.across s.height && is_some o)
    (first-found (Wide sides.along) (is_wide sides.along s) records number s.bucket_width (λ next b. refl) most_buckets s.buckets few h)
    ∙ ap (λ (t : Bool). nat_le sides.across s.height && t) (is_some-map number_of (find (is_wide sides.along s) s.buckets))

-- one of kept shelves has it where one of the shelves does
any-kept : (sides : Sides) (records : List LinkedBucket) (number : ℕ) (frame : Frame) (before ss : List BucketShelf) → buckets_in_use ss ≤ most_buckets
    → AreShelvesSpelled records number ss → list_any (kept_has_width sides records) (kept_shelves frame before ss) ≡ list_any (has_width sides) ss
any-kept sides records number frame before [] few h = refl
any-kept sides records number frame before (s ∷ ss) few h =
    ap (λ (t : Bool). t || list_any (kept_has_width sides records) (kept_shelves frame (before ++ s ∷ []) ss)) (has_width-kept sides records number frame before s (omega (arith, few)) h.0)
    ∙ ap (λ (t : Bool). has_width sides s || t) (any-kept sides records (suc number) frame (before ++ s ∷ []) ss (omega (arith, few)) h.1)

-- the reason among records is that of the shelves that they spell
pub refusal-kept : (frame : Frame) (sides : Sides) (stored : Stored) (unused : List ℕ) (ss : List BucketShelf) → 1 ≤ frame.column_width → 1 ≤ sides.along → buckets_in_use ss ≤ most_buckets
    → Spells frame stored unused ss → kept_refusal frame (left_to frame ss) sides stored.shelves stored.buckets ≡ sides_refusal frame ss sides
refusal-kept frame sides stored unused ss wide some few spells =
    ap (λ (t : Bool). cond t None (Some (kept_shelves_refusal frame (left_to frame ss) sides stored.shelves stored.buckets)))
    (ap is_some (destination-is frame sides stored unused ss wide some few spells) ∙ is_some-map placement_by (destination_of frame ss sides))
    ∙ ap (λ (r : BucketedRefusal). cond (is_some (destination_of frame ss sides)) None (Some r)) shelves
  where
    spacious : Bool
    spacious = has_space frame (left_to frame ss) sides.across

    by_parts : Bool → ℕ → BucketedRefusal
    by_parts any room = cond (not (spacious || any)) (NoRoom room) (cond spacious NoBuckets ItemsUsedUp)

    shelves : kept_shelves_refusal frame (left_to frame ss) sides stored.shelves stored.buckets ≡ shelves_refusal frame ss sides
    shelves =
        ap (λ (ks : List KeptShelf). kept_shelves_refusal frame (left_to frame ss) sides ks stored.buckets) spells.shelves
        ∙ ap (λ (t : Bool). by_parts t (kept_widest sides.across (kept_shelves frame [] ss))) (any-kept sides stored.buckets 0 frame [] ss few spells.buckets)
        ∙ ap (by_parts (list_any (has_width sides) ss)) (widest-kept sides.across frame [] ss)

-- the height of a kept shelf that has just this room is that of the shelf
height_with-kept : (width : ℕ) (frame : Frame) (before : List BucketShelf) (s : BucketShelf) → kept_height_with width (kept_shelf frame before s) ≡ height_with width s
height_with-kept width frame before s = by_height (nat_lt 0 s.height) refl
  where
    by_height : (t : Bool) → nat_lt 0 s.height ≡ t
        → cond (t && (widest_room s.bucket_width s.buckets == width)) s.height 0 ≡ cond (t && (greatest (rooms_in 1 s) == width)) s.height 0
    by_height false e = refl
    by_height true e =
        let tall : nat_le 1 s.height ≡ true = grind (arith, nat_tests) in
        let same : greatest (rooms_in 1 s) ≡ widest_room s.bucket_width s.buckets = rooms-kept 1 s ∙ ap (λ (t : Bool). cond t (widest_room s.bucket_width s.buckets) 0) tall in
        ap (λ (n : ℕ). cond (n == width) s.height 0) (sym same)

tallest-kept : (width : ℕ) (frame : Frame) (before ss : List BucketShelf) → kept_tallest width (kept_shelves frame before ss) ≡ greatest (map (height_with width) ss)
tallest-kept width frame before [] = refl
tallest-kept width frame before (s ∷ ss) =
    ap (λ (n : ℕ). max n (kept_tallest width (kept_shelves frame (before ++ s ∷ []) ss))) (height_with-kept width frame before s)
    ∙ ap (max (height_with width s)) (tallest-kept width frame (before ++ s ∷ []) ss)

-- the widest item of kept shelves is that of the shelves
largest-shelves : (frame : Frame) (ss : List BucketShelf) → kept_largest (kept_shelves frame [] ss) ≡ largest_sides ss
largest-shelves frame ss =
    ap (λ (width : ℕ). by_parts width (kept_tallest width (kept_shelves frame [] ss))) (widest-kept 1 frame [] ss)
    ∙ ap (by_parts (widest 1 ss)) (tallest-kept (widest 1 ss) frame [] ss)
  where
    by_parts : ℕ → ℕ → Sides
    by_parts width height = record { along = width; across = cond (width == 0) 0 height }

pub largest-kept : (frame : Frame) (stored : Stored) (unused : List ℕ) (ss : List BucketShelf) → Spells frame stored unused ss → kept_largest stored.shelves ≡ largest_sides ss
largest-kept frame stored unused ss spells = ap kept_largest spells.shelves ∙ largest-shelves frame ss

-- live items, added up
live-kept : (bs : List Bucket) → store.live_items bs ≡ total (λ (b : Bucket). b.live) bs
live-kept [] = refl
live-kept (b ∷ bs) = ap (λ (n : ℕ). b.live + n) (live-kept bs)

items-kept : (frame : Frame) (before ss : List BucketShelf) → kept_items (kept_shelves frame before ss) ≡ total live_items ss
items-kept frame before [] = refl
items-kept frame before (s ∷ ss) =
    ap (λ (n : ℕ). n + kept_items (kept_shelves frame (before ++ s ∷ []) ss)) (live-kept s.buckets)
    ∙ ap (λ (n : ℕ). live_items s + n) (items-kept frame (before ++ s ∷ []) ss)

-- idle shelves, counted
idle_count-kept : (frame : Frame) (before ss : List BucketShelf) → kept_idle_count (kept_shelves frame before ss) ≡ count_by is_idle ss
idle_count-kept frame before [] = refl
idle_count-kept frame before (s ∷ ss) =
    ap (λ (t : Bool). cond t 1 0 + kept_idle_count (kept_shelves frame (before ++ s ∷ []) ss)) (live-idle s.buckets)
    ∙ ap (λ (n : ℕ). cond (is_idle s) 1 0 + n) (idle_count-kept frame (before ++ s ∷ []) ss)
    ∙ sym (sum_by-cons (λ (x : BucketShelf). cond (is_idle x) 1 0) s ss)

-- idle buckets of a shelf, counted
idle-read : (records : List LinkedBucket) (number width steps : ℕ) (bs : List Bucket) → length bs ≤ steps → AreBucketsSpelled records number width bs
    → idle_from steps records (first_link bs) ≡ count_by is_idle_bucket bs
idle-read records number width zero [] enough h = refl
idle-read records number width (suc steps) [] enough h = refl
idle-read records number width zero (b ∷ bs) enough h = absurd (omega arith)
idle-read records number width (suc steps) (b ∷ bs) enough h =
    ap (λ (r : Option LinkedBucket). option_map_or (λ (bucket : LinkedBucket). idle_one bucket + idle_from steps records bucket.next) r 0) h.0
    ∙ ap (λ (n : ℕ). cond (b.live == 0) 1 0 + n) (idle-read records number width steps bs (omega arith) h.1)
    ∙ sym (sum_by-cons (λ (x : Bucket). cond (is_idle_bucket x) 1 0) b bs)

idle_in-kept : (records : List LinkedBucket) (number : ℕ) (frame : Frame) (before ss : List BucketShelf) → buckets_in_use ss ≤ most_buckets → AreShelvesSpelled records number ss
    → idle_in records (kept_shelves frame before ss) ≡ total idle_buckets ss
idle_in-kept records number frame before [] few h = refl
idle_in-kept records number frame before (s ∷ ss) few h =
    ap (λ (n : ℕ). n + idle_in records (kept_shelves frame (before ++ s ∷ []) ss)) (idle-read records number s.bucket_width most_buckets s.buckets (omega (arith, few)) h.0)
    ∙ ap (λ (n : ℕ). idle_buckets s + n) (idle_in-kept records (suc number) frame (before ++ s ∷ []) ss (omega (arith, few)) h.1)

-- how full the records are is how full the state is that they spell
pub usage-kept : (state : BucketedState) (in_use : ℕ) (stored : Stored) (unused : List ℕ) → IsValid state → in_use ≡ buckets_in_use state.shelves → Spells state.frame stored unused state.shelves
    → kept_usage state.frame in_use stored.shelves stored.buckets ≡ usage state
usage-kept state in_use stored unused valid used spells =
    ap (λ (n : ℕ). kept_usage state.frame n stored.shelves stored.buckets) used
    ∙ ap (λ (ks : List KeptShelf). kept_usage state.frame (buckets_in_use ss) ks stored.buckets) spells.shelves
    ∙ ap (λ (n : ℕ). by_parts n (kept_idle_count ks) (idle_in stored.buckets ks) (kept_items ks) (kept_largest ks)) (length-kept state.frame [] ss)
    ∙ ap (λ (n : ℕ). by_parts (length ss) n (idle_in stored.buckets ks) (kept_items ks) (kept_largest ks)) (idle_count-kept state.frame [] ss)
    ∙ ap (λ (n : ℕ). by_parts (length ss) (count_by is_idle ss) n (kept_items ks) (kept_largest ks)) (idle_in-kept stored.buckets 0 state.frame [] ss valid.shelves.few spells.buckets)
    ∙ ap (λ (n : ℕ). by_parts (length ss) (count_by is_idle ss) (total idle_buckets ss) n (kept_largest ks)) (items-kept state.frame [] ss)
    ∙ ap (by_parts (length ss) (count_by is_idle ss) (total idle_buckets ss) (total live_items ss)) (largest-shelves state.frame ss)
  where
    ss : List BucketShelf
    ss = state.shelves

    ks : List KeptShelf
    ks = kept_shelves state.frame [] ss

    by_parts : ℕ → ℕ → ℕ → ℕ → Sides → BucketedUsage
    by_parts shelves idle_shelves idle items largest =
        record {
          shelves = shelves;
          idle_shelves = idle_shelves;
          buckets = buckets_in_use ss;
          idle_buckets = idle;
          items = items;
          unused_buckets = most_buckets - buckets_in_use ss;
          largest_free = size_of state.frame largest;
        }

-- few items are live
bucket-items : (al width height : ℕ) (bs : List Bucket) → AllByRecursion (IsBucket al width height) bs → total (λ (b : Bucket). b.live) bs ≤ length bs * 4095
bucket-items al width height [] each = omega arith
bucket-items al width height (b ∷ bs) each = omega (arith, each.0.live, each.0.given, bucket-items al width height bs each.1)

shelf-items : (frame : Frame) (ss : List BucketShelf) → AllByRecursion (IsShelf frame) ss → total live_items ss ≤ buckets_in_use ss * 4095
shelf-items frame [] each = omega arith
shelf-items frame (s ∷ ss) each = omega (arith, bucket-items (alignment_along frame) s.bucket_width s.height s.buckets each.0.buckets, shelf-items frame ss each.1)

pub items-few : (state : BucketedState) (stored : Stored) (unused : List ℕ) → IsValid state → Spells state.frame stored unused state.shelves → kept_items stored.shelves ≤ 16769025
items-few state stored unused valid spells =
    omega (arith, ap kept_items spells.shelves ∙ items-kept state.frame [] state.shelves, shelf-items state.frame state.shelves valid.shelves.each, valid.shelves.few)
