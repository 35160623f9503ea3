-- The place that is found among records is the one of the shelves that they spell.
use Rattle.std.proofs.Common.{◌≡◌, ℕ, zero, suc, ◌+◌, ◌-◌, ◌≤◌, Bool, true, false, cond, Option, None, Some, List, [], ◌∷◌, ◌++◌, length, map, take, drop, refl, ap, arith, sym, ◌∙◌, subst, append_assoc, append-nil}
use Rattle.std.proofs.lemmas.Bool.{and_parts}
use Rattle.std.proofs.lemmas.Bool.Decides.{nat_tests}
use Rattle.std.proofs.lemmas.Option.{slice_get-map}
use Rattle.std.specs.Option.{option_map_or}
use Rattle.std.specs.Prelude.{find, is_some, nat_le, not, option_and_then, option_map, slice_get, unwrap_or, ◌&&◌, ◌==◌}
use Rattle.etagere_base.proofs.Least.{first_least-is}
use Rattle.etagere_base.specs.declared.frames.Frame.{Frame}
use Rattle.etagere_base.specs.declared.sides.Sides.{Sides}
use Rattle.etagere_base.specs.Least.{first_least, Found}
use Rattle.bucketed_model.specs.Picking.{Spot, exact_bucket, exact_or, first_spot, has_room, is_eligible, is_exact, or_else, pick, roomy_bucket, spot_in, waste}
use Rattle.bucketed_model.specs.State.{Bucket, BucketShelf, buckets_in_use, most_buckets}
use Rattle.bucketed_model.proofs.Validity.Spots.{find-found}
use Rattle.bucketed_records.specs.declared.records.LinkedBucket.{LinkedBucket}
use Rattle.bucketed_records.specs.Private.Store.{AreBucketsSpelled, AreShelvesSpelled, kept_shelf, kept_shelves, widest_room}
use Rattle.bucketed_records.specs.declared.records.KeptShelf.{KeptShelf}
use Rattle.bucketed_records.specs.StandsFor.{free_of}
use Rattle.bucket_index.specs.declared.searching.Wanted.TheVariants.{Roomy, Exact}
use Rattle.bucket_index.specs.declared.searching.FoundBucket.{FoundBucket}
use Rattle.bucket_index.specs.Private.Searching.{exact_from, exact_in, exact_or_found, first_wanted, found_in, kept_waste, picked}
use Rattle.bucketed_store.proofs.Spelling.FoundFirst.{exact-roomy, first-found, number_of, spelled-back, widest-roomy}

-- a bucket that was found, by the numbers of its shelf and its own
abbrev pub found_at : ℕ → ℕ → FoundBucket
found_at shelf bucket = record { shelf = shelf; bucket = bucket }

-- a spot of these
abbrev pub spot_at : ℕ → BucketShelf → Bucket → Spot
spot_at number shelf bucket = record { number = number; shelf = shelf; bucket = bucket }

-- a spot by the numbers of its shelf and of its bucket
abbrev pub found_seen : Spot → FoundBucket
found_seen spot = record { shelf = spot.number; bucket = spot.bucket.tag.number }

-- each shelf has few enough buckets
abbrev pub AreFew : List BucketShelf → Type 0
AreFew ss = buckets_in_use ss ≤ most_buckets

-- the shelf that is kept under a number
pub kept-at : (frame : Frame) (before ss : List BucketShelf) (n : ℕ)
    → slice_get (kept_shelves frame before ss) n ≡ option_map (kept_shelf frame (before ++ take n ss)) (slice_get ss n)
kept-at frame before [] n = refl
kept-at frame before (s ∷ ss) zero = ap (λ (bs : List BucketShelf). Some (kept_shelf frame bs s)) (sym (append-nil before))
kept-at frame before (s ∷ ss) (suc n) =
    kept-at frame (before ++ s ∷ []) ss n
    ∙ ap (λ (bs : List BucketShelf). option_map (kept_shelf frame bs) (slice_get ss n)) (append_assoc before (s ∷ []) (take n ss))

-- what is kept of the shelves behind some
pub kept-drop : (frame : Frame) (before ss : List BucketShelf) (n : ℕ)
    → drop n (kept_shelves frame before ss) ≡ kept_shelves frame (before ++ take n ss) (drop n ss)
kept-drop frame before ss zero = ap (λ (bs : List BucketShelf). kept_shelves frame bs ss) (sym (append-nil before))
kept-drop frame before [] (suc n) = refl
kept-drop frame before (s ∷ ss) (suc n) =
    kept-drop frame (before ++ s ∷ []) ss n
    ∙ ap (λ (bs : List BucketShelf). kept_shelves frame bs (drop n ss)) (append_assoc before (s ∷ []) (take n ss))

-- the records of the buckets of a shelf
pub spelled-at : (records : List LinkedBucket) (number : ℕ) (ss : List BucketShelf) (n : ℕ) (s : BucketShelf) → AreShelvesSpelled records number ss
    → slice_get ss n ≡ Some s → AreBucketsSpelled records (number + n) s.bucket_width s.buckets
spelled-at records number [] n s h at = absurd (cc)
spelled-at records number (x ∷ ss) zero s h at =
    let same : x ≡ s = cc in
    let here : number + 0 ≡ number = omega arith in
    subst (λ (y : BucketShelf). AreBucketsSpelled records (number + 0) y.bucket_width y.buckets) same (rw here h.0)
spelled-at records number (x ∷ ss) (suc n) s h at =
    let later : number + suc n ≡ suc number + n = omega arith in
    rw later (spelled-at records (suc number) ss n s h.1 at)

-- the records of the shelves behind some
pub spelled-drop : (records : List LinkedBucket) (number n : ℕ) (ss : List BucketShelf) → AreShelvesSpelled records number ss → AreShelvesSpelled records (number + n) (drop n ss)
spelled-drop records number zero ss h = let here : number + 0 ≡ number = omega arith in rw here h
spelled-drop records number (suc n) [] h = tt
spelled-drop records number (suc n) (s ∷ ss) h = let later : number + suc n ≡ suc number + n = omega arith in rw later (spelled-drop records (suc number) n ss h.1)

-- a shelf has no more buckets than all
pub few-at : (ss : List BucketShelf) (n : ℕ) (s : BucketShelf) → slice_get ss n ≡ Some s → length s.buckets ≤ buckets_in_use ss
few-at [] n s at = absurd (cc)
few-at (x ∷ ss) zero s at = let same : x ≡ s = cc in subst (λ (y : BucketShelf). length y.buckets ≤ buckets_in_use (x ∷ ss)) same (omega arith)
few-at (x ∷ ss) (suc n) s at = omega (arith, few-at ss n s at)

-- shelves behind some have no more
few-drop : (n : ℕ) (ss : List BucketShelf) → buckets_in_use (drop n ss) ≤ buckets_in_use ss
few-drop zero ss = omega arith
few-drop (suc n) [] = omega arith
few-drop (suc n) (s ∷ ss) = omega (arith, few-drop n ss)

-- a kept shelf wastes what the shelf does
waste-kept : (adds : Bool) (sides : Sides) (frame : Frame) (before : List BucketShelf) (s : BucketShelf) → 1 ≤ sides.along
    → kept_waste adds sides (kept_shelf frame before s) ≡ waste adds sides s
waste-kept adds sides frame before s some = by_test (is_eligible adds sides s) (nat_le sides.along (widest_room s.bucket_width s.buckets)) (roomy_bucket sides.along s) (widest-roomy sides.along s s.buckets some)
  where
    by_test : (eligible room : Bool) (found : Option Bucket) → room ≡ is_some found
        → cond (eligible && room) (Some (s.height - sides.across)) None ≡ cond eligible (option_map (λ (_ : Bucket). s.height - sides.across) found) None
    by_test true room None e = rw e refl
    by_test true room (Some b) e = rw e refl
    by_test false room found e = refl

-- kept shelves waste what the shelves do
wastes-kept : (adds : Bool) (sides : Sides) (frame : Frame) (before ss : List BucketShelf) → 1 ≤ sides.along
    → map (kept_waste adds sides) (kept_shelves frame before ss) ≡ map (waste adds sides) ss
wastes-kept adds sides frame before [] some = refl
wastes-kept adds sides frame before (s ∷ ss) some =
    ap (λ (w : Option ℕ). w ∷ map (kept_waste adds sides) (kept_shelves frame (before ++ s ∷ []) ss)) (waste-kept adds sides frame before s some)
    ∙ ap (λ (ws : List (Option ℕ)). waste adds sides s ∷ ws) (wastes-kept adds sides frame (before ++ s ∷ []) ss some)

-- the exact bucket of a kept shelf is that of the shelf
exact-kept : (sides : Sides) (records : List LinkedBucket) (number : ℕ) (frame : Frame) (before : List BucketShelf) (s : BucketShelf) → 1 ≤ sides.along
    → length s.buckets ≤ most_buckets → AreBucketsSpelled records number s.bucket_width s.buckets
    → exact_in sides records number (kept_shelf frame before s)
    ≡ option_map (λ (b : Bucket). found_seen (spot_at number s b)) (exact_bucket sides s)
exact-kept sides records number frame before s some few h =
    by_test (s.height == sides.across) (nat_le sides.along (widest_room s.bucket_width s.buckets)) refl
    (first-found (Exact sides.along) (is_exact sides.along s) records number s.bucket_width (λ next b. refl) most_buckets s.buckets few h)
  where
    same : (found : Option Bucket) → option_map (found_at number) (option_map number_of found) ≡ option_map (λ (b : Bucket). found_seen (spot_at number s b)) found
    same None = refl
    same (Some b) = refl

    none : (found : Option Bucket) → is_some found ≡ false → found ≡ None
    none None e = refl
    none (Some b) e = absurd (cc)

    by_test : (level room : Bool) → nat_le sides.along (widest_room s.bucket_width s.buckets) ≡ room
        → first_wanted (Exact sides.along) records (kept_shelf frame before s) ≡ option_map number_of (find (is_exact sides.along s) s.buckets)
        → cond (level && room) (found_in (Exact sides.along) records number (kept_shelf frame before s)) None
        ≡ option_map (λ (b : Bucket). found_seen (spot_at number s b)) (cond level (find (is_exact sides.along s) s.buckets) None)
    by_test false room e found = refl
    by_test true true e found =
        ap (option_map (found_at number)) found ∙ same (find (is_exact sides.along s) s.buckets)
    by_test true false e found =
        let unroomy : find (has_room sides.along s) s.buckets ≡ None = none (find (has_room sides.along s) s.buckets) (sym (widest-roomy sides.along s s.buckets some) ∙ e) in
        rw (exact-roomy sides.along s s.buckets unroomy) refl

-- of kept shelves the first exact bucket is that of the shelves
exact-from : (sides : Sides) (records : List LinkedBucket) (number : ℕ) (frame : Frame) (before ss : List BucketShelf) → 1 ≤ sides.along
    → AreFew ss → AreShelvesSpelled records number ss
    → exact_from sides records number (kept_shelves frame before ss) ≡ option_map found_seen (first_spot (exact_bucket sides) number ss)
exact-from sides records number frame before [] some few h = refl
exact-from sides records number frame before (s ∷ ss) some few h =
    ap (λ (f : Option FoundBucket). or_else f (exact_from sides records (suc number) (kept_shelves frame (before ++ s ∷ []) ss))) (exact-kept sides records number frame before s some (omega (arith, few)) h.0)
    ∙ ap (λ (f : Option FoundBucket). or_else (option_map (λ (b : Bucket). found_seen (spot_at number s b)) (exact_bucket sides s)) f)
    (exact-from sides records (suc number) frame (before ++ s ∷ []) ss some (omega (arith, few)) h.1)
    ∙ either (exact_bucket sides s) (first_spot (exact_bucket sides) (suc number) ss)
  where
    either : (here : Option Bucket) (later : Option Spot)
        → or_else (option_map (λ (b : Bucket). found_seen (spot_at number s b)) here) (option_map found_seen later)
        ≡ option_map found_seen (or_else (option_map (spot_at number s) here) later)
    either None later = refl
    either (Some b) later = refl

-- the width that the record of a bucket has left
free-read : (records : List LinkedBucket) (number width item : ℕ) (s : BucketShelf) (bs : List Bucket) (b : Bucket) → find (has_room item s) bs ≡ Some b
    → AreBucketsSpelled records number width bs → free_of records b.tag.number ≡ width - b.used
free-read records number width item s bs b found h =
    let stands = find-found (has_room item s) bs b found in
    let here = spelled-back records number width stands.front (b ∷ stands.back) (subst (AreBucketsSpelled records number width) stands.whole h) in
    ap (λ (r : Option LinkedBucket). option_map_or (λ (bucket : LinkedBucket). bucket.free_space) r 0) here.0

-- what is picked among kept shelves where one wastes least
abbrev picked_in : Sides → List KeptShelf → List LinkedBucket → Found → Option FoundBucket
picked_in sides kept records least =
    option_and_then
    (λ (one : KeptShelf). option_map (exact_or_found sides kept records least) (first_wanted (Roomy sides.along) records one))
    (slice_get kept least.number)

-- what is picked among records is what is picked among the shelves that they spell
pub picked-is : (adds : Bool) (sides : Sides) (records : List LinkedBucket) (frame : Frame) (ss : List BucketShelf) → 1 ≤ sides.along → AreFew ss → AreShelvesSpelled records 0 ss
    → picked adds sides (kept_shelves frame [] ss) records ≡ option_map found_seen (pick adds sides ss)
picked-is adds sides records frame ss some few h =
    ap (λ (ws : List (Option ℕ)). option_and_then (picked_in sides (kept_shelves frame [] ss) records) (first_least ws)) (wastes-kept adds sides frame [] ss some)
    ∙ by_least (first_least (map (waste adds sides) ss)) refl
  where
    exactly : (least : Found) (s : BucketShelf) (b : Bucket) → waste adds sides s ≡ Some least.rank → free_of records b.tag.number ≡ s.bucket_width - b.used
        → exact_or_found sides (kept_shelves frame [] ss) records least b.tag.number ≡ found_seen (exact_or sides ss (spot_at least.number s b))
    exactly least s b wasted free =
        let later : exact_from sides records (suc least.number) (drop (suc least.number) (kept_shelves frame [] ss)) ≡ option_map found_seen (first_spot (exact_bucket sides) (suc least.number) (drop (suc least.number) ss))
        = ap (exact_from sides records (suc least.number)) (kept-drop frame [] ss (suc least.number))
        ∙ exact-from sides records (suc least.number) frame (take (suc least.number) ss) (drop (suc least.number) ss) some
        (omega (arith, few, few-drop (suc least.number) ss))
        (subst (λ (n : ℕ). AreShelvesSpelled records n (drop (suc least.number) ss)) (omega arith) (spelled-drop records 0 (suc least.number) ss h)) in
        let level : (least.rank == 0) ≡ (s.height == sides.across) = wasted-level (is_eligible adds sides s) refl wasted in
        ap (λ (f : ℕ). cond ((least.rank == 0) && not (f == sides.along)) (unwrap_or (exact_from sides records (suc least.number) (drop (suc least.number) (kept_shelves frame [] ss))) (found_at least.number b.tag.number)) (found_at least.number b.tag.number)) free
        ∙ ap (λ (t : Bool). cond (t && not (s.bucket_width - b.used == sides.along)) (unwrap_or (exact_from sides records (suc least.number) (drop (suc least.number) (kept_shelves frame [] ss))) (found_at least.number b.tag.number)) (found_at least.number b.tag.number)) level
        ∙ ap (λ (f : Option FoundBucket). cond ((s.height == sides.across) && not (s.bucket_width - b.used == sides.along)) (unwrap_or f (found_at least.number b.tag.number)) (found_at least.number b.tag.number)) later
        ∙ by_test ((s.height == sides.across) && not (s.bucket_width - b.used == sides.along)) (first_spot (exact_bucket sides) (suc least.number) (drop (suc least.number) ss))
      where
        wasted-level : (e : Bool) → is_eligible adds sides s ≡ e → cond e (option_map (λ (_ : Bucket). s.height - sides.across) (roomy_bucket sides.along s)) None ≡ Some least.rank
            → (least.rank == 0) ≡ (s.height == sides.across)
        wasted-level false e w = absurd (cc)
        wasted-level true e w =
            let tall = and_parts (nat_le sides.across s.height) _ e in
            let rank : s.height - sides.across ≡ least.rank = ranked (roomy_bucket sides.along s) w in
            grind (arith, nat_tests, tall.0, rank)
          where
            ranked : (o : Option Bucket) → option_map (λ (_ : Bucket). s.height - sides.across) o ≡ Some least.rank → s.height - sides.across ≡ least.rank
            ranked None w = absurd (cc)
            ranked (Some b) w = cc

        by_test : (t : Bool) (later : Option Spot)
            → cond t (unwrap_or (option_map found_seen later) (found_at least.number b.tag.number)) (found_at least.number b.tag.number)
            ≡ found_seen (cond t (unwrap_or later (spot_at least.number s b)) (spot_at least.number s b))
        by_test false later = refl
        by_test true None = refl
        by_test true (Some x) = refl

    by_bucket : (least : Found) (s : BucketShelf) → slice_get ss least.number ≡ Some s → waste adds sides s ≡ Some least.rank → (found : Option Bucket) → roomy_bucket sides.along s ≡ found
        → option_map (exact_or_found sides (kept_shelves frame [] ss) records least) (option_map number_of found)
        ≡ option_map found_seen (option_map (exact_or sides ss) (option_map (spot_at least.number s) found))
    by_bucket least s at wasted None e = refl
    by_bucket least s at wasted (Some b) e =
        ap (λ (f : FoundBucket). Some f) (exactly least s b wasted (free-read records (0 + least.number) s.bucket_width sides.along s s.buckets b e (spelled-at records 0 ss least.number s h at)))

    unwrapped : (o p : Option ℕ) → Some o ≡ Some p → o ≡ p
    unwrapped o p h = cc

    by_shelf : (least : Found) → slice_get (map (waste adds sides) ss) least.number ≡ Some (Some least.rank) → (o : Option BucketShelf) → slice_get ss least.number ≡ o
        → option_and_then
        (λ (kept : KeptShelf). option_map (exact_or_found sides (kept_shelves frame [] ss) records least) (first_wanted (Roomy sides.along) records kept))
        (option_map (kept_shelf frame (take least.number ss)) o)
        ≡ option_map found_seen (option_map (exact_or sides ss)
        (option_and_then (λ (shelf : BucketShelf). option_map (spot_at least.number shelf) (roomy_bucket sides.along shelf)) o))
    by_shelf least at None e = refl
    by_shelf least at (Some s) e =
        let mapped : option_map (waste adds sides) (slice_get ss least.number) ≡ Some (Some least.rank) = sym (slice_get-map (waste adds sides) ss least.number) ∙ at in
        let wasted : waste adds sides s ≡ Some least.rank = unwrapped (waste adds sides s) (Some least.rank) (rw e at mapped) in
        ap (option_map (exact_or_found sides (kept_shelves frame [] ss) records least))
        (first-found (Roomy sides.along) (has_room sides.along s) records (0 + least.number) s.bucket_width (λ next b. refl) most_buckets s.buckets (omega (arith, few, few-at ss least.number s e)) (spelled-at records 0 ss least.number s h e))
        ∙ by_bucket least s e wasted (roomy_bucket sides.along s) refl

    by_least : (o : Option Found) → first_least (map (waste adds sides) ss) ≡ o
        → option_and_then (picked_in sides (kept_shelves frame [] ss) records) o
        ≡ option_map found_seen (option_map (exact_or sides ss) (option_and_then (λ (found : Found). spot_in (roomy_bucket sides.along) found.number ss) o))
    by_least None e = refl
    by_least (Some least) e =
        ap (option_and_then (λ (kept : KeptShelf). option_map (exact_or_found sides (kept_shelves frame [] ss) records least) (first_wanted (Roomy sides.along) records kept))) (kept-at frame [] ss least.number)
        ∙ by_shelf least (first_least-is (map (waste adds sides) ss) least e).at (slice_get ss least.number) refl
