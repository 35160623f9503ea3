-- The tests of the buckets of a shelf decide its rules, and what is added up over them is what the shelf has.
use Rattle.std.proofs.Common.{◌≡◌, ℕ, ◌+◌, ◌-◌, ◌*◌, ◌%◌, ◌<◌, ◌≤◌, Bool, true, false, ◌&&◌, ◌||◌, not, cond, Option, None, Some, List, [], ◌∷◌, length, map, max, refl, ap, arith, sym, ◌∙◌, subst, ⊎_elim, ◌==◌}
use Rattle.std.proofs.lemmas.Bool.{eqb-true}
use Rattle.std.proofs.lemmas.Option.{slice_get_cases}
use Rattle.std.specs.List.{AllByRecursion, list_all}
use Rattle.std.specs.Option.{option_map_or}
use Rattle.std.specs.Prelude.{Decides, IfSome, nat_le, nat_lt, option_and_then, slice_get}
use Rattle.etagere_base.proofs.DecidingLemmas.{decides-both, decides-map, decides-no, decides-yes, denied, granted}
use Rattle.etagere_base.specs.declared.frames.Frame.{Frame}
use Rattle.etagere_base.specs.Frames.{alignment_along}
use Rattle.bucketed_model.specs.Space.{used_width}
use Rattle.bucketed_model.specs.State.{most_given}
use Rattle.bucketed_records.specs.declared.records.LinkedBucket.{LinkedBucket}
use Rattle.bucketed_records.specs.declared.records.LinkedBucketShelf.{LinkedBucketShelf}
use Rattle.bucketed_records.specs.BucketRecords.{bucket_at, spelled_bucket}
use Rattle.bucketed_records.specs.Private.Store.{record_room, live_items, room_of, widest_room}
use Rattle.bucketed_records.specs.StandsFor.{AreBuckets, IsFilled, StandDown, free_of, live_of, place_of, shelf_of}
use Rattle.bucketed_restoring.specs.Private.Judging.{begins_at, begins_by, has_buckets, is_filled, is_filled_at, is_owned, is_unused, live_by, stand_at, stand_together, used_by, widest_by}
use Rattle.bucketed_restoring.proofs.Judged.Comparisons.{decides-eq, decides-le}

-- a record that is there
pub record IsThere (buckets : List LinkedBucket) (n : ℕ) : Type 0 where
  pub bucket : LinkedBucket
  pub here : slice_get buckets n ≡ Some bucket

pub there : (buckets : List LinkedBucket) (n : ℕ) → n < length buckets → IsThere buckets n
there buckets n within =
    ⊎_elim (λ found. record { bucket = found.0; here = found.2 }) (λ none. absurd (omega (arith, within, none.0))) (slice_get_cases buckets n).1

-- a test of each of some numbers, where a test of the record decides a fact
pub all-decided : (buckets : List LinkedBucket) (test : ℕ → Bool) (P : ℕ → Type 0) (ns : List ℕ) → ((n : ℕ) → n < length buckets → Decides (test n) (P n))
    → AllByRecursion (λ (n : ℕ). n < length buckets) ns → Decides (list_all test ns) (AllByRecursion P ns)
all-decided buckets test P [] one within = decides-yes tt
all-decided buckets test P (n ∷ ns) one within =
    decides-both (test n) (list_all test ns) (P n) (AllByRecursion P ns) (one n within.0) (all-decided buckets test P ns one within.1)

-- the record of a number names a shelf
owned-one : (buckets : List LinkedBucket) (shelf n : ℕ) → n < length buckets → Decides (is_owned buckets shelf n) (shelf_of buckets n ≡ shelf)
owned-one buckets shelf n within =
    let is = there buckets n within in
    subst (λ (o : Option LinkedBucket). Decides (option_map_or (λ (b : LinkedBucket). b.shelf == shelf) o false) (option_map_or (λ (b : LinkedBucket). b.shelf) o 0 ≡ shelf))
    (sym is.here) (decides-eq is.bucket.shelf shelf)

-- those of some numbers do
pub owned-decided : (buckets : List LinkedBucket) (shelf : ℕ) (ns : List ℕ) → AllByRecursion (λ (n : ℕ). n < length buckets) ns
    → Decides (list_all (is_owned buckets shelf) ns) (AllByRecursion (λ (n : ℕ). shelf_of buckets n ≡ shelf) ns)
owned-decided buckets shelf ns within = all-decided buckets (is_owned buckets shelf) (λ (n : ℕ). shelf_of buckets n ≡ shelf) ns (owned-one buckets shelf) within

-- nothing of the record of a number is live
unused-one : (buckets : List LinkedBucket) (n : ℕ) → n < length buckets → Decides (is_unused buckets n) (live_of buckets n ≡ 0)
unused-one buckets n within =
    let is = there buckets n within in
    subst (λ (o : Option LinkedBucket). Decides (option_map_or (λ (b : LinkedBucket). b.refcount == 0) o false) (option_map_or (λ (b : LinkedBucket). b.refcount) o 0 ≡ 0))
    (sym is.here) (decides-eq is.bucket.refcount 0)

pub unused-decided : (buckets : List LinkedBucket) (ns : List ℕ) → AllByRecursion (λ (n : ℕ). n < length buckets) ns
    → Decides (list_all (is_unused buckets) ns) (AllByRecursion (λ (n : ℕ). live_of buckets n ≡ 0) ns)
unused-decided buckets ns within = all-decided buckets (is_unused buckets) (λ (n : ℕ). live_of buckets n ≡ 0) ns (unused-one buckets) within

-- what a bucket has used, by how many items are live
abbrev Uses : ℕ → ℕ → ℕ → ℕ → ℕ → Type 0
Uses alignment height live given used = (live ≡ 0 → (given ≡ 0) × (used ≡ 0)) × (1 ≤ live → (given * alignment ≤ used) × (1 ≤ height))

-- a bucket with nothing live is as new, and another one has used what its items need
uses-decided : (alignment height live given used : ℕ)
    → Decides (cond (live == 0) (given == 0 && used == 0) (nat_le (given * alignment) used && nat_le 1 height))
    ((live ≡ 0 → (given ≡ 0) × (used ≡ 0)) × (1 ≤ live → (given * alignment ≤ used) × (1 ≤ height)))
uses-decided alignment height live given used = by_test (live == 0) refl
  where
    by_test : (t : Bool) → (live == 0) ≡ t → Decides (cond t (given == 0 && used == 0) (nat_le (given * alignment) used && nat_le 1 height)) (Uses alignment height live given used)
    by_test true e =
        let none : live ≡ 0 = eqb-true live 0 e in
        decides-map (given == 0 && used == 0) ((given ≡ 0) × (used ≡ 0)) (Uses alignment height live given used)
        (λ p. (λ _. p, λ some. absurd (omega (arith, none, some)))) (λ uses. uses.0 none)
        (decides-both (given == 0) (used == 0) (given ≡ 0) (used ≡ 0) (decides-eq given 0) (decides-eq used 0))
    by_test false e =
        let some : 1 ≤ live = grind arith in
        decides-map (nat_le (given * alignment) used && nat_le 1 height) ((given * alignment ≤ used) × (1 ≤ height)) (Uses alignment height live given used)
        (λ p. (λ none. absurd (omega (arith, none, some)), λ _. p)) (λ uses. uses.1 some)
        (decides-both (nat_le (given * alignment) used) (nat_le 1 height) (given * alignment ≤ used) (1 ≤ height) (decides-le (given * alignment) used) (decides-le 1 height))

-- what the tests of a bucket record tell
filled-record : (alignment width height : ℕ) (r : LinkedBucket) → Decides (is_filled alignment width height r) (IsFilled alignment width height r)
filled-record alignment width height r =
    let used : ℕ = width - r.free_space in
    let uses : Type 0 = (r.refcount ≡ 0 → (r.item_count ≡ 0) × (used ≡ 0)) × (1 ≤ r.refcount → (r.item_count * alignment ≤ used) × (1 ≤ height)) in
    let counts : Type 0 = (r.refcount ≤ r.item_count) × (r.item_count ≤ most_given) in
    let filled : Type 0 = (r.free_space ≤ width) × ((used % alignment ≡ 0) × (counts × uses)) in
    decides-map (is_filled alignment width height r) filled (IsFilled alignment width height r)
    (λ p. record { free = p.0; aligned = p.1.0; live = p.1.1.0.0; given = p.1.1.0.1; idle = p.1.1.1.0; busy = p.1.1.1.1 })
    (λ q. (q.free, (q.aligned, ((q.live, q.given), (q.idle, q.busy)))))
    (decides-both (nat_le r.free_space width) _ (r.free_space ≤ width) ((used % alignment ≡ 0) × (counts × uses)) (decides-le r.free_space width)
    (decides-both (used % alignment == 0) _ (used % alignment ≡ 0) (counts × uses) (decides-eq (used % alignment) 0)
    (decides-both (nat_le r.refcount r.item_count && nat_le r.item_count most_given) _ counts uses
    (decides-both (nat_le r.refcount r.item_count) (nat_le r.item_count most_given) (r.refcount ≤ r.item_count) (r.item_count ≤ most_given) (decides-le r.refcount r.item_count) (decides-le r.item_count most_given))
    (uses-decided alignment height r.refcount r.item_count used))))

module _ (buckets : List LinkedBucket) where
  filled-one : (alignment width height n : ℕ) → n < length buckets
      → Decides (is_filled_at alignment width height buckets n) (IfSome (slice_get buckets n) (IsFilled alignment width height))
  filled-one alignment width height n within =
      let is = there buckets n within in
      subst (λ (o : Option LinkedBucket). Decides (option_map_or (is_filled alignment width height) o false) (IfSome o (IsFilled alignment width height)))
      (sym is.here) (filled-record alignment width height is.bucket)

  -- the last bucket stands at the begin
  begins-decided : (width begin end n : ℕ) → n < length buckets
      → Decides (begins_by width begin end buckets n) ((place_of buckets n ≡ begin) × (place_of buckets n + width ≤ end))
  begins-decided width begin end n within =
      let is = there buckets n within in
      let r = is.bucket in
      subst
      (λ (o : Option LinkedBucket). Decides (option_map_or (begins_at width begin end) o false)
      ((option_map_or (λ (b : LinkedBucket). b.x) o 0 ≡ begin) × (option_map_or (λ (b : LinkedBucket). b.x) o 0 + width ≤ end)))
      (sym is.here)
      (decides-both (r.x == begin) (nat_le (r.x + width) end) (r.x ≡ begin) (r.x + width ≤ end) (decides-eq r.x begin) (decides-le (r.x + width) end))

  -- each other one stands before the one tried before it
  pub stand-decided : (alignment width begin end : ℕ) (ns : List ℕ) → AllByRecursion (λ (n : ℕ). n < length buckets) ns
      → Decides (stand_together alignment width buckets begin end ns) (StandDown alignment width begin end (map (place_of buckets) ns))
  stand-decided alignment width begin end [] within = decides-no (λ none. none)
  stand-decided alignment width begin end (n ∷ []) within = begins-decided width begin end n within.0
  stand-decided alignment width begin end (n ∷ m ∷ ms) within =
      let is = there buckets n within.0 in
      let r = is.bucket in
      let Rest : ℕ → Type 0 = λ place. StandDown alignment width begin place (map (place_of buckets) (m ∷ ms)) in
      subst
      (λ (o : Option LinkedBucket). Decides (option_map_or (λ (place : ℕ). stand_together alignment width buckets begin place (m ∷ ms)) (option_and_then (stand_at alignment width end) o) false)
      ((option_map_or (λ (b : LinkedBucket). b.x) o 0 % alignment ≡ 0) × (option_map_or (λ (b : LinkedBucket). b.x) o 0 + width ≤ end) × Rest (option_map_or (λ (b : LinkedBucket). b.x) o 0)))
      (sym is.here)
      (by_test r.x (r.x % alignment == 0 && nat_le (r.x + width) end) refl
      (decides-both (r.x % alignment == 0) (nat_le (r.x + width) end) (r.x % alignment ≡ 0) (r.x + width ≤ end) (decides-eq (r.x % alignment) 0) (decides-le (r.x + width) end))
      (stand-decided alignment width begin r.x (m ∷ ms) within.1))
    where
      by_test : (x : ℕ) (t : Bool) → (x % alignment == 0 && nat_le (x + width) end) ≡ t
          → Decides (x % alignment == 0 && nat_le (x + width) end) ((x % alignment ≡ 0) × (x + width ≤ end))
          → Decides (stand_together alignment width buckets begin x (m ∷ ms)) (StandDown alignment width begin x (map (place_of buckets) (m ∷ ms)))
          → Decides (option_map_or (λ (place : ℕ). stand_together alignment width buckets begin place (m ∷ ms)) (cond t (Some x) None) false)
          ((x % alignment ≡ 0) × (x + width ≤ end) × StandDown alignment width begin x (map (place_of buckets) (m ∷ ms)))
      by_test x true e both later =
          let here : (x % alignment ≡ 0) × (x + width ≤ end) = granted (x % alignment == 0 && nat_le (x + width) end) ((x % alignment ≡ 0) × (x + width ≤ end)) both e in
          decides-map (stand_together alignment width buckets begin x (m ∷ ms)) (StandDown alignment width begin x (map (place_of buckets) (m ∷ ms)))
          ((x % alignment ≡ 0) × (x + width ≤ end) × StandDown alignment width begin x (map (place_of buckets) (m ∷ ms)))
          (λ rest. (here.0, here.1, rest)) (λ all. all.2) later
      by_test x false e both later =
          decides-no (λ all. denied (x % alignment == 0 && nat_le (x + width) end) ((x % alignment ≡ 0) × (x + width ≤ end)) both e (all.0, all.1))

  -- with one column buckets are wide
  wide-decided : (columns width : ℕ) → Decides (not (columns == 1) || nat_le 1 width) (columns ≡ 1 → 1 ≤ width)
  wide-decided columns width = by_test (columns == 1) refl
    where
      by_test : (t : Bool) → (columns == 1) ≡ t → Decides (not t || nat_le 1 width) (columns ≡ 1 → 1 ≤ width)
      by_test true e =
          decides-map (nat_le 1 width) (1 ≤ width) (columns ≡ 1 → 1 ≤ width) (λ p _. p) (λ wide. wide (eqb-true columns 1 e)) (decides-le 1 width)
      by_test false e = decides-yes (λ same. let here : (columns == 1) ≡ true = rw same refl in absurd (cc))

  -- the tests decide whether these are the buckets of a shelf
  pub buckets-decided : (frame : Frame) (shelf : LinkedBucketShelf) (ns : List ℕ) → AllByRecursion (λ (n : ℕ). n < length buckets) ns
      → Decides (has_buckets frame buckets shelf ns) (AreBuckets frame buckets shelf ns)
  buckets-decided frame shelf ns within =
      let al : ℕ = alignment_along frame in
      let width : ℕ = shelf.bucket_width in
      let end : ℕ = shelf.x + frame.column_width in
      let Filled : ℕ → Type 0 = λ n. IfSome (slice_get buckets n) (IsFilled al width shelf.height) in
      let P : Type 0 = (width % al ≡ 0) × (frame.columns ≡ 1 → 1 ≤ width) in
      let R : Type 0 = StandDown al width shelf.x end (map (place_of buckets) ns) in
      decides-map (has_buckets frame buckets shelf ns) (P × (AllByRecursion Filled ns × R)) (AreBuckets frame buckets shelf ns)
      (λ p. record { aligned = p.0.0; width = p.0.1; filled = p.1.0; stand = p.1.1 })
      (λ q. ((q.aligned, q.width), (q.filled, q.stand)))
      (decides-both _ _ P (AllByRecursion Filled ns × R)
      (decides-both (width % al == 0) _ (width % al ≡ 0) (frame.columns ≡ 1 → 1 ≤ width) (decides-eq (width % al) 0) (wide-decided frame.columns width))
      (decides-both _ _ (AllByRecursion Filled ns) R
      (all-decided buckets (is_filled_at al width shelf.height buckets) Filled ns (filled-one al width shelf.height) within)
      (stand-decided al width shelf.x end ns within)))

-- what records have used is what their buckets have used
pub used-spelled : (buckets : List LinkedBucket) (width : ℕ) (ns : List ℕ) → used_by width buckets ns ≡ used_width (map (bucket_at buckets width) ns)
used-spelled buckets width [] = refl
used-spelled buckets width (n ∷ ns) = omega (arith, one (slice_get buckets n), used-spelled buckets width ns)
  where
    one : (o : Option LinkedBucket) → option_map_or (λ (b : LinkedBucket). width - b.free_space) o 0
        ≡ (option_map_or (spelled_bucket width n) o (record { place = 0; used = 0; live = 0; given = 0; tag = record { number = n; generation = 0 } })).used
    one None = refl
    one (Some r) = refl

-- so many are live
pub live-spelled : (buckets : List LinkedBucket) (width : ℕ) (ns : List ℕ) → live_by buckets ns ≡ live_items (map (bucket_at buckets width) ns)
live-spelled buckets width [] = refl
live-spelled buckets width (n ∷ ns) = omega (arith, one (slice_get buckets n), live-spelled buckets width ns)
  where
    one : (o : Option LinkedBucket) → option_map_or (λ (b : LinkedBucket). b.refcount) o 0
        ≡ (option_map_or (spelled_bucket width n) o (record { place = 0; used = 0; live = 0; given = 0; tag = record { number = n; generation = 0 } })).live
    one None = refl
    one (Some r) = refl

-- and so much one of them can give
pub widest-spelled : (buckets : List LinkedBucket) (width : ℕ) (ns : List ℕ) → AllByRecursion (λ (n : ℕ). n < length buckets) ns → AllByRecursion (λ (n : ℕ). free_of buckets n ≤ width) ns
    → widest_by buckets ns ≡ widest_room width (map (bucket_at buckets width) ns)
widest-spelled buckets width [] within frees = refl
widest-spelled buckets width (n ∷ ns) within frees =
    let is = there buckets n within.0 in
    ap (λ (m : ℕ). max m (widest_by buckets ns))
    (subst
    (λ (o : Option LinkedBucket). option_map_or (λ (b : LinkedBucket). b.free_space) o 0 ≤ width → option_map_or record_room o 0
    ≡ room_of width (option_map_or (spelled_bucket width n) o (record { place = 0; used = 0; live = 0; given = 0; tag = record { number = n; generation = 0 } })))
    (sym is.here) (λ fits. same is.bucket.item_count is.bucket.free_space fits) frees.0)
    ∙ ap (λ (m : ℕ). max (room_of width (bucket_at buckets width n)) m) (widest-spelled buckets width ns within.1 frees.1)
  where
    same : (given free : ℕ) → free ≤ width → cond (nat_lt given most_given) free 0 ≡ cond (nat_lt given most_given) (width - (width - free)) 0
    same given free fits = ap (λ (f : ℕ). cond (nat_lt given most_given) f 0) (omega (arith, fits))
