-- The converse of `Stands`: records that keep each rule of a snapshot, and whose links fit their bits, spell a valid state.
use Rattle.std.proofs.Common.{◌≡◌, ℕ, suc, ◌-◌, ◌/◌, ◌%◌, ◌<◌, ◌≤◌, Option, None, Some, List, [], ◌∷◌, ◌++◌, length, map, length-append, refl, ap, arith, sym, ◌∙◌, subst, ⊎_elim}
use Rattle.std.proofs.lemmas.Nat.{div-add-mod'}
use Rattle.std.proofs.lemmas.Option.{slice_get_cases}
use Rattle.std.specs.Option.{option_map_or}
use Rattle.std.specs.Prelude.{◌+◌, IfSome, option_and_then, slice_get, nat_lt, if◌then◌else◌}
use Rattle.std.specs.List.{AllByRecursion}
use Rattle.etagere_base.proofs.EachLemmas.{Each-back, Each-front}
use Rattle.etagere_base.proofs.TimesLemmas.{times-append}
use Rattle.etagere_base.specs.declared.faults.RestoreFault.TheVariants as faults
use Rattle.etagere_base.specs.declared.frames.Frame.{Frame}
use Rattle.etagere_base.specs.Frames.{alignment_along}
use Rattle.etagere_base.specs.Lists.{times}
use Rattle.etagere_links.proofs.WalkedLists.{IsPart, part-of, walk_by-leads}
use Rattle.etagere_links.proofs.ListEnds.{times-here}
use Rattle.etagere_links.proofs.Tallies.{length-each}
use Rattle.etagere_links.specs.Chains.{IsList}
use Rattle.etagere_links.specs.Links.{no_link}
use Rattle.etagere_links.specs.Lists.{HasEachOnce}
use Rattle.bucketed_model.specs.Frames.{IsBucketedFrame}
use Rattle.bucketed_model.specs.State.{Bucket, BucketShelf, BucketedState, bucket_numbers, column_place, generations, most_buckets}
use Rattle.bucketed_model.specs.Valid.{IsBucket, IsShelf, IsValid, StandBetween}
use Rattle.bucketed_model.proofs.Shelving.Shares.{aligned-times}
use Rattle.bucketed_model.proofs.Shelving.Shelves.{numbers_of, in-use-length}
use Rattle.bucketed_records.specs.declared.records.LinkedBucket.{LinkedBucket}
use Rattle.bucketed_records.specs.declared.records.LinkedBucketShelf.{LinkedBucketShelf}
use Rattle.bucketed_records.specs.BucketRecords.{BucketRecords, bucket_at, bucket_walk, next_of, spelled_bucket, spelled_shelf, spelled_state, state_of}
use Rattle.bucketed_records.specs.Private.Restored.{LinkFits, LinksFit, stored_from}
use Rattle.bucketed_records.specs.Private.Store.{AreBucketsSpelled, AreShelvesSpelled, HasUnused, first_link, record_of}
use Rattle.bucketed_records.specs.Private.Witnessed.{Witnessed}
use Rattle.bucketed_records.specs.StandsFor.{AreBuckets, AreLinked, HasBuckets, HasGenerations, IsFilled, StandDown, StandsFor, free_of, generation_of, place_of, shelf_of, walked_numbers, HasCounts, HasLinks, HasShelves, IsShared}
use Rattle.bucketed_records.proofs.Spelling.UsedAreas.{frees-filled}

-- the bucket of a number has that number
bucket_at-number : (buckets : List LinkedBucket) (width n : ℕ) → (bucket_at buckets width n).tag.number ≡ n
bucket_at-number buckets width n = by_record (slice_get buckets n)
  where
    by_record : (r : Option LinkedBucket) → (option_map_or (spelled_bucket width n) r
        (record { place = 0; used = 0; live = 0; given = 0; tag = record { number = n; generation = 0 } })).tag.number ≡ n
    by_record None = refl
    by_record (Some r) = refl

-- the buckets of numbers have these numbers
numbers-spelled : (buckets : List LinkedBucket) (width : ℕ) (ns : List ℕ) → numbers_of (map (bucket_at buckets width) ns) ≡ ns
numbers-spelled buckets width [] = refl
numbers-spelled buckets width (n ∷ ns) =
    ap (λ (m : ℕ). m ∷ numbers_of (map (bucket_at buckets width) ns)) (bucket_at-number buckets width n)
    ∙ ap (λ (ms : List ℕ). n ∷ ms) (numbers-spelled buckets width ns)

-- so do those of shelves
pub all-numbers : (frame : Frame) (buckets : List LinkedBucket) (shelves : List LinkedBucketShelf)
    → bucket_numbers (map (spelled_shelf frame buckets) shelves) ≡ walked_numbers buckets shelves
all-numbers frame buckets [] = refl
all-numbers frame buckets (shelf ∷ shelves) =
    ap (λ (ns : List ℕ). ns ++ bucket_numbers (map (spelled_shelf frame buckets) shelves))
    (numbers-spelled buckets shelf.bucket_width (bucket_walk buckets shelf.first_bucket).met)
    ∙ ap (λ (ns : List ℕ). (bucket_walk buckets shelf.first_bucket).met ++ ns) (all-numbers frame buckets shelves)

-- the first bucket that links spell
pub first-spelled : (buckets : List LinkedBucket) (width : ℕ) (link : Option ℕ) (ns : List ℕ) → IsList (next_of buckets) link ns
    → first_link (map (bucket_at buckets width) ns) ≡ link
first-spelled buckets width link [] list = sym list
first-spelled buckets width link (n ∷ ns) list = ap (λ (m : ℕ). Some m) (bucket_at-number buckets width n) ∙ sym list.0

-- a record is that of the bucket that it spells
record-kept : (buckets : List LinkedBucket) (number width n : ℕ) (next : Option ℕ) → n < length buckets → shelf_of buckets n ≡ number → free_of buckets n ≤ width
    → next_of buckets n ≡ next → slice_get buckets n ≡ Some (record_of number width next (bucket_at buckets width n))
record-kept buckets number width n next within owner fits link =
    ⊎_elim (λ found. by_record found.0 found.2 (slice_get_cases buckets n).0) (λ none. absurd (omega (arith, within, none.0))) (slice_get_cases buckets n).1
  where
    by_record : (r : LinkedBucket) → slice_get buckets n ≡ Some r → slice_get buckets n ≡ slice_get buckets n
        → slice_get buckets n ≡ Some (record_of number width next (bucket_at buckets width n))
    by_record r here _ =
        let owns : r.shelf ≡ number = sym (ap (λ (o : Option LinkedBucket). option_map_or (λ (b : LinkedBucket). b.shelf) o 0) here) ∙ owner in
        let left : free_of buckets n ≡ r.free_space = ap (λ (o : Option LinkedBucket). option_map_or (λ (b : LinkedBucket). b.free_space) o 0) here in
        let leads : r.next ≡ next = sym (ap (λ (o : Option LinkedBucket). option_and_then (λ (b : LinkedBucket). b.next) o) here) ∙ link in
        let free : r.free_space ≡ width - (width - r.free_space) = omega (arith, left, fits) in
        let spelled : bucket_at buckets width n ≡ spelled_bucket width n r =
        ap (λ (o : Option LinkedBucket). option_map_or (spelled_bucket width n) o
        (record { place = 0; used = 0; live = 0; given = 0; tag = record { number = n; generation = 0 } })) here in
        here
        ∙ ap (λ (f : ℕ). Some (record r { free_space = f })) free
        ∙ ap (λ (l : Option ℕ). Some (record r { free_space = width - (width - r.free_space); next = l })) leads
        ∙ ap (λ (s : ℕ). Some (record r { free_space = width - (width - r.free_space); next = next; shelf = s })) owns
        ∙ ap (λ (b : Bucket). Some (record_of number width next b)) (sym spelled)

-- records spell the buckets that links lead to
buckets-spelled : (buckets : List LinkedBucket) (number width : ℕ) (link : Option ℕ) (ns : List ℕ) → AllByRecursion (λ (n : ℕ). n < length buckets) ns
    → AllByRecursion (λ (n : ℕ). shelf_of buckets n ≡ number) ns → AllByRecursion (λ (n : ℕ). free_of buckets n ≤ width) ns → IsList (next_of buckets) link ns
    → AreBucketsSpelled buckets number width (map (bucket_at buckets width) ns)
buckets-spelled buckets number width link [] within owners frees list = tt
buckets-spelled buckets number width link (n ∷ ns) within owners frees list =
    let next : next_of buckets n ≡ first_link (map (bucket_at buckets width) ns) = sym (first-spelled buckets width (next_of buckets n) ns list.1) in (
      ap (slice_get buckets) (bucket_at-number buckets width n)
          ∙ record-kept buckets number width n (first_link (map (bucket_at buckets width) ns)) within.0 owners.0 frees.0 next,
      buckets-spelled buckets number width (next_of buckets n) ns within.1 owners.1 frees.1 list.1,
    )

-- each number of a part is below the count
pub each-within : (count : ℕ) (ns : List ℕ) → ((k : ℕ) → 1 ≤ times k ns → k < count) → AllByRecursion (λ (n : ℕ). n < count) ns
each-within count [] within = tt
each-within count (n ∷ ns) within =
    (within n (omega (arith, times-here n ns)), each-within count ns (λ k stands. within k (omega (arith, stands))))

-- records spell the buckets of the shelves that they spell
shelves-spelled : (atlas : BucketRecords) (number : ℕ) (shelves : List LinkedBucketShelf) → length atlas.buckets ≤ no_link
    → ((k : ℕ) → LinkFits (next_of atlas.buckets k)) → AllByRecursion (λ (shelf : LinkedBucketShelf). LinkFits shelf.first_bucket) shelves
    → AreLinked atlas.buckets number shelves → AllByRecursion (HasBuckets atlas) shelves
    → AllByRecursion (λ (shelf : LinkedBucketShelf). (bucket_walk atlas.buckets shelf.first_bucket).end ≡ no_link) shelves
    → AllByRecursion (λ (n : ℕ). n < length atlas.buckets) (walked_numbers atlas.buckets shelves)
    → AreShelvesSpelled atlas.buckets number (map (spelled_shelf atlas.frame atlas.buckets) shelves)
shelves-spelled atlas number [] few fit firsts linked has ends within = tt
shelves-spelled atlas number (shelf ∷ shelves) few fit firsts linked has ends within =
    let walked = bucket_walk atlas.buckets shelf.first_bucket in (
      buckets-spelled atlas.buckets number shelf.bucket_width shelf.first_bucket walked.met
          (Each-front (λ (n : ℕ). n < length atlas.buckets) walked.met (walked_numbers atlas.buckets shelves) within)
          linked.1 (frees-filled atlas.buckets (alignment_along atlas.frame) shelf.bucket_width shelf.height walked.met has.0.filled)
          (walk_by-leads (λ (bucket : LinkedBucket). bucket.next) atlas.buckets shelf.first_bucket (λ k stands. fit k) firsts.0 few ends.0),
      shelves-spelled atlas (suc number) shelves few fit firsts.1 linked.2 has.1 ends.1
          (Each-back (λ (n : ℕ). n < length atlas.buckets) walked.met (walked_numbers atlas.buckets shelves) within),
    )

module _ (buckets : List LinkedBucket) (al width : ℕ) where
  -- the bucket that a record spells is as a bucket must be
  bucket-kept : (height n : ℕ) → length buckets ≤ most_buckets → n < length buckets → IfSome (slice_get buckets n) (IsFilled al width height)
      → generation_of buckets n < generations → IsBucket al width height (bucket_at buckets width n)
  bucket-kept height n few within filled age =
      ⊎_elim (λ found. of_record found.0 found.2) (λ none. absurd (omega (arith, within, none.0))) (slice_get_cases buckets n).1
    where
      of_record : (r : LinkedBucket) → slice_get buckets n ≡ Some r → IsBucket al width height (bucket_at buckets width n)
      of_record r here =
          let is : IsFilled al width height r = subst (λ (o : Option LinkedBucket). IfSome o (IsFilled al width height)) here filled in
          let young : r.generation < generations = subst (λ (o : Option LinkedBucket). option_map_or (λ (b : LinkedBucket). b.generation) o 0 < generations) here age in
          subst
          (λ (o : Option LinkedBucket). IsBucket al width height (option_map_or (spelled_bucket width n) o
          (record { place = 0; used = 0; live = 0; given = 0; tag = record { number = n; generation = 0 } })))
          (sym here)
          (record {
            tag = record { number = omega (arith, few, within); generation = young };
            used = omega arith;
            aligned = is.aligned;
            live = is.live;
            given = is.given;
            idle = is.idle;
            busy = is.busy;
          })

  -- so are those of numbers
  each-bucket : (height : ℕ) (ns : List ℕ) → length buckets ≤ most_buckets → AllByRecursion (λ (n : ℕ). n < length buckets) ns
      → AllByRecursion (λ (n : ℕ). IfSome (slice_get buckets n) (IsFilled al width height)) ns → AllByRecursion (λ (n : ℕ). generation_of buckets n < generations) ns
      → AllByRecursion (IsBucket al width height) (map (bucket_at buckets width) ns)
  each-bucket height [] few within filled ages = tt
  each-bucket height (n ∷ ns) few within filled ages =
      (bucket-kept height n few within.0 filled.0 ages.0, each-bucket height ns few within.1 filled.1 ages.1)

  -- a bucket stands where its record says
  place-same : (n : ℕ) → (bucket_at buckets width n).place ≡ place_of buckets n
  place-same n = by_record (slice_get buckets n)
    where
      by_record : (r : Option LinkedBucket) → (option_map_or (spelled_bucket width n) r
          (record { place = 0; used = 0; live = 0; given = 0; tag = record { number = n; generation = 0 } })).place ≡ option_map_or (λ (b : LinkedBucket). b.x) r 0
      by_record None = refl
      by_record (Some r) = refl

  -- buckets that stand down to an aligned place stand between
  stand-between : (begin end : ℕ) (ns : List ℕ) → begin % al ≡ 0 → StandDown al width begin end (map (place_of buckets) ns)
      → StandBetween al width begin end (map (bucket_at buckets width) ns)
  stand-between begin end [] even stand = absurd stand
  stand-between begin end (n ∷ []) even stand =
      subst (λ (p : ℕ). (p % al ≡ 0) × (p + width ≤ end) × (p ≡ begin)) (sym (place-same n)) (ap (λ (p : ℕ). p % al) stand.0 ∙ even, stand.1, stand.0)
  stand-between begin end (n ∷ m ∷ ms) even stand =
      subst (λ (p : ℕ). (p % al ≡ 0) × (p + width ≤ end) × StandBetween al width begin p (map (bucket_at buckets width) (m ∷ ms))) (sym (place-same n))
      (stand.0, stand.1, stand-between begin (place_of buckets n) (m ∷ ms) even stand.2)

-- the shelf that a record spells is as a shelf must be
one-shelf : (frame : Frame) (buckets : List LinkedBucket) (shelf : LinkedBucketShelf) (ns : List ℕ) → IsBucketedFrame frame → length buckets ≤ most_buckets
    → shelf.x % frame.column_width ≡ 0 → shelf.x / frame.column_width < frame.columns → AllByRecursion (λ (n : ℕ). n < length buckets) ns
    → AreBuckets frame buckets shelf ns → AllByRecursion (λ (n : ℕ). generation_of buckets n < generations) ns
    → IsShelf frame (record { column = shelf.x / frame.column_width; height = shelf.height; bucket_width = shelf.bucket_width; buckets = map (bucket_at buckets shelf.bucket_width) ns })
one-shelf frame buckets shelf ns is_frame few along column within has ages =
    let al = alignment_along frame in
    let width = shelf.bucket_width in
    let row : List Bucket = map (bucket_at buckets width) ns in
    let begins : shelf.x ≡ column_place frame (shelf.x / frame.column_width) = omega (arith, div-add-mod' shelf.x frame.column_width, along) in
    let even : shelf.x % al ≡ 0 = ap (λ (n : ℕ). n % al) begins ∙ aligned-times (shelf.x / frame.column_width) frame.column_width al is_frame.aligned in
    record {
      column = column;
      aligned = has.aligned;
      width = has.width;
      buckets = each-bucket buckets al width shelf.height ns few within has.filled ages;
      stand = subst (λ (x : ℕ). StandBetween al width x (x + frame.column_width) row) begins (stand-between buckets al width shelf.x (shelf.x + frame.column_width) ns even has.stand);
    }

-- so are the shelves that records spell
each-shelf : (atlas : BucketRecords) (shelves : List LinkedBucketShelf) → IsBucketedFrame atlas.frame → length atlas.buckets ≤ most_buckets
    → AllByRecursion (λ (shelf : LinkedBucketShelf). shelf.x % atlas.frame.column_width ≡ 0) shelves
    → AllByRecursion (λ (shelf : BucketShelf). shelf.column < atlas.frame.columns) (map (spelled_shelf atlas.frame atlas.buckets) shelves)
    → AllByRecursion (λ (n : ℕ). n < length atlas.buckets) (walked_numbers atlas.buckets shelves) → AllByRecursion (HasBuckets atlas) shelves → AllByRecursion (HasGenerations atlas) shelves
    → AllByRecursion (IsShelf atlas.frame) (map (spelled_shelf atlas.frame atlas.buckets) shelves)
each-shelf atlas [] is_frame few along columns within has ages = tt
each-shelf atlas (shelf ∷ shelves) is_frame few along columns within has ages =
    let met = (bucket_walk atlas.buckets shelf.first_bucket).met in (
      one-shelf atlas.frame atlas.buckets shelf met is_frame few along.0 columns.0
          (Each-front (λ (n : ℕ). n < length atlas.buckets) met (walked_numbers atlas.buckets shelves) within) has.0 ages.0,
      each-shelf atlas shelves is_frame few along.1 columns.1
          (Each-back (λ (n : ℕ). n < length atlas.buckets) met (walked_numbers atlas.buckets shelves) within) has.1 ages.1,
    )

-- what stands once below a count, and nowhere else, is so many
pub once-length : (count : ℕ) (ns : List ℕ) → HasEachOnce count ns → length ns ≡ count
once-length count ns once =
    length-each count ns (λ k below. one k below (once k)) (part-of count ns ns once (λ k. omega arith)).within
  where
    one : (k : ℕ) → k < count → times k ns ≡ (if nat_lt k count then 1 else 0) → times k ns ≡ 1
    one k below h = grind (arith, h)

module _ (atlas : BucketRecords) (fit : LinksFit atlas) (stands : StandsFor atlas (spelled_state atlas.frame atlas.shelves atlas.buckets)) where
  -- the shelves that are spelled, the numbers of their buckets, and those that are unused
  abbrev spelled : List BucketShelf
  spelled = map (spelled_shelf atlas.frame atlas.buckets) atlas.shelves

  abbrev unused : List ℕ
  unused = (bucket_walk atlas.buckets atlas.unused).met

  -- the rules that are records
  counts : HasCounts atlas
  counts = stands.keeps faults.Counts

  links : HasLinks atlas
  links = stands.keeps faults.Link

  shelves : HasShelves atlas (state_of atlas)
  shelves = stands.keeps faults.Shelves

  sharing : IsShared atlas
  sharing = stands.keeps faults.Sharing

  few : length atlas.buckets ≤ no_link
  few = omega (arith, counts.buckets)

  once : HasEachOnce (length atlas.buckets) (bucket_numbers spelled ++ unused)
  once =
      subst (λ (ns : List ℕ). HasEachOnce (length atlas.buckets) (ns ++ unused)) (sym (all-numbers atlas.frame atlas.buckets atlas.shelves)) sharing.once

  part : IsPart (length atlas.buckets) (bucket_numbers spelled)
  part = part-of (length atlas.buckets) (bucket_numbers spelled ++ unused) (bucket_numbers spelled) once (λ k. omega (arith, times-append k (bucket_numbers spelled) unused))

  all-count : length (bucket_numbers spelled) + length unused ≡ length atlas.buckets
  all-count = sym (length-append (bucket_numbers spelled) unused) ∙ once-length (length atlas.buckets) (bucket_numbers spelled ++ unused) once

  -- they are buckets of shelves that are spelled
  has_unused : HasUnused atlas.buckets atlas.unused (bucket_numbers spelled) unused
  has_unused =
      record {
        list = walk_by-leads (λ (bucket : LinkedBucket). bucket.next) atlas.buckets atlas.unused (λ k stands. fit.next k) fit.unused few sharing.unused_end;
        once = once;
        count = sym all-count;
        few = counts.buckets;
        idle = stands.keeps faults.Unused;
      }

  within : AllByRecursion (λ (n : ℕ). n < length atlas.buckets) (walked_numbers atlas.buckets atlas.shelves)
  within =
      subst (AllByRecursion (λ (n : ℕ). n < length atlas.buckets)) (all-numbers atlas.frame atlas.buckets atlas.shelves)
      (each-within (length atlas.buckets) (bucket_numbers spelled) part.within)

  valid : IsValid (spelled_state atlas.frame atlas.shelves atlas.buckets)
  valid =
      record {
        frame = stands.keeps faults.Frame;
        shelves = record {
          each = each-shelf atlas atlas.shelves (stands.keeps faults.Frame) counts.buckets shelves.along shelves.columns within (stands.keeps faults.Runs) stands.generations;
          columns = shelves.opened;
          heights = shelves.heights;
          numbers = part.once;
          few = omega (arith, in-use-length spelled, all-count, counts.buckets);
        };
        ends = stands.keeps faults.Neighbours;
      }

  spelled-witnessed : Witnessed (stored_from atlas (spelled_state atlas.frame atlas.shelves atlas.buckets)) unused (spelled_state atlas.frame atlas.shelves atlas.buckets)
  spelled-witnessed =
      record {
        spells = record {
          shelves = refl;
          buckets = shelves-spelled atlas 0 atlas.shelves few fit.next fit.first links.shelves (stands.keeps faults.Runs) sharing.ends within;
          has_unused = has_unused;
        };
        valid = valid;
      }

-- records that stand for a state spell it, and it is valid
pub stands-witnessed : (atlas : BucketRecords) (state : BucketedState) → LinksFit atlas → StandsFor atlas state
    → Witnessed (stored_from atlas state) (bucket_walk atlas.buckets atlas.unused).met state
stands-witnessed atlas state fit stands =
    let same : state ≡ spelled_state atlas.frame atlas.shelves atlas.buckets = stands.spelled in
    subst (λ (s : BucketedState). Witnessed (stored_from atlas s) (bucket_walk atlas.buckets atlas.unused).met s) (sym same)
    (spelled-witnessed atlas fit (subst (StandsFor atlas) same stands))
