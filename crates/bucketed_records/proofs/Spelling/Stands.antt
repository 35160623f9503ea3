-- Records that spell a valid state, and tell its totals, keep each rule of a snapshot.
use Rattle.std.proofs.Common.{◌≡◌, ℕ, pos, suc, ◌+◌, ◌-◌, ◌*◌, ◌/◌, ◌%◌, ◌<◌, ◌≤◌, Option, List, [], ◌∷◌, ◌++◌, length, map, cond, false, refl, ap, arith, sym, ◌∙◌, subst, ◌==◌}
use Rattle.std.proofs.Math.Nat.{mul-mod_left}
use Rattle.std.proofs.lemmas.List.{length-map, map-append}
use Rattle.std.proofs.lemmas.Nat.{div-mul-add}
use Rattle.std.specs.Option.{option_map_or}
use Rattle.std.specs.Prelude.{IfSome, slice_get}
use Rattle.std.specs.List.{AllByRecursion}
use Rattle.etagere_base.proofs.EachLemmas.{Each-weaken}
use Rattle.etagere_base.proofs.TimesLemmas.{times-append}
use Rattle.etagere_base.specs.declared.faults.RestoreFault.TheVariants as faults
use Rattle.etagere_base.specs.declared.frames.Frame.{Frame}
use Rattle.etagere_base.specs.Frames.{across_side, alignment_along}
use Rattle.etagere_links.specs.Links.{no_link}
use Rattle.etagere_links.specs.Lists.{HasEachOnce}
use Rattle.etagere_links.specs.Walks.{Walked}
use Rattle.etagere_links.proofs.WalkedLists.{IsPart, part-of, walk_by-spelled}
use Rattle.bucketed_model.specs.Space.{allocated_space}
use Rattle.bucketed_model.specs.State.{Bucket, BucketShelf, BucketedState, available_height, bucket_numbers, column_height, column_place, current_column, generations}
use Rattle.bucketed_model.specs.Valid.{IsBucket, IsShelf, OpenColumns, StandBetween, ends_idle}
use Rattle.bucketed_model.proofs.Shelving.Shelves.{numbers_of, few-shelves}
use Rattle.bucketed_records.specs.declared.records.LinkedBucket.{LinkedBucket}
use Rattle.bucketed_records.specs.declared.records.LinkedBucketShelf.{LinkedBucketShelf}
use Rattle.bucketed_records.specs.BucketRecords.{bucket_walk}
use Rattle.bucketed_records.specs.Private.Store.{AreBucketsSpelled, AreShelvesSpelled, Stored, first_link, kept_shelf, kept_shelves, record_of, shelf_record}
use Rattle.bucketed_records.specs.declared.records.KeptShelf.{KeptShelf}
use Rattle.bucketed_records.specs.Private.Witnessed.{HasTotals, Witnessed, records_of}
use Rattle.bucketed_records.specs.StandsFor.{AreLinked, AreStacked, HasBuckets, HasGenerations, IsFilled, StandDown, StandsFor, StopsInRange, generation_of, height_before, live_of, place_of, shelf_of, walked_numbers}
use Rattle.bucketed_records.proofs.Spelling.KeptShelves.{kept-append, length-kept}
use Rattle.bucketed_records.proofs.Spelling.ReadBack.{state-read, used-part, walk-read}
use Rattle.bucketed_records.proofs.Spelling.UsedAreas.{area-used}

-- what a shelf has is part of what all have
part-own : (count : ℕ) (s : BucketShelf) (ss : List BucketShelf) → IsPart count (bucket_numbers (s ∷ ss)) → IsPart count (numbers_of s.buckets)
part-own count s ss part = record {
  once = λ k. omega (arith, part.once k, times-append k (numbers_of s.buckets) (bucket_numbers ss));
  within = λ k stands. part.within k (omega (arith, stands, times-append k (numbers_of s.buckets) (bucket_numbers ss)));
}

-- so is what the others have
part-rest : (count : ℕ) (s : BucketShelf) (ss : List BucketShelf) → IsPart count (bucket_numbers (s ∷ ss)) → IsPart count (bucket_numbers ss)
part-rest count s ss part = record {
  once = λ k. omega (arith, part.once k, times-append k (numbers_of s.buckets) (bucket_numbers ss));
  within = λ k stands. part.within k (omega (arith, stands, times-append k (numbers_of s.buckets) (bucket_numbers ss)));
}

-- a walk that ends at none stops in range
stops : (count : ℕ) (walked : Walked) → walked.end ≡ no_link → StopsInRange count walked
stops count walked ends = rw ends refl

-- buckets name their shelf
owners : (records : List LinkedBucket) (number width : ℕ) (bs : List Bucket) → AreBucketsSpelled records number width bs → AllByRecursion (λ (n : ℕ). shelf_of records n ≡ number) (numbers_of bs)
owners records number width [] h = tt
owners records number width (b ∷ bs) h =
    (ap (λ (r : Option LinkedBucket). option_map_or (λ (bucket : LinkedBucket). bucket.shelf) r 0) h.0, owners records number width bs h.1)

-- buckets are filled as their records say
fills : (records : List LinkedBucket) (number al width height : ℕ) (bs : List Bucket) → AreBucketsSpelled records number width bs → AllByRecursion (IsBucket al width height) bs
    → AllByRecursion (λ (n : ℕ). IfSome (slice_get records n) (IsFilled al width height)) (numbers_of bs)
fills records number al width height [] h each = tt
fills records number al width height (b ∷ bs) h each =
    (subst (λ (o : Option LinkedBucket). IfSome o (IsFilled al width height)) (sym h.0) (filled b each.0), fills records number al width height bs h.1 each.1)
  where
    filled : (b : Bucket) → IsBucket al width height b → IsFilled al width height (record_of number width (first_link bs) b)
    filled b is =
        let used : b.used ≡ width - (width - b.used) = omega (arith, is.used) in
        record {
          free = omega arith;
          aligned = subst (λ (n : ℕ). n % al ≡ 0) used is.aligned;
          live = is.live;
          given = is.given;
          idle = λ none. let new = is.idle none in (new.0, sym used ∙ new.1);
          busy = λ some. let busy = is.busy some in (subst (λ (n : ℕ). b.given * al ≤ n) used busy.0, busy.1);
        }

-- they stand where their records say
places : (records : List LinkedBucket) (number width : ℕ) (bs : List Bucket) → AreBucketsSpelled records number width bs
    → map (place_of records) (numbers_of bs) ≡ map (λ (b : Bucket). b.place) bs
places records number width [] h = refl
places records number width (b ∷ bs) h =
    ap (λ (r : Option LinkedBucket). option_map_or (λ (bucket : LinkedBucket). bucket.x) r 0 ∷ map (place_of records) (numbers_of bs)) h.0
    ∙ ap (λ (ps : List ℕ). b.place ∷ ps) (places records number width bs h.1)

-- buckets that stand between two places stand from the later one down
stand-first : (al width begin end : ℕ) (b : Bucket) (bs : List Bucket) → StandBetween al width begin end (b ∷ bs)
    → StandDown al width begin end (map (λ (x : Bucket). x.place) (b ∷ bs))
stand-first al width begin end b [] stand = (stand.2, stand.1)
stand-first al width begin end b (c ∷ cs) stand = (stand.0, stand.1, stand-first al width begin b.place c cs stand.2)

stand-down : (al width begin end : ℕ) (bs : List Bucket) → begin < end → StandBetween al width begin end bs
    → StandDown al width begin end (map (λ (x : Bucket). x.place) bs)
stand-down al width begin end [] some stand = omega (arith, some, stand)
stand-down al width begin end (b ∷ bs) some stand = stand-first al width begin end b bs stand

-- their generations have 8 bits
ages : (records : List LinkedBucket) (number al width height : ℕ) (bs : List Bucket) → AreBucketsSpelled records number width bs → AllByRecursion (IsBucket al width height) bs
    → AllByRecursion (λ (n : ℕ). generation_of records n < generations) (numbers_of bs)
ages records number al width height [] h each = tt
ages records number al width height (b ∷ bs) h each = (
  omega (arith, ap (λ (r : Option LinkedBucket). option_map_or (λ (bucket : LinkedBucket). bucket.generation) r 0) h.0, each.0.tag.generation),
  ages records number al width height bs h.1 each.1,
)

-- the links of shelves
linked : (frame : Frame) (records : List LinkedBucket) (number : ℕ) (before ss : List BucketShelf) → length records ≤ no_link → IsPart (length records) (bucket_numbers ss)
    → AreShelvesSpelled records number ss → AreLinked records number (map shelf_record (kept_shelves frame before ss))
linked frame records number before [] few part h = tt
linked frame records number before (s ∷ ss) few part h =
    let walked = walk-read records number s.bucket_width s.buckets few (part-own (length records) s ss part) h.0 in (
      stops (length records) (bucket_walk records (first_link s.buckets)) (ap (λ (w : Walked). w.end) walked),
      subst (λ (w : Walked). AllByRecursion (λ (n : ℕ). shelf_of records n ≡ number) w.met) (sym walked) (owners records number s.bucket_width s.buckets h.0),
      linked frame records (suc number) (before ++ s ∷ []) ss few (part-rest (length records) s ss part) h.1,
    )

-- the buckets of shelves
buckets-in : (frame : Frame) (stored : Stored) (column height space number : ℕ) (before ss : List BucketShelf) → 1 ≤ frame.column_width → length stored.buckets ≤ no_link
    → IsPart (length stored.buckets) (bucket_numbers ss) → AllByRecursion (IsShelf frame) ss → AreShelvesSpelled stored.buckets number ss
    → AllByRecursion (HasBuckets (records_of frame stored column height space)) (map shelf_record (kept_shelves frame before ss))
buckets-in frame stored column height space number before [] wide few part each h = tt
buckets-in frame stored column height space number before (s ∷ ss) wide few part each h =
    let al = alignment_along frame in
    let begin = column_place frame s.column in
    let end = begin + frame.column_width in
    let down = stand-down al s.bucket_width begin end s.buckets (omega (arith, wide)) each.0.stand in
    let walked = walk-read stored.buckets number s.bucket_width s.buckets few (part-own (length stored.buckets) s ss part) h.0 in (
      record {
        aligned = each.0.aligned;
        width = each.0.width;
        filled = subst (λ (w : Walked). AllByRecursion (λ (n : ℕ). IfSome (slice_get stored.buckets n) (IsFilled al s.bucket_width s.height)) w.met) (sym walked)
            (fills stored.buckets number al s.bucket_width s.height s.buckets h.0 each.0.buckets);
        stand = subst (λ (w : Walked). StandDown al s.bucket_width begin end (map (place_of stored.buckets) w.met)) (sym walked)
            (subst (StandDown al s.bucket_width begin end) (sym (places stored.buckets number s.bucket_width s.buckets h.0)) down);
      },
      buckets-in frame stored column height space (suc number) (before ++ s ∷ []) ss wide few (part-rest (length stored.buckets) s ss part) each.1 h.1,
    )

-- the generations of the buckets of shelves
ages-in : (frame : Frame) (stored : Stored) (column height space number : ℕ) (before ss : List BucketShelf) → length stored.buckets ≤ no_link
    → IsPart (length stored.buckets) (bucket_numbers ss) → AllByRecursion (IsShelf frame) ss → AreShelvesSpelled stored.buckets number ss
    → AllByRecursion (HasGenerations (records_of frame stored column height space)) (map shelf_record (kept_shelves frame before ss))
ages-in frame stored column height space number before [] few part each h = tt
ages-in frame stored column height space number before (s ∷ ss) few part each h =
    let walked = walk-read stored.buckets number s.bucket_width s.buckets few (part-own (length stored.buckets) s ss part) h.0 in (
      subst (λ (w : Walked). AllByRecursion (λ (n : ℕ). generation_of stored.buckets n < generations) w.met) (sym walked)
          (ages stored.buckets number (alignment_along frame) s.bucket_width s.height s.buckets h.0 each.0.buckets),
      ages-in frame stored column height space (suc number) (before ++ s ∷ []) ss few (part-rest (length stored.buckets) s ss part) each.1 h.1,
    )

-- the numbers and ends that walks meet
numbers-in : (frame : Frame) (records : List LinkedBucket) (number : ℕ) (before ss : List BucketShelf) → length records ≤ no_link → IsPart (length records) (bucket_numbers ss)
    → AreShelvesSpelled records number ss
    → (walked_numbers records (map shelf_record (kept_shelves frame before ss)) ≡ bucket_numbers ss)
    × AllByRecursion (λ (shelf : LinkedBucketShelf). (bucket_walk records shelf.first_bucket).end ≡ no_link) (map shelf_record (kept_shelves frame before ss))
numbers-in frame records number before [] few part h = (refl, tt)
numbers-in frame records number before (s ∷ ss) few part h =
    let walked = walk-read records number s.bucket_width s.buckets few (part-own (length records) s ss part) h.0 in
    let rest = numbers-in frame records (suc number) (before ++ s ∷ []) ss few (part-rest (length records) s ss part) h.1 in (
      ap (λ (w : Walked). w.met ++ walked_numbers records (map shelf_record (kept_shelves frame (before ++ s ∷ []) ss))) walked ∙ ap (λ (ns : List ℕ). numbers_of s.buckets ++ ns) rest.0,
      (ap (λ (w : Walked). w.end) walked, rest.1),
    )

-- a column's place tells the column
column-of : (frame : Frame) (column : ℕ) → 1 ≤ frame.column_width → column_place frame column / frame.column_width ≡ column
column-of frame column wide = ap (λ (n : ℕ). n / frame.column_width) (omega arith) ∙ div-mul-add column frame.column_width 0 wide

-- the heights of a column by the records
heights-before : (frame : Frame) (column : ℕ) (before ss : List BucketShelf) → 1 ≤ frame.column_width
    → height_before frame.column_width column (map shelf_record (kept_shelves frame before ss)) ≡ column_height column ss
heights-before frame column before [] wide = refl
heights-before frame column before (s ∷ ss) wide =
    ap (λ (c : ℕ). cond (c == column) s.height 0 + height_before frame.column_width column (map shelf_record (kept_shelves frame (before ++ s ∷ []) ss))) (column-of frame s.column wide)
    ∙ ap (λ (h : ℕ). cond (s.column == column) s.height 0 + h) (heights-before frame column (before ++ s ∷ []) ss wide)

-- shelves begin where those before them end
stacked : (frame : Frame) (before ss : List BucketShelf) → 1 ≤ frame.column_width
    → AreStacked frame.column_width (map shelf_record (kept_shelves frame [] before)) (map shelf_record (kept_shelves frame before ss))
stacked frame before [] wide = tt
stacked frame before (s ∷ ss) wide =
    let longer : map shelf_record (kept_shelves frame [] (before ++ s ∷ [])) ≡ map shelf_record (kept_shelves frame [] before) ++ (kept_shelf frame before s).shelf ∷ [] =
    ap (map shelf_record) (kept-append frame [] before (s ∷ [])) ∙ map-append shelf_record (kept_shelves frame [] before) (kept_shelf frame before s ∷ []) in (
      sym (ap (λ (c : ℕ). height_before frame.column_width c (map shelf_record (kept_shelves frame [] before))) (column-of frame s.column wide) ∙ heights-before frame s.column [] before wide),
      subst (λ (rs : List LinkedBucketShelf). AreStacked frame.column_width rs (map shelf_record (kept_shelves frame (before ++ s ∷ []) ss))) longer (stacked frame (before ++ s ∷ []) ss wide),
    )

-- shelves begin where columns do
alongs : (frame : Frame) (before ss : List BucketShelf) → AllByRecursion (λ (shelf : LinkedBucketShelf). shelf.x % frame.column_width ≡ 0) (map shelf_record (kept_shelves frame before ss))
alongs frame before [] = tt
alongs frame before (s ∷ ss) = (mul-mod_left _ _, alongs frame (before ++ s ∷ []) ss)

-- records that spell a valid state stand for it
pub witnessed-stands : (state : BucketedState) (stored : Stored) (unused : List ℕ) (column height in_use space : ℕ) → Witnessed stored unused state → HasTotals column height in_use space state
    → StandsFor (records_of state.frame stored column height space) state
witnessed-stands state stored unused column height in_use space witnessed totals =
    let valid = witnessed.valid in
    let frame = state.frame in
    let ss = state.shelves in
    let spells = witnessed.spells in
    let wide = valid.frame.column_width in
    let few : length stored.buckets ≤ no_link = omega (arith, spells.has_unused.few) in
    let part = used-part stored.buckets stored.unused (bucket_numbers ss) unused spells.has_unused in
    let idle_part : IsPart (length stored.buckets) unused =
    part-of (length stored.buckets) (bucket_numbers ss ++ unused) unused spells.has_unused.once (λ k. omega (arith, times-append k (bucket_numbers ss) unused)) in
    let walked : bucket_walk stored.buckets stored.unused ≡ record { met = unused; end = no_link } =
    walk_by-spelled (λ (bucket : LinkedBucket). bucket.next) stored.buckets stored.unused unused few idle_part.once idle_part.within spells.has_unused.list in
    let kept : map shelf_record (kept_shelves frame [] ss) ≡ map shelf_record stored.shelves = ap (map shelf_record) (sym spells.shelves) in
    let each : (P : LinkedBucketShelf → Type 0) → AllByRecursion P (map shelf_record (kept_shelves frame [] ss)) → AllByRecursion P (map shelf_record stored.shelves) =
    λ P ps. subst (AllByRecursion P) kept ps in
    let met = numbers-in frame stored.buckets 0 [] ss few part spells.buckets in
    let records = records_of frame stored column height space in
    let read = state-read frame stored unused ss wide valid.shelves spells in
    let has = each (HasBuckets records) (buckets-in frame stored column height space 0 [] ss wide few part valid.shelves.each spells.buckets) in
    record {
      spelled = sym read;
      keeps = elim [
        | faults.Frame ↦ valid.frame
        | faults.Counts ↦ record {
          shelves = omega (arith, length-map stored.shelves shelf_record, ap (λ (ks : List KeptShelf). length ks) spells.shelves, length-kept frame [] ss, few-shelves frame ss wide valid.shelves.each, valid.shelves.few);
          buckets = spells.has_unused.few;
        }
        | faults.Link ↦ record {
          shelves = subst (AreLinked stored.buckets 0) kept (linked frame stored.buckets 0 [] ss few part spells.buckets);
          unused = stops (length stored.buckets) (bucket_walk stored.buckets stored.unused) (ap (λ (w : Walked). w.end) walked);
        }
        | faults.Shelves ↦ record {
          wide = λ _. wide;
          columns = subst (λ (s : BucketedState). AllByRecursion (λ (shelf : BucketShelf). shelf.column < s.frame.columns) s.shelves) (sym read)
              (Each-weaken (IsShelf frame) _ ss (λ shelf is. is.column) valid.shelves.each);
          opened = subst (λ (s : BucketedState). OpenColumns 0 s.shelves) (sym read) valid.shelves.columns;
          along = each _ (alongs frame [] ss);
          across = subst (AreStacked frame.column_width []) kept (stacked frame [] ss wide);
          heights = subst (λ (s : BucketedState). (column : ℕ) → column_height column s.shelves ≤ across_side s.frame) (sym read) valid.shelves.heights;
          current_column = subst (λ (s : BucketedState). column ≡ current_column s.shelves) (sym read) totals.column;
          available_height = subst (λ (s : BucketedState). height ≡ available_height s.frame s.shelves) (sym read) totals.height;
        }
        | faults.Runs ↦ has
        | faults.Neighbours ↦ subst (λ (s : BucketedState). ends_idle s.shelves ≡ false) (sym read) valid.ends
        | faults.FreeList ↦ tt
        | faults.Sharing ↦ record {
          once = subst (λ (ns : List ℕ). HasEachOnce (length stored.buckets) (ns ++ (bucket_walk stored.buckets stored.unused).met)) (sym met.0 ∙ ap (walked_numbers stored.buckets) kept)
              (subst (λ (w : Walked). HasEachOnce (length stored.buckets) (bucket_numbers ss ++ w.met)) (sym walked) spells.has_unused.once);
          ends = each _ met.1;
          unused_end = ap (λ (w : Walked). w.end) walked;
        }
        | faults.Unused ↦ subst (λ (w : Walked). AllByRecursion (λ (n : ℕ). live_of stored.buckets n ≡ 0) w.met) (sym walked) spells.has_unused.idle
        | faults.Space ↦ ap (λ (n : ℕ). pos n) totals.space ∙ ap (λ (s : BucketedState). pos (allocated_space s)) (sym read) ∙ sym (area-used records (map shelf_record stored.shelves) has)
        | faults.Memory ↦ tt
      ];
      generations = each (HasGenerations records) (ages-in frame stored column height space 0 [] ss few part valid.shelves.each spells.buckets);
    }
