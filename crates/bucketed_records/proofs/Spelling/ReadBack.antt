-- The state that is read back from records that spell shelves is the one of these shelves.
use Rattle.std.proofs.Common.{◌≡◌, ℕ, suc, ◌-◌, ◌*◌, ◌/◌, ◌≤◌, Option, Some, List, [], ◌∷◌, ◌++◌, length, map, refl, ap, arith, ◌∙◌}
use Rattle.std.proofs.lemmas.Nat.{div-mul-add}
use Rattle.std.specs.Option.{option_map_or}
use Rattle.std.specs.Prelude.{option_and_then, slice_get}
use Rattle.std.specs.List.{AllByRecursion}
use Rattle.etagere_base.proofs.EachLemmas.{Each-weaken}
use Rattle.etagere_base.proofs.TimesLemmas.{times-append}
use Rattle.etagere_base.specs.declared.frames.Frame.{Frame}
use Rattle.etagere_base.specs.Frames.{alignment_along}
use Rattle.etagere_links.specs.Chains.{IsList}
use Rattle.etagere_links.specs.Links.{no_link}
use Rattle.etagere_links.specs.Walks.{Walked}
use Rattle.etagere_links.proofs.WalkedLists.{IsPart, part-of, walk_by-spelled}
use Rattle.bucketed_model.specs.State.{Bucket, BucketShelf, BucketedState, bucket_numbers}
use Rattle.bucketed_model.specs.Valid.{AreShelves, IsBucket, IsShelf}
use Rattle.bucketed_model.proofs.Shelving.Shelves.{numbers_of}
use Rattle.bucketed_records.specs.declared.records.LinkedBucket.{LinkedBucket}
use Rattle.bucketed_records.specs.BucketRecords.{bucket_at, bucket_walk, next_of, spelled_bucket, spelled_shelf, spelled_state}
use Rattle.bucketed_records.specs.Private.Store.{AreBucketsSpelled, AreShelvesSpelled, HasUnused, Spells, Stored, first_link, kept_shelf, kept_shelves, record_of, shelf_record, stored_state}
use Rattle.bucketed_records.specs.declared.records.KeptShelf.{KeptShelf}

-- following links from the first of some buckets meets their numbers
pub spelled-list : (records : List LinkedBucket) (number width : ℕ) (bs : List Bucket) → AreBucketsSpelled records number width bs → IsList (next_of records) (first_link bs) (numbers_of bs)
spelled-list records number width [] h = refl
spelled-list records number width (b ∷ bs) h =
    let link : next_of records b.tag.number ≡ first_link bs = ap (λ (r : Option LinkedBucket). option_and_then (λ (bucket : LinkedBucket). bucket.next) r) h.0 in
    (refl, rw link (spelled-list records number width bs h.1))

-- the bucket of a number is the one that its record spells
bucket-read : (records : List LinkedBucket) (number width : ℕ) (next : Option ℕ) (b : Bucket) → b.used ≤ width
    → slice_get records b.tag.number ≡ Some (record_of number width next b) → bucket_at records width b.tag.number ≡ b
bucket-read records number width next b fits h =
    let used : width - (width - b.used) ≡ b.used = omega (arith, fits) in
    ap (λ (r : Option LinkedBucket). option_map_or (spelled_bucket width b.tag.number) r
    (record { place = 0; used = 0; live = 0; given = 0; tag = record { number = b.tag.number; generation = 0 } })) h
    ∙ ap (λ (u : ℕ). let same : Bucket = record { place = b.place; used = u; live = b.live; given = b.given; tag = b.tag } in same) used

-- the buckets of numbers are those that the records spell
buckets-read : (records : List LinkedBucket) (number width : ℕ) (bs : List Bucket) → AllByRecursion (λ (b : Bucket). b.used ≤ width) bs
    → AreBucketsSpelled records number width bs → map (bucket_at records width) (numbers_of bs) ≡ bs
buckets-read records number width [] fits h = refl
buckets-read records number width (b ∷ bs) fits h =
    ap (λ (c : Bucket). c ∷ map (bucket_at records width) (numbers_of bs)) (bucket-read records number width (first_link bs) b fits.0 h.0)
    ∙ ap (λ (cs : List Bucket). b ∷ cs) (buckets-read records number width bs fits.1 h.1)

-- the walk along the buckets of a shelf
pub walk-read : (records : List LinkedBucket) (number width : ℕ) (bs : List Bucket) → length records ≤ no_link → IsPart (length records) (numbers_of bs)
    → AreBucketsSpelled records number width bs → bucket_walk records (first_link bs) ≡ record { met = numbers_of bs; end = no_link }
walk-read records number width bs few part h =
    walk_by-spelled (λ (bucket : LinkedBucket). bucket.next) records (first_link bs) (numbers_of bs) few part.once part.within (spelled-list records number width bs h)

-- the shelf that a record spells
pub shelf-read : (frame : Frame) (records : List LinkedBucket) (number : ℕ) (before : List BucketShelf) (s : BucketShelf) → 1 ≤ frame.column_width → length records ≤ no_link
    → IsPart (length records) (numbers_of s.buckets) → IsShelf frame s → AreBucketsSpelled records number s.bucket_width s.buckets
    → spelled_shelf frame records (kept_shelf frame before s).shelf ≡ s
shelf-read frame records number before s wide few part is_shelf h =
    let column : s.column * frame.column_width / frame.column_width ≡ s.column =
    ap (λ (n : ℕ). n / frame.column_width) (omega arith) ∙ div-mul-add s.column frame.column_width 0 wide in
    let fits = Each-weaken (IsBucket (alignment_along frame) s.bucket_width s.height) (λ (b : Bucket). b.used ≤ s.bucket_width) s.buckets (λ b is. is.used) is_shelf.buckets in
    let walked = walk-read records number s.bucket_width s.buckets few part h in
    let read : map (bucket_at records s.bucket_width) (bucket_walk records (first_link s.buckets)).met ≡ s.buckets =
    ap (λ (w : Walked). map (bucket_at records s.bucket_width) w.met) walked ∙ buckets-read records number s.bucket_width s.buckets fits h in
    ap (λ (c : ℕ). let same : BucketShelf = record { column = c; height = s.height; bucket_width = s.bucket_width; buckets = map (bucket_at records s.bucket_width) (bucket_walk records (first_link s.buckets)).met } in same) column
    ∙ ap (λ (bs : List Bucket). let same : BucketShelf = record { column = s.column; height = s.height; bucket_width = s.bucket_width; buckets = bs } in same) read

-- the shelves that records spell
shelves-read : (frame : Frame) (records : List LinkedBucket) (number : ℕ) (before ss : List BucketShelf) → 1 ≤ frame.column_width → length records ≤ no_link
    → IsPart (length records) (bucket_numbers ss) → AllByRecursion (IsShelf frame) ss → AreShelvesSpelled records number ss
    → map (spelled_shelf frame records) (map shelf_record (kept_shelves frame before ss)) ≡ ss
shelves-read frame records number before [] wide few part each h = refl
shelves-read frame records number before (s ∷ ss) wide few part each h =
    let split = λ (k : ℕ). times-append k (numbers_of s.buckets) (bucket_numbers ss) in
    let own : IsPart (length records) (numbers_of s.buckets) =
    record { once = λ k. omega (arith, part.once k, split k); within = λ k stands. part.within k (omega (arith, stands, split k)) } in
    let others : IsPart (length records) (bucket_numbers ss) =
    record { once = λ k. omega (arith, part.once k, split k); within = λ k stands. part.within k (omega (arith, stands, split k)) } in
    ap (λ (t : BucketShelf). t ∷ map (spelled_shelf frame records) (map shelf_record (kept_shelves frame (before ++ s ∷ []) ss)))
    (shelf-read frame records number before s wide few own each.0 h.0)
    ∙ ap (λ (ts : List BucketShelf). s ∷ ts) (shelves-read frame records (suc number) (before ++ s ∷ []) ss wide few others each.1 h.1)

-- the numbers in use are part of all
pub used-part : (records : List LinkedBucket) (first : Option ℕ) (used unused : List ℕ) → HasUnused records first used unused → IsPart (length records) used
used-part records first used unused has_unused = part-of (length records) (used ++ unused) used has_unused.once (λ k. omega (arith, times-append k used unused))

-- the state that is read back
pub state-read : (frame : Frame) (stored : Stored) (unused : List ℕ) (ss : List BucketShelf) → 1 ≤ frame.column_width → AreShelves frame ss
    → Spells frame stored unused ss → stored_state frame stored ≡ record { frame = frame; shelves = ss }
state-read frame stored unused ss wide valid spells =
    let few : length stored.buckets ≤ no_link = omega (arith, spells.has_unused.few) in
    ap (λ (kept : List KeptShelf). spelled_state frame (map shelf_record kept) stored.buckets) spells.shelves
    ∙ ap (λ (xs : List BucketShelf). let state : BucketedState = record { frame = frame; shelves = xs } in state)
    (shelves-read frame stored.buckets 0 [] ss wide few (used-part stored.buckets stored.unused (bucket_numbers ss) unused spells.has_unused) valid.each spells.buckets)
