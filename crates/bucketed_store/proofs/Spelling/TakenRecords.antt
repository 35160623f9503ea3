-- The records after an item was taken spell the shelves after it was taken.
use Rattle.std.proofs.Common.{◌≡◌, ℕ, zero, suc, ◌+◌, ◌-◌, ◌≤◌, Bool, true, false, cond, Option, None, Some, List, [], ◌∷◌, ◌++◌, length, map, refl, ap, arith, sym, ◌∙◌, subst, ◌==◌}
use Rattle.std.proofs.lemmas.Bool.{eqb-true}
use Rattle.std.specs.Option.{option_map_or}
use Rattle.std.specs.Prelude.{option_map, slice_get}
use Rattle.etagere_base.proofs.TimesLemmas.{times-append}
use Rattle.etagere_base.specs.declared.frames.Frame.{Frame}
use Rattle.etagere_base.specs.Lists.{times}
use Rattle.etagere_links.specs.Edits.{changed_by}
use Rattle.etagere_links.proofs.Chains.{Leads-frame}
use Rattle.etagere_links.proofs.RecordChanges.{get-changed_by, get-changed_by-other, length-changed_by, link_at-same, map-changed_by}
use Rattle.bucketed_model.specs.State.{Bucket, BucketShelf, bucket_numbers, buckets_in_use, changed_at, changed_bucket, changed_in, most_buckets}
use Rattle.bucketed_model.specs.Taking.{taken_bucket}
use Rattle.bucketed_model.proofs.Shelving.Shelves.{column_height-append, numbers_of}
use Rattle.bucketed_model.proofs.Validity.Changed.{bucket_numbers-changed}
use Rattle.bucketed_model.proofs.Validity.Taken.{take-keeps}
use Rattle.bucketed_records.specs.declared.records.LinkedBucket.{LinkedBucket}
use Rattle.bucketed_records.specs.BucketRecords.{next_of}
use Rattle.bucketed_records.specs.Private.Store.{AreBucketsSpelled, AreShelvesSpelled, HasUnused, Spells, Stored, first_link, kept_shelf, kept_shelves, live_items, record_of, widest_room}
use Rattle.bucketed_records.specs.declared.records.KeptShelf.{KeptShelf}
use Rattle.bucketed_records.proofs.Spelling.KeptShelves.{kept-heights}
use Rattle.bucket_index.specs.Private.Searching.{widest_from}
use Rattle.bucketed_store.specs.Private.StoreEdits.{first_bucket_of, given_from, stored_taken, taken_record}
use Rattle.bucketed_store.proofs.Spelling.FoundFirst.{widest-read}
use Rattle.bucketed_store.proofs.Spelling.FoundBucket.{few-at, kept-at, spelled-at}
use Rattle.bucketed_store.proofs.Spelling.MadeBuckets.{idle-kept}

-- the record of a bucket that gave an item
record-taken : (number width item : ℕ) (next : Option ℕ) (b : Bucket) → taken_record item (record_of number width next b) ≡ record_of number width next (taken_bucket item b)
record-taken number width item next b =
    let free : width - b.used - item ≡ width - (b.used + item) = omega arith in
    ap (λ (f : ℕ). let r : LinkedBucket = record { x = b.place; free_space = f; next = next; refcount = b.live + 1; item_count = b.given + 1; shelf = number; generation = b.tag.generation } in r) free

-- the first of buckets of which one may have changed
pub first-taken : (n item : ℕ) (bs : List Bucket) → first_link (map (changed_at n (taken_bucket item)) bs) ≡ first_link bs
first-taken n item [] = refl
first-taken n item (b ∷ bs) = by_test (b.tag.number == n)
  where
    by_test : (t : Bool) → first_link (cond t (taken_bucket item b) b ∷ map (changed_at n (taken_bucket item)) bs) ≡ Some b.tag.number
    by_test true = refl
    by_test false = refl

-- the record of a bucket that may have changed
bucket-taken : (records : List LinkedBucket) (n item number width : ℕ) (next : Option ℕ) (b : Bucket) → slice_get records b.tag.number ≡ Some (record_of number width next b)
    → slice_get (changed_by (Some n) (taken_record item) records) (changed_at n (taken_bucket item) b).tag.number ≡ Some (record_of number width next (changed_at n (taken_bucket item) b))
bucket-taken records n item number width next b h = by_test (b.tag.number == n) refl
  where
    by_test : (t : Bool) → (b.tag.number == n) ≡ t
        → slice_get (changed_by (Some n) (taken_record item) records) (cond t (taken_bucket item b) b).tag.number ≡ Some (record_of number width next (cond t (taken_bucket item b) b))
    by_test true e =
        let same : b.tag.number ≡ n = eqb-true b.tag.number n e in
        get-changed_by (taken_record item) records (Some n) b.tag.number (ap (λ (k : ℕ). Some k) (sym same))
        ∙ ap (option_map (taken_record item)) h
        ∙ ap (λ (r : LinkedBucket). Some r) (record-taken number width item next b)
    by_test false e =
        get-changed_by-other (taken_record item) records (Some n) b.tag.number (λ (k : Some n ≡ Some b.tag.number). let same : b.tag.number ≡ n = cc in absurd (other same)) ∙ h
      where
        other : b.tag.number ≡ n → ⊥
        other same = grind (arith, e)

-- the records of buckets of which one may have changed
pub buckets-taken : (records : List LinkedBucket) (n item number width : ℕ) (bs : List Bucket) → AreBucketsSpelled records number width bs
    → AreBucketsSpelled (changed_by (Some n) (taken_record item) records) number width (map (changed_at n (taken_bucket item)) bs)
buckets-taken records n item number width [] h = tt
buckets-taken records n item number width (b ∷ bs) h = (
  rw (first-taken n item bs) (bucket-taken records n item number width (first_link bs) b h.0),
  buckets-taken records n item number width bs h.1,
)

-- the records of shelves of which one bucket may have changed
shelves-taken : (records : List LinkedBucket) (n item number : ℕ) (ss : List BucketShelf) → AreShelvesSpelled records number ss
    → AreShelvesSpelled (changed_by (Some n) (taken_record item) records) number (changed_bucket n (taken_bucket item) ss)
shelves-taken records n item number [] h = tt
shelves-taken records n item number (s ∷ ss) h =
    (buckets-taken records n item number s.bucket_width s.buckets h.0, shelves-taken records n item (suc number) ss h.1)

-- one more item is live for each bucket that gave one
live-taken : (n item : ℕ) (bs : List Bucket) → live_items (map (changed_at n (taken_bucket item)) bs) ≡ live_items bs + times n (numbers_of bs)
live-taken n item [] = refl
live-taken n item (b ∷ bs) = by_test (b.tag.number == n) (live-taken n item bs)
  where
    by_test : (t : Bool) → live_items (map (changed_at n (taken_bucket item)) bs) ≡ live_items bs + times n (numbers_of bs)
        → (cond t (taken_bucket item b) b).live + live_items (map (changed_at n (taken_bucket item)) bs) ≡ b.live + live_items bs + (cond t 1 0 + times n (numbers_of bs))
    by_test true e = omega (arith, e)
    by_test false e = omega (arith, e)

-- buckets of which none has a number don't change
pub buckets-same : (n item : ℕ) (bs : List Bucket) → times n (numbers_of bs) ≡ 0 → map (changed_at n (taken_bucket item)) bs ≡ bs
buckets-same n item [] h = refl
buckets-same n item (b ∷ bs) h = by_test (b.tag.number == n) refl (buckets-same n item bs (omega (arith, h)))
  where
    by_test : (t : Bool) → (b.tag.number == n) ≡ t → map (changed_at n (taken_bucket item)) bs ≡ bs → cond t (taken_bucket item b) b ∷ map (changed_at n (taken_bucket item)) bs ≡ b ∷ bs
    by_test true e same = absurd (hits (times n (numbers_of bs)) e h)
      where
        hits : (k : ℕ) → (b.tag.number == n) ≡ true → cond (b.tag.number == n) 1 0 + k ≡ 0 → ⊥
        hits k e h = grind arith
    by_test false e same = ap (λ (cs : List Bucket). b ∷ cs) same

-- a shelf of whose buckets none has a number doesn't change
shelf-same : (n item : ℕ) (s : BucketShelf) → times n (numbers_of s.buckets) ≡ 0 → changed_in n (taken_bucket item) s ≡ s
shelf-same n item s h = ap (λ (bs : List Bucket). let same : BucketShelf = record { column = s.column; height = s.height; bucket_width = s.bucket_width; buckets = bs } in same) (buckets-same n item s.buckets h)

-- shelves of whose buckets none has a number don't change
shelves-same : (n item : ℕ) (ss : List BucketShelf) → times n (bucket_numbers ss) ≡ 0 → changed_bucket n (taken_bucket item) ss ≡ ss
shelves-same n item [] h = refl
shelves-same n item (s ∷ ss) h =
    let split = times-append n (numbers_of s.buckets) (bucket_numbers ss) in
    ap (λ (x : BucketShelf). x ∷ changed_bucket n (taken_bucket item) ss) (shelf-same n item s (omega (arith, h, split)))
    ∙ ap (λ (xs : List BucketShelf). s ∷ xs) (shelves-same n item ss (omega (arith, h, split)))

-- the buckets of a shelf are some of all
pub part-at : (k : ℕ) (ss : List BucketShelf) (number : ℕ) (s : BucketShelf) → slice_get ss number ≡ Some s → times k (numbers_of s.buckets) ≤ times k (bucket_numbers ss)
part-at k [] number s at = absurd (cc)
part-at k (x ∷ ss) zero s at =
    let same : x ≡ s = cc in
    subst (λ (y : BucketShelf). times k (numbers_of y.buckets) ≤ times k (bucket_numbers (x ∷ ss))) same (omega (arith, times-append k (numbers_of x.buckets) (bucket_numbers ss)))
part-at k (x ∷ ss) (suc number) s at = omega (arith, part-at k ss number s at, times-append k (numbers_of x.buckets) (bucket_numbers ss))

-- what is kept of the shelves of which one gave an item
kept-taken : (frame : Frame) (before ss : List BucketShelf) (number n item room : ℕ) (s : BucketShelf) → slice_get ss number ≡ Some s → times n (numbers_of s.buckets) ≡ 1
    → times n (bucket_numbers ss) ≤ 1 → room ≡ widest_room s.bucket_width (map (changed_at n (taken_bucket item)) s.buckets)
    → changed_by (Some number) (given_from room) (kept_shelves frame before ss) ≡ kept_shelves frame before (changed_bucket n (taken_bucket item) ss)
kept-taken frame before [] number n item room s at here once widest = absurd (cc)
kept-taken frame before (x ∷ ss) zero n item room s at here once widest =
    let same : x ≡ s = cc in
    let split = times-append n (numbers_of x.buckets) (bucket_numbers ss) in
    let own : times n (numbers_of x.buckets) ≡ 1 = rw same here in
    let rest : changed_bucket n (taken_bucket item) ss ≡ ss = shelves-same n item ss (omega (arith, own, once, split)) in
    ap (λ (k : KeptShelf). k ∷ kept_shelves frame (before ++ x ∷ []) ss)
    (changed x own (widest ∙ ap (λ (y : BucketShelf). widest_room y.bucket_width (map (changed_at n (taken_bucket item)) y.buckets)) (sym same)))
    ∙ ap (λ (ks : List KeptShelf). kept_shelf frame before (changed_in n (taken_bucket item) x) ∷ ks)
    (kept-heights frame (before ++ x ∷ []) (before ++ changed_in n (taken_bucket item) x ∷ []) ss
    (λ column. column_height-append column before (x ∷ []) ∙ sym (column_height-append column before (changed_in n (taken_bucket item) x ∷ [])))
    ∙ ap (kept_shelves frame (before ++ changed_in n (taken_bucket item) x ∷ [])) (sym rest))
  where
    kept : ℕ → ℕ → Option ℕ → BucketShelf → KeptShelf
    kept live widest_ first y = record (kept_shelf frame before y) { live_items = live; widest_room = widest_; shelf = record (kept_shelf frame before y).shelf { first_bucket = first } }

    changed : (y : BucketShelf) → times n (numbers_of y.buckets) ≡ 1 → room ≡ widest_room y.bucket_width (map (changed_at n (taken_bucket item)) y.buckets)
        → given_from room (kept_shelf frame before y) ≡ kept_shelf frame before (changed_in n (taken_bucket item) y)
    changed y own wide =
        ap (λ (r : ℕ). kept (live_items y.buckets + 1) r (first_link y.buckets) y) wide
        ∙ ap (λ (l : ℕ). kept l (widest_room y.bucket_width (map (changed_at n (taken_bucket item)) y.buckets)) (first_link y.buckets) y) (sym (live-taken n item y.buckets ∙ ap (λ (k : ℕ). live_items y.buckets + k) own))
        ∙ ap (λ (f : Option ℕ). kept (live_items (map (changed_at n (taken_bucket item)) y.buckets)) (widest_room y.bucket_width (map (changed_at n (taken_bucket item)) y.buckets)) f y) (sym (first-taken n item y.buckets))
kept-taken frame before (x ∷ ss) (suc number) n item room s at here once widest =
    let split = times-append n (numbers_of x.buckets) (bucket_numbers ss) in
    let part = part-at n ss number s at in
    let same : changed_in n (taken_bucket item) x ≡ x = shelf-same n item x (omega (arith, part, here, once, split)) in
    ap (λ (ks : List KeptShelf). kept_shelf frame before x ∷ ks) (kept-taken frame (before ++ x ∷ []) ss number n item room s at here (omega (arith, once, split)) widest)
    ∙ ap (λ (y : BucketShelf). kept_shelf frame before y ∷ kept_shelves frame (before ++ y ∷ []) (changed_bucket n (taken_bucket item) ss)) (sym same)

-- records after an item was taken from a bucket of a shelf
pub spells-taken : (frame : Frame) (stored : Stored) (unused : List ℕ) (ss : List BucketShelf) (number n item : ℕ) (s : BucketShelf) → slice_get ss number ≡ Some s
    → times n (numbers_of s.buckets) ≡ 1 → times n (bucket_numbers ss) ≤ 1 → buckets_in_use ss ≤ most_buckets → times n unused ≡ 0 → Spells frame stored unused ss
    → Spells frame (stored_taken number n item stored) unused (changed_bucket n (taken_bucket item) ss)
spells-taken frame stored unused ss number n item s at here once few fresh spells =
    let records = changed_by (Some n) (taken_record item) stored.buckets in
    let new = changed_bucket n (taken_bucket item) ss in
    let spelled = shelves-taken stored.buckets n item 0 ss spells.buckets in
    let first : first_bucket_of stored.shelves number ≡ first_link s.buckets =
    ap (λ (ks : List KeptShelf). first_bucket_of ks number) spells.shelves
    ∙ ap (λ (r : Option KeptShelf). option_map_or (λ (kept : KeptShelf). kept.shelf.first_bucket) r None) (kept-at frame [] ss number ∙ ap (option_map (kept_shelf frame _)) at) in
    let own : AreBucketsSpelled records (0 + number) s.bucket_width (map (changed_at n (taken_bucket item)) s.buckets) =
    buckets-taken stored.buckets n item (0 + number) s.bucket_width s.buckets (spelled-at stored.buckets 0 ss number s spells.buckets at) in
    let room : widest_from most_buckets records (first_bucket_of stored.shelves number) ≡ widest_room s.bucket_width (map (changed_at n (taken_bucket item)) s.buckets) =
    ap (widest_from most_buckets records) (first ∙ sym (first-taken n item s.buckets))
    ∙ widest-read records (0 + number) s.bucket_width most_buckets (map (changed_at n (taken_bucket item)) s.buckets) (omega (arith, length-same s.buckets, few-at ss number s at, few)) own in
    let numbers : bucket_numbers new ≡ bucket_numbers ss = bucket_numbers-changed n (taken_bucket item) (take-keeps item) ss in
    let long : length records ≡ length stored.buckets = length-changed_by (taken_record item) stored.buckets (Some n) in
    record {
      shelves = ap (changed_by (Some number) (given_from (widest_from most_buckets records (first_bucket_of stored.shelves number)))) spells.shelves
          ∙ kept-taken frame [] ss number n item _ s at here once room;
      buckets = spelled;
      has_unused = subst (λ (ns : List ℕ). HasUnused records stored.unused ns unused) (sym numbers) (record {
        list = Leads-frame (next_of stored.buckets) (next_of records) unused stored.unused None
            (λ k stands. link_at-same (λ (bucket : LinkedBucket). bucket.next) stored.buckets records k (map-changed_by (λ (bucket : LinkedBucket). bucket.next) (taken_record item) stored.buckets (Some n) (λ x. refl)))
            spells.has_unused.list;
        once = λ k. rw long (spells.has_unused.once k);
        count = omega (arith, long, spells.has_unused.count);
        few = omega (arith, long, spells.has_unused.few);
        idle = idle-kept (taken_record item) stored.buckets n unused fresh spells.has_unused.idle;
      });
    }
  where
    length-same : (bs : List Bucket) → length (map (changed_at n (taken_bucket item)) bs) ≡ length bs
    length-same [] = refl
    length-same (b ∷ bs) = ap suc (length-same bs)
