-- Records spell the shelves after an item was returned to its bucket.
use Rattle.std.proofs.Common.{◌≡◌, ◌≢◌, ℕ, suc, ◌+◌, ◌-◌, ◌%◌, ◌≤◌, Bool, true, false, cond, max, Option, Some, List, [], ◌∷◌, ◌++◌, map, refl, ap, arith, sym, ◌∙◌, ◌==◌}
use Rattle.std.proofs.lemmas.Bool.{cond_both, eqb-true}
use Rattle.std.specs.Prelude.{slice_get, option_map, nat_le, nat_lt}
use Rattle.std.specs.List.{AllByRecursion}
use Rattle.etagere_links.specs.Edits.{changed_by}
use Rattle.etagere_links.proofs.RecordChanges.{get-changed_by, get-changed_by-other}
use Rattle.bucketed_model.specs.Returning.{emptied_bucket, lessened_bucket, returned_bucket}
use Rattle.bucketed_model.specs.State.{Bucket, BucketShelf, changed_at, changed_bucket}
use Rattle.bucketed_model.proofs.Validity.Changed.{EachBucket, Keeps}
use Rattle.bucketed_records.specs.declared.records.LinkedBucket.{LinkedBucket}
use Rattle.bucketed_records.specs.Private.Store.{AreBucketsSpelled, AreShelvesSpelled, first_link, live_items, record_of, room_of, widest_room}
use Rattle.bucketed_store.specs.Private.Returns.{returned_record}

-- an edit of a bucket's record spells the changed bucket
abbrev pub SpellsChange : ℕ → (LinkedBucket → LinkedBucket) → (Bucket → Bucket) → BucketShelf → Bucket → Type 0
SpellsChange number edit change shelf bucket =
    bucket.tag.number ≡ number → (n : ℕ) (next : Option ℕ)
    → edit (record_of n shelf.bucket_width next bucket) ≡ record_of n shelf.bucket_width next (change bucket)

-- the first of buckets has the number that it had
pub first-changed : (number : ℕ) (change : Bucket → Bucket) → Keeps change → (bs : List Bucket) → first_link (map (changed_at number change) bs) ≡ first_link bs
first-changed number change keeps [] = refl
first-changed number change keeps (b ∷ bs) =
    cond_both (b.tag.number == number) (change b) b (λ (c : Bucket). Some c.tag.number ≡ Some b.tag.number) (λ _. ap (λ (n : ℕ). Some n) (keeps.number b)) (λ _. refl)

-- records spell the buckets of a shelf where one was changed
buckets-changed : (records : List LinkedBucket) (n number : ℕ) (edit : LinkedBucket → LinkedBucket) (change : Bucket → Bucket) (x : BucketShelf) → Keeps change → (bs : List Bucket)
    → AllByRecursion (SpellsChange number edit change x) bs → AreBucketsSpelled records n x.bucket_width bs
    → AreBucketsSpelled (changed_by (Some number) edit records) n x.bucket_width (map (changed_at number change) bs)
buckets-changed records n number edit change x keeps [] each spelled = tt
buckets-changed records n number edit change x keeps (b ∷ bs) each spelled = (
  by_test (b.tag.number == number) refl,
  buckets-changed records n number edit change x keeps bs each.1 spelled.1,
)
  where
    link : first_link (map (changed_at number change) bs) ≡ first_link bs
    link = first-changed number change keeps bs

    by_test : (t : Bool) → (b.tag.number == number) ≡ t
        → slice_get (changed_by (Some number) edit records) (cond t (change b) b).tag.number ≡ Some (record_of n x.bucket_width (first_link (map (changed_at number change) bs)) (cond t (change b) b))
    by_test true e =
        let same : b.tag.number ≡ number = eqb-true b.tag.number number e in
        ap (slice_get (changed_by (Some number) edit records)) (keeps.number b)
        ∙ get-changed_by edit records (Some number) b.tag.number (ap (λ (k : ℕ). Some k) (sym same))
        ∙ ap (option_map edit) spelled.0
        ∙ ap (λ (r : LinkedBucket). Some r) (each.0 same n (first_link bs))
        ∙ ap (λ (l : Option ℕ). Some (record_of n x.bucket_width l (change b))) (sym link)
    by_test false e =
        let other : Some number ≢ Some b.tag.number = λ same. (let equal : number ≡ b.tag.number = cc in differs number b.tag.number equal e) in
        get-changed_by-other edit records (Some number) b.tag.number other
        ∙ spelled.0
        ∙ ap (λ (l : Option ℕ). Some (record_of n x.bucket_width l b)) (sym link)
      where
        differs : (i j : ℕ) → i ≡ j → (j == i) ≡ false → ⊥
        differs i j same h = grind arith

-- records spell shelves where a bucket was changed
pub shelves-changed-spelled : (records : List LinkedBucket) (n number : ℕ) (edit : LinkedBucket → LinkedBucket) (change : Bucket → Bucket) → Keeps change → (xs : List BucketShelf)
    → EachBucket (SpellsChange number edit change) xs → AreShelvesSpelled records n xs
    → AreShelvesSpelled (changed_by (Some number) edit records) n (changed_bucket number change xs)
shelves-changed-spelled records n number edit change keeps [] each spelled = tt
shelves-changed-spelled records n number edit change keeps (x ∷ xs) each spelled = (
  buckets-changed records n number edit change x keeps x.buckets each.0 spelled.0,
  shelves-changed-spelled records (suc n) number edit change keeps xs each.1 spelled.1,
)

-- a returned record spells the bucket after the return
pub returned-spelled : (n width : ℕ) (next : Option ℕ) (b : Bucket) → returned_record width (record_of n width next b) ≡ record_of n width next (returned_bucket b)
returned-spelled n width next b = by_test (nat_le b.live 1)
  where
    by_test : (t : Bool)
        → cond t (record { x = b.place; free_space = width; next = next; refcount = 0; item_count = 0; shelf = n; generation = (b.tag.generation + 1) % 256 })
        (record { x = b.place; free_space = width - b.used; next = next; refcount = b.live - 1; item_count = b.given; shelf = n; generation = b.tag.generation })
        ≡ record_of n width next (cond t (emptied_bucket b) (lessened_bucket b))
    by_test true = ap (λ (w : ℕ). record { x = b.place; free_space = w; next = next; refcount = 0; item_count = 0; shelf = n; generation = (b.tag.generation + 1) % 256 }) (omega arith)
    by_test false = refl

-- the live items of buckets end to end
live-append : (xs ys : List Bucket) → live_items (xs ++ ys) ≡ live_items xs + live_items ys
live-append [] ys = omega arith
live-append (x ∷ xs) ys = omega (arith, live-append xs ys)

-- one item less of a bucket is one less of its shelf
pub live-less : (left : List Bucket) (b new : Bucket) (right : List Bucket) → new.live ≡ b.live - 1 → 1 ≤ b.live
    → live_items (left ++ b ∷ right) - 1 ≡ live_items (left ++ new ∷ right)
live-less left b new right less some = omega (arith, live-append left (b ∷ right), live-append left (new ∷ right), less, some)

-- no bucket can give more than its width
room-le : (width : ℕ) (b : Bucket) → room_of width b ≤ width
room-le width b = cond_both (nat_lt b.given 4095) (width - b.used) 0 (λ (n : ℕ). n ≤ width) (λ _. omega arith) (λ _. omega arith)

-- nor can buckets
widest-le : (width : ℕ) (bs : List Bucket) → widest_room width bs ≤ width
widest-le width [] = omega arith
widest-le width (b ∷ bs) = omega (arith, room-le width b, widest-le width bs)

-- where a bucket can give all its width, that is the most
pub widest-all : (width : ℕ) (left : List Bucket) (b : Bucket) (right : List Bucket) → room_of width b ≡ width → widest_room width (left ++ b ∷ right) ≡ width
widest-all width [] b right all = omega (arith, all, widest-le width right)
widest-all width (x ∷ left) b right all = omega (arith, room-le width x, widest-all width left b right all)

-- a bucket that can give what another could takes its place
pub widest-same : (width : ℕ) (left : List Bucket) (b new : Bucket) (right : List Bucket) → room_of width new ≡ room_of width b
    → widest_room width (left ++ new ∷ right) ≡ widest_room width (left ++ b ∷ right)
widest-same width [] b new right same = rw same refl
widest-same width (x ∷ left) b new right same = ap (λ (n : ℕ). max (room_of width x) n) (widest-same width left b new right same)
