-- The record that an id names tells whether the id is known.
use Rattle.std.proofs.Common.{◌≡◌, ◌≢◌, ℕ, zero, suc, ◌+◌, ◌/◌, ◌<◌, ◌≤◌, Bool, true, false, ◌&&◌, ◌||◌, cond, Option, None, Some, List, [], ◌∷◌, ◌++◌, length, refl, ap, arith, subst, sym, ◌∙◌, ◌==◌}
use Rattle.std.proofs.lemmas.Bool.{eq-eqb, eqb-true}
use Rattle.std.proofs.lemmas.List.Folds.{list_any-append}
use Rattle.std.proofs.lemmas.Option.{slice_get_within}
use Rattle.std.specs.List.{AllByRecursion, list_any}
use Rattle.std.specs.Option.{option_map_or}
use Rattle.std.specs.Prelude.{slice_get, nat_lt}
use Rattle.etagere_base.proofs.EachLemmas.{Each-weaken, list_any-none}
use Rattle.etagere_base.proofs.TimesLemmas.{times-append}
use Rattle.etagere_base.specs.Lists.{times}
use Rattle.bucketed_model.specs.Returning.{is_giver, tag_of}
use Rattle.bucketed_model.specs.State.{Bucket, BucketShelf, bucket_numbers, generation_unit}
use Rattle.bucketed_model.proofs.Shelving.Shelves.{numbers_of}
use Rattle.bucketed_model.proofs.Validity.Changed.{EachBucket}
use Rattle.bucketed_model.proofs.Validity.Spots.{IsOther, others-buckets, others-shelves, spot-alone}
use Rattle.bucketed_records.specs.declared.records.LinkedBucket.{LinkedBucket}
use Rattle.bucketed_records.specs.Private.Store.{AreShelvesSpelled, HasUnused, first_link, record_of}
use Rattle.bucketed_records.specs.StandsFor.{live_of}
use Rattle.bucketed_store.specs.Private.Returns.{gives_item, is_known_in}
use Rattle.bucketed_store.proofs.Emptying.SpelledSpots.{HasBucket, has-bucket, is-spot, record-at, spot_at}

-- some bucket of a shelf has given the item
abbrev pub gives_in : ℕ → BucketShelf → Bool
gives_in id shelf = list_any (is_giver id) shelf.buckets

-- a bucket with another number hasn't
other-gives : (id : ℕ) (b : Bucket) → IsOther (tag_of id).number b → is_giver id b ≡ false
other-gives id b other = by_test (differs (tag_of id).number b.tag.number (λ e. other (sym e)))
  where
    differs : (m n : ℕ) → m ≢ n → (m == n) ≡ false
    differs m n h = grind arith

    by_test : ((tag_of id).number == b.tag.number) ≡ false → is_giver id b ≡ false
    by_test e = rw e refl

-- nor have such buckets
others-give : (id : ℕ) (bs : List Bucket) → AllByRecursion (IsOther (tag_of id).number) bs → list_any (is_giver id) bs ≡ false
others-give id bs others = list_any-none (is_giver id) bs (Each-weaken (IsOther (tag_of id).number) (λ (b : Bucket). is_giver id b ≡ false) bs (other-gives id) others)

-- nor have shelves of such
others-know : (id : ℕ) (xs : List BucketShelf) → EachBucket (λ (_ : BucketShelf). IsOther (tag_of id).number) xs → list_any (gives_in id) xs ≡ false
others-know id xs others =
    list_any-none (gives_in id) xs (Each-weaken (λ (x : BucketShelf). AllByRecursion (IsOther (tag_of id).number) x.buckets) (λ (x : BucketShelf). gives_in id x ≡ false) xs (λ x h. others-give id x.buckets h) others)

-- a fact of each number is one of a number that stands there
each-times : (P : ℕ → Type 0) (ns : List ℕ) (k : ℕ) → AllByRecursion P ns → 1 ≤ times k ns → P k
each-times P [] k each stands = absurd (omega (arith, stands))
each-times P (n ∷ ns) k each stands = by_test (n == k) refl stands (each-times P ns k each.1)
  where
    by_test : (t : Bool) → (n == k) ≡ t → 1 ≤ cond t 1 0 + times k ns → (1 ≤ times k ns → P k) → P k
    by_test true e h rest = subst P (eqb-true n k e) each.0
    by_test false e h rest = rest (omega (arith, h))

-- a record with nothing live has given no item that is known
idle-gives : (id : ℕ) (r : LinkedBucket) → r.refcount ≡ 0 → gives_item id r ≡ false
idle-gives id r none = rw none (no (id / generation_unit == r.generation))
  where
    no : (t : Bool) → (t && false) ≡ false
    no true = refl
    no false = refl

-- what stands once below a count stands there
once-there : (k count n : ℕ) → k < count → n ≡ cond (nat_lt k count) 1 0 → 1 ≤ n
once-there k count n within once = grind arith

-- a record of none of the shelves' buckets is no known one
pub unused-knows : (records : List LinkedBucket) (top : Option ℕ) (used unused : List ℕ) (id : ℕ) → HasUnused records top used unused
    → times (tag_of id).number used ≡ 0 → is_known_in records id ≡ false
unused-knows records top used unused id has_unused none = by_record (slice_get records (tag_of id).number) refl
  where
    by_record : (r : Option LinkedBucket) → slice_get records (tag_of id).number ≡ r → option_map_or (gives_item id) r false ≡ false
    by_record None e = refl
    by_record (Some r) e =
        let k = (tag_of id).number in
        let within : k < length records = slice_get_within records k r e in
        let stands = once-there k (length records) (times k (used ++ unused)) within (has_unused.once k) in
        let idle = each-times (λ (n : ℕ). live_of records n ≡ 0) unused k has_unused.idle (omega (arith, stands, none, times-append k used unused)) in
        let count : live_of records k ≡ r.refcount = ap (λ (o : Option LinkedBucket). option_map_or (λ (s : LinkedBucket). s.refcount) o 0) e in
        idle-gives id r (omega (arith, count, idle))

-- a bucket's record has given what the bucket has
record-gives : (id n width : ℕ) (next : Option ℕ) (b : Bucket) → b.tag.number ≡ (tag_of id).number → is_giver id b ≡ gives_item id (record_of n width next b)
record-gives id n width next b same =
    let e : ((tag_of id).number == b.tag.number) ≡ true = eq-eqb (tag_of id).number b.tag.number (sym same) in
    rw e refl

-- where one in the middle decides, no other passes
any-middle : {X : Type 0} (test : X → Bool) (front : List X) (x : X) (back : List X) → list_any test front ≡ false → list_any test back ≡ false
    → list_any test (front ++ x ∷ back) ≡ test x
any-middle test front x back none_front none_back =
    list_any-append test front (x ∷ back) ∙ ap (λ (t : Bool). t || list_any test (x ∷ back)) none_front
    ∙ ap (λ (t : Bool). test x || t) none_back ∙ or-false (test x)
  where
    or-false : (t : Bool) → (t || false) ≡ t
    or-false true = refl
    or-false false = refl

-- an id is known where its record has given its item
pub known-records : (records : List LinkedBucket) (top : Option ℕ) (unused : List ℕ) (xs : List BucketShelf) (id : ℕ) → AreShelvesSpelled records 0 xs
    → HasUnused records top (bucket_numbers xs) unused → ((n : ℕ) → times n (bucket_numbers xs) ≤ 1)
    → is_known_in records id ≡ list_any (gives_in id) xs
known-records records top unused xs id spelled has_unused once = by_count (times (tag_of id).number (bucket_numbers xs)) refl
  where
    by_count : (n : ℕ) → times (tag_of id).number (bucket_numbers xs) ≡ n → is_known_in records id ≡ list_any (gives_in id) xs
    by_count zero e =
        unused-knows records top (bucket_numbers xs) unused id has_unused e ∙ sym (others-know id xs (others-shelves (tag_of id).number xs e))
    by_count (suc n) e =
        let k = (tag_of id).number in
        let has : HasBucket k xs = has-bucket k xs (omega (arith, e)) in
        let at = record-at records k xs has spelled in
        let alone = spot-alone xs (spot_at has) (is-spot k xs has) once in
        let m = has.bucket.tag.number in
        let turn : (ns : List ℕ) → times m ns ≡ 0 → times k ns ≡ 0 = λ ns h. subst (λ (j : ℕ). times j ns ≡ 0) has.same h in
        let inside = any-middle (is_giver id) has.left has.bucket has.right
        (others-give id has.left (others-buckets k has.left (turn (numbers_of has.left) alone.beside)))
        (others-give id has.right (others-buckets k has.right (turn (numbers_of has.right) alone.past))) in
        let around = any-middle (gives_in id) has.front has.shelf has.back
        (others-know id has.front (others-shelves k has.front (turn (bucket_numbers has.front) alone.before)))
        (others-know id has.back (others-shelves k has.back (turn (bucket_numbers has.back) alone.behind))) in
        ap (λ (o : Option LinkedBucket). option_map_or (gives_item id) o false) at
        ∙ sym (record-gives id (length has.front) has.shelf.bucket_width (first_link has.right) has.bucket has.same)
        ∙ sym (ap (list_any (gives_in id)) has.whole ∙ around ∙ ap (list_any (is_giver id)) has.buckets ∙ inside)
