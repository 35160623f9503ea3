-- What is found by following links is what is found among the buckets that the records spell.
use Rattle.std.proofs.Common.{◌≡◌, ℕ, zero, suc, ◌-◌, ◌≤◌, Bool, true, false, cond, Option, None, Some, List, [], ◌∷◌, ◌++◌, length, refl, ap, arith, ◌∙◌}
use Rattle.std.proofs.lemmas.Bool.Decides.{nat_tests}
use Rattle.std.specs.Option.{option_map_or}
use Rattle.std.specs.Prelude.{find, is_some, max, nat_le, nat_lt, option_and_then, option_map, ◌&&◌, ◌==◌}
use Rattle.bucketed_model.specs.Picking.{has_room, is_exact}
use Rattle.bucketed_model.specs.State.{Bucket, BucketShelf}
use Rattle.bucketed_records.specs.declared.records.LinkedBucket.{LinkedBucket}
use Rattle.bucketed_records.specs.Private.Store.{record_room, AreBucketsSpelled, first_link, record_of, room_of, widest_room}
use Rattle.bucket_index.specs.declared.searching.Wanted.{Wanted}
use Rattle.bucket_index.specs.Private.Searching.{first_from, is_wanted, widest_from}

-- the number of a bucket
abbrev pub number_of : Bucket → ℕ
number_of bucket = bucket.tag.number

-- the first record that is wanted is that of the first bucket that passes the test
pub first-found : (wanted : Wanted) (test : Bucket → Bool) (records : List LinkedBucket) (number width : ℕ)
    → ((next : Option ℕ) (b : Bucket) → is_wanted wanted (record_of number width next b) ≡ test b)
    → (steps : ℕ) (bs : List Bucket) → length bs ≤ steps → AreBucketsSpelled records number width bs
    → first_from steps wanted records (first_link bs) ≡ option_map number_of (find test bs)
first-found wanted test records number width same zero [] enough h = refl
first-found wanted test records number width same (suc steps) [] enough h = refl
first-found wanted test records number width same zero (b ∷ bs) enough h = absurd (omega arith)
first-found wanted test records number width same (suc steps) (b ∷ bs) enough h =
    ap (λ (r : Option LinkedBucket). option_and_then (λ (bucket : LinkedBucket). cond (is_wanted wanted bucket) (Some b.tag.number) (first_from steps wanted records bucket.next)) r) h.0
    ∙ ap (λ (t : Bool). cond t (Some b.tag.number) (first_from steps wanted records (first_link bs))) (same (first_link bs) b)
    ∙ by_test (test b) (first_from steps wanted records (first_link bs)) (first-found wanted test records number width same steps bs (omega arith) h.1)
  where
    by_test : (t : Bool) (rest : Option ℕ) → rest ≡ option_map number_of (find test bs) → cond t (Some b.tag.number) rest ≡ option_map number_of (cond t (Some b) (find test bs))
    by_test true rest e = refl
    by_test false rest e = e

-- the widest room by links is that of the buckets
pub widest-read : (records : List LinkedBucket) (number width steps : ℕ) (bs : List Bucket) → length bs ≤ steps → AreBucketsSpelled records number width bs
    → widest_from steps records (first_link bs) ≡ widest_room width bs
widest-read records number width zero [] enough h = refl
widest-read records number width (suc steps) [] enough h = refl
widest-read records number width zero (b ∷ bs) enough h = absurd (omega arith)
widest-read records number width (suc steps) (b ∷ bs) enough h =
    ap (λ (r : Option LinkedBucket). option_map_or (λ (bucket : LinkedBucket). max (record_room bucket) (widest_from steps records bucket.next)) r 0) h.0
    ∙ ap (λ (w : ℕ). max (room_of width b) w) (widest-read records number width steps bs (omega arith) h.1)

-- a width fits the widest room where some bucket has room for it
pub widest-roomy : (item : ℕ) (shelf : BucketShelf) (bs : List Bucket) → 1 ≤ item
    → nat_le item (widest_room shelf.bucket_width bs) ≡ is_some (find (has_room item shelf) bs)
widest-roomy item shelf [] some = grind (arith, nat_tests)
widest-roomy item shelf (b ∷ bs) some = step (nat_lt b.given 4095) (shelf.bucket_width - b.used) (widest_room shelf.bucket_width bs) (find (has_room item shelf) bs) (widest-roomy item shelf bs some)
  where
    step : (few : Bool) (free rest : ℕ) (later : Option Bucket) → nat_le item rest ≡ is_some later
        → nat_le item (max (cond few free 0) rest) ≡ is_some (cond (nat_le item free && few) (Some b) later)
    step true free rest later e = by_test (nat_le item free) refl
      where
        by_test : (t : Bool) → nat_le item free ≡ t → nat_le item (max free rest) ≡ is_some (cond (t && true) (Some b) later)
        by_test true k = grind (arith, nat_tests)
        by_test false k = let less : nat_le item (max free rest) ≡ nat_le item rest = grind (arith, nat_tests) in less ∙ e
    step false free rest later e = by_test (nat_le item free) refl
      where
        by_test : (t : Bool) → nat_le item free ≡ t → nat_le item (max 0 rest) ≡ is_some (cond (t && false) (Some b) later)
        by_test true k = let same : max 0 rest ≡ rest = omega arith in rw same e
        by_test false k = let same : max 0 rest ≡ rest = omega arith in rw same e

-- where no bucket has room, none is exact
pub exact-roomy : (item : ℕ) (shelf : BucketShelf) (bs : List Bucket) → find (has_room item shelf) bs ≡ None → find (is_exact item shelf) bs ≡ None
exact-roomy item shelf [] h = refl
exact-roomy item shelf (b ∷ bs) h = by_test (has_room item shelf b) refl h (exact-roomy item shelf bs)
  where
    by_test : (t : Bool) → has_room item shelf b ≡ t → cond t (Some b) (find (has_room item shelf) bs) ≡ None
        → (find (has_room item shelf) bs ≡ None → find (is_exact item shelf) bs ≡ None)
        → cond (t && (shelf.bucket_width - b.used == item)) (Some b) (find (is_exact item shelf) bs) ≡ None
    by_test true e none later = absurd (cc)
    by_test false e none later = later none

-- the records of the last buckets
pub spelled-back : (records : List LinkedBucket) (number width : ℕ) (front back : List Bucket) → AreBucketsSpelled records number width (front ++ back) → AreBucketsSpelled records number width back
spelled-back records number width [] back h = h
spelled-back records number width (b ∷ front) back h = spelled-back records number width front back h.1
