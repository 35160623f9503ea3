-- A bucket of shelves, seen between those before it and those behind it; no other has its number.
use Rattle.std.proofs.Common.{◌≡◌, ℕ, suc, ◌+◌, ◌≤◌, Bool, true, false, cond, Some, List, [], ◌∷◌, ◌++◌, take, refl, ap, arith, sym, ◌∙◌, subst, ◌==◌}
use Rattle.std.specs.Prelude.{find}
use Rattle.std.specs.List.{AllByRecursion}
use Rattle.etagere_base.proofs.EachLemmas.{Each-append, Each-weaken}
use Rattle.etagere_base.proofs.TimesLemmas.{times-append}
use Rattle.etagere_base.specs.Lists.{times}
use Rattle.bucketed_model.specs.Picking.{Spot}
use Rattle.bucketed_model.specs.State.{Bucket, BucketShelf, bucket_numbers}
use Rattle.bucketed_model.proofs.Validity.Changed.{EachBucket}
use Rattle.bucketed_model.proofs.Shelving.Shelves.{bucket_numbers-append, numbers_of}

-- a spot's shelf stands between others, and its bucket between others of the shelf
pub record IsSpot (shelves : List BucketShelf) (spot : Spot) : Type 0 where
  pub front : List BucketShelf
  pub back : List BucketShelf
  pub left : List Bucket
  pub right : List Bucket
  pub before : take spot.number shelves ≡ front
  pub whole : shelves ≡ front ++ spot.shelf ∷ back
  pub buckets : spot.shelf.buckets ≡ left ++ spot.bucket ∷ right

-- an element that is found stands between others, and passes the test
pub record IsFound {X : Type 0} (test : X → Bool) (xs : List X) (x : X) : Type 0 where
  pub front : List X
  pub back : List X
  pub whole : xs ≡ front ++ x ∷ back
  pub passes : test x ≡ true

-- what is found stands there
pub find-found : {X : Type 0} (test : X → Bool) (xs : List X) (x : X) → find test xs ≡ Some x → IsFound test xs x
find-found test [] x h = absurd (cc)
find-found test (y ∷ ys) x h = by_test (test y) refl (find-found test ys x) h
  where
    by_test : (b : Bool) → test y ≡ b → (find test ys ≡ Some x → IsFound test ys x) → cond b (Some y) (find test ys) ≡ Some x → IsFound test (y ∷ ys) x
    by_test true e later h =
        let same : y ≡ x = cc in
        record { front = []; back = ys; whole = ap (λ (z : _). z ∷ ys) same; passes = subst (λ (z : _). test z ≡ true) same e }
    by_test false e later h =
        let found = later h in
        record { front = y ∷ found.front; back = found.back; whole = ap (λ (zs : List _). y ∷ zs) found.whole; passes = found.passes }

-- a bucket has another number
abbrev pub IsOther : ℕ → Bucket → Type 0
IsOther n bucket = bucket.tag.number ≡ n → ⊥

-- where a number doesn't stand among those of buckets, each has another
pub others-buckets : (n : ℕ) (bs : List Bucket) → times n (numbers_of bs) ≡ 0 → AllByRecursion (IsOther n) bs
others-buckets n [] h = tt
others-buckets n (b ∷ bs) h = (
  λ (same : b.tag.number ≡ n). absurd (hits b.tag.number n (times n (numbers_of bs)) same h),
  others-buckets n bs (omega (arith, h)),
)
  where
    hits : (m n k : ℕ) → m ≡ n → cond (m == n) 1 0 + k ≡ 0 → ⊥
    hits m n k e h = grind arith

-- where it doesn't stand among those of shelves, each bucket of each has another
pub others-shelves : (n : ℕ) (xs : List BucketShelf) → times n (bucket_numbers xs) ≡ 0 → EachBucket (λ (_ : BucketShelf). IsOther n) xs
others-shelves n [] h = tt
others-shelves n (x ∷ xs) h =
    let sum = times-append n (numbers_of x.buckets) (bucket_numbers xs) in
    (others-buckets n x.buckets (omega (arith, sum, h)), others-shelves n xs (omega (arith, sum, h)))

-- how often the number of a bucket between others stands among theirs
pub times-here : (left : List Bucket) (b : Bucket) (right : List Bucket)
    → times b.tag.number (numbers_of (left ++ b ∷ right)) ≡ suc (times b.tag.number (numbers_of left) + times b.tag.number (numbers_of right))
times-here [] b right = one b.tag.number (times b.tag.number (numbers_of right))
  where
    one : (n k : ℕ) → cond (n == n) 1 0 + k ≡ suc (0 + k)
    one n k = grind arith
times-here (y ∷ left) b right = omega (arith, times-here left b right)

-- the number of a spot's bucket stands nowhere else
pub record IsAlone (spot : Spot) (front back : List BucketShelf) (left right : List Bucket) : Type 0 where
  pub before : times spot.bucket.tag.number (bucket_numbers front) ≡ 0
  pub behind : times spot.bucket.tag.number (bucket_numbers back) ≡ 0
  pub beside : times spot.bucket.tag.number (numbers_of left) ≡ 0
  pub past : times spot.bucket.tag.number (numbers_of right) ≡ 0

-- numbers that stand once at most
pub spot-alone : (shelves : List BucketShelf) (spot : Spot) (at : IsSpot shelves spot) → ((n : ℕ) → times n (bucket_numbers shelves) ≤ 1)
    → IsAlone spot at.front at.back at.left at.right
spot-alone shelves spot at once =
    let n = spot.bucket.tag.number in
    let total : times n (bucket_numbers (at.front ++ spot.shelf ∷ at.back)) ≤ 1 = subst (λ (xs : List BucketShelf). times n (bucket_numbers xs) ≤ 1) at.whole (once n) in
    let ends = bucket_numbers-append n at.front (spot.shelf ∷ at.back) in
    let own = times-append n (numbers_of spot.shelf.buckets) (bucket_numbers at.back) in
    let inside : times n (numbers_of spot.shelf.buckets) ≡ suc (times n (numbers_of at.left) + times n (numbers_of at.right))
    = ap (λ (bs : List Bucket). times n (numbers_of bs)) at.buckets ∙ times-here at.left spot.bucket at.right in
    record {
      before = omega (arith, total, ends, own, inside);
      behind = omega (arith, total, ends, own, inside);
      beside = omega (arith, total, ends, own, inside);
      past = omega (arith, total, ends, own, inside);
    }

-- a fact of a bucket is one of each that has its number, since no other has
pub each-numbered : (P : BucketShelf → Bucket → Type 0) (shelves : List BucketShelf) (spot : Spot) → IsSpot shelves spot
    → ((n : ℕ) → times n (bucket_numbers shelves) ≤ 1) → P spot.shelf spot.bucket
    → EachBucket (λ (shelf : BucketShelf) (bucket : Bucket). bucket.tag.number ≡ spot.bucket.tag.number → P shelf bucket) shelves
each-numbered P shelves spot at once fact =
    let n = spot.bucket.tag.number in
    let alone = spot-alone shelves spot at once in
    subst (EachBucket (λ (shelf : BucketShelf) (bucket : Bucket). bucket.tag.number ≡ n → P shelf bucket)) (sym at.whole)
    (Each-append _ at.front (spot.shelf ∷ at.back) (others n at.front (others-shelves n at.front alone.before)) (
      subst (AllByRecursion (λ (bucket : Bucket). bucket.tag.number ≡ n → P spot.shelf bucket)) (sym at.buckets)
          (Each-append _ at.left (spot.bucket ∷ at.right) (beside n spot.shelf at.left (others-buckets n at.left alone.beside))
          ((λ _. fact), beside n spot.shelf at.right (others-buckets n at.right alone.past))),
      others n at.back (others-shelves n at.back alone.behind),
    ))
  where
    beside : (n : ℕ) (shelf : BucketShelf) (bs : List Bucket) → AllByRecursion (IsOther n) bs → AllByRecursion (λ (bucket : Bucket). bucket.tag.number ≡ n → P shelf bucket) bs
    beside n shelf bs each = Each-weaken (IsOther n) _ bs (λ (bucket : Bucket) (other : IsOther n bucket) (same : bucket.tag.number ≡ n). absurd (other same)) each

    others : (n : ℕ) (xs : List BucketShelf) → EachBucket (λ (_ : BucketShelf). IsOther n) xs → EachBucket (λ (shelf : BucketShelf) (bucket : Bucket). bucket.tag.number ≡ n → P shelf bucket) xs
    others n xs each = Each-weaken _ _ xs (λ (x : BucketShelf) (e : AllByRecursion (IsOther n) x.buckets). beside n x x.buckets e) each
