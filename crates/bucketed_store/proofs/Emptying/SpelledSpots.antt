-- The record of a bucket that stands between others, and what is kept of a shelf that does.
use Rattle.std.proofs.Common.{◌≡◌, ℕ, zero, suc, ◌+◌, ◌≤◌, Bool, true, false, cond, Some, List, [], ◌∷◌, ◌++◌, length, refl, ap, arith, subst, ◌∙◌, ◌==◌, add-zero}
use Rattle.std.proofs.Math.Seq.{take-append_seam}
use Rattle.std.proofs.lemmas.Bool.{eqb-true}
use Rattle.std.specs.Prelude.{slice_get}
use Rattle.etagere_base.proofs.TimesLemmas.{times-append}
use Rattle.etagere_base.specs.Lists.{times}
use Rattle.bucketed_model.specs.Picking.{Spot}
use Rattle.bucketed_model.specs.State.{Bucket, BucketShelf, bucket_numbers}
use Rattle.bucketed_model.proofs.Shelving.Shelves.{numbers_of}
use Rattle.bucketed_model.proofs.Validity.Spots.{IsSpot}
use Rattle.bucketed_records.specs.declared.records.LinkedBucket.{LinkedBucket}
use Rattle.bucketed_records.specs.Private.Store.{AreBucketsSpelled, AreShelvesSpelled, first_link, record_of}

-- a bucket of a number stands in shelves
pub record HasBucket (number : ℕ) (shelves : List BucketShelf) : Type 0 where
  pub front : List BucketShelf
  pub shelf : BucketShelf
  pub back : List BucketShelf
  pub left : List Bucket
  pub bucket : Bucket
  pub right : List Bucket
  pub whole : shelves ≡ front ++ shelf ∷ back
  pub buckets : shelf.buckets ≡ left ++ bucket ∷ right
  pub same : bucket.tag.number ≡ number

-- a bucket of a number stands among buckets
record HasBucketIn (number : ℕ) (buckets : List Bucket) : Type 0 where
  left : List Bucket
  bucket : Bucket
  right : List Bucket
  whole : buckets ≡ left ++ bucket ∷ right
  same : bucket.tag.number ≡ number

-- a number that stands among those of buckets is that of one
bucket-in : (number : ℕ) (buckets : List Bucket) → 1 ≤ times number (numbers_of buckets) → HasBucketIn number buckets
bucket-in number [] stands = absurd (omega (arith, stands))
bucket-in number (b ∷ bs) stands = by_test (b.tag.number == number) refl stands (bucket-in number bs)
  where
    by_test : (t : Bool) → (b.tag.number == number) ≡ t → 1 ≤ cond t 1 0 + times number (numbers_of bs)
        → (1 ≤ times number (numbers_of bs) → HasBucketIn number bs) → HasBucketIn number (b ∷ bs)
    by_test true e stands later = record { left = []; bucket = b; right = bs; whole = refl; same = eqb-true b.tag.number number e }
    by_test false e stands later =
        let has = later (omega (arith, stands)) in
        record { left = b ∷ has.left; bucket = has.bucket; right = has.right; whole = ap (λ (cs : List Bucket). b ∷ cs) has.whole; same = has.same }

-- a number that stands among those of shelves is that of a bucket
pub has-bucket : (number : ℕ) (shelves : List BucketShelf) → 1 ≤ times number (bucket_numbers shelves) → HasBucket number shelves
has-bucket number [] stands = absurd (omega (arith, stands))
has-bucket number (x ∷ xs) stands = by_count (times number (numbers_of x.buckets)) refl (has-bucket number xs)
  where
    all : times number (numbers_of x.buckets ++ bucket_numbers xs) ≡ times number (numbers_of x.buckets) + times number (bucket_numbers xs)
    all = times-append number (numbers_of x.buckets) (bucket_numbers xs)

    by_count : (n : ℕ) → times number (numbers_of x.buckets) ≡ n → (1 ≤ times number (bucket_numbers xs) → HasBucket number xs) → HasBucket number (x ∷ xs)
    by_count zero e later =
        let has = later (omega (arith, stands, all, e)) in
        record {
          front = x ∷ has.front;
          shelf = has.shelf;
          back = has.back;
          left = has.left;
          bucket = has.bucket;
          right = has.right;
          whole = ap (λ (ys : List BucketShelf). x ∷ ys) has.whole;
          buckets = has.buckets;
          same = has.same;
        }
    by_count (suc n) e later =
        let has = bucket-in number x.buckets (omega (arith, e)) in
        record {
          front = [];
          shelf = x;
          back = xs;
          left = has.left;
          bucket = has.bucket;
          right = has.right;
          whole = refl;
          buckets = has.whole;
          same = has.same;
        }

-- the spot of a bucket that stands in shelves
abbrev pub spot_at : {number : ℕ} {shelves : List BucketShelf} → HasBucket number shelves → Spot
spot_at has = record { number = length has.front; shelf = has.shelf; bucket = has.bucket }

-- it is one
abbrev pub is-spot : (number : ℕ) (shelves : List BucketShelf) (has : HasBucket number shelves) → IsSpot shelves (spot_at has)
is-spot number shelves has = record {
  front = has.front;
  back = has.back;
  left = has.left;
  right = has.right;
  before = rw has.whole (take-append_seam has.front (has.shelf ∷ has.back));
  whole = has.whole;
  buckets = has.buckets;
}

-- the record of a bucket that stands between others
bucket-spelled : (records : List LinkedBucket) (shelf width : ℕ) (left : List Bucket) (b : Bucket) (right : List Bucket)
    → AreBucketsSpelled records shelf width (left ++ b ∷ right) → slice_get records b.tag.number ≡ Some (record_of shelf width (first_link right) b)
bucket-spelled records shelf width [] b right spelled = spelled.0
bucket-spelled records shelf width (x ∷ left) b right spelled = bucket-spelled records shelf width left b right spelled.1

-- the records of a shelf that stands between others
pub shelf-spelled : (records : List LinkedBucket) (number : ℕ) (front : List BucketShelf) (x : BucketShelf) (back : List BucketShelf)
    → AreShelvesSpelled records number (front ++ x ∷ back) → AreBucketsSpelled records (number + length front) x.bucket_width x.buckets
shelf-spelled records number [] x back spelled = rw (add-zero number) spelled.0
shelf-spelled records number (y ∷ front) x back spelled =
    subst (λ (n : ℕ). AreBucketsSpelled records n x.bucket_width x.buckets) (omega arith) (shelf-spelled records (suc number) front x back spelled.1)

-- the record of a bucket that stands in shelves
pub record-at : (records : List LinkedBucket) (number : ℕ) (shelves : List BucketShelf) (has : HasBucket number shelves) → AreShelvesSpelled records 0 shelves
    → slice_get records number ≡ Some (record_of (length has.front) has.shelf.bucket_width (first_link has.right) has.bucket)
record-at records number shelves has spelled =
    let shelf : AreBucketsSpelled records (length has.front) has.shelf.bucket_width has.shelf.buckets =
    subst (λ (n : ℕ). AreBucketsSpelled records n has.shelf.bucket_width has.shelf.buckets) (omega arith)
    (shelf-spelled records 0 has.front has.shelf has.back (subst (AreShelvesSpelled records 0) has.whole spelled)) in
    let bucket = bucket-spelled records (length has.front) has.shelf.bucket_width has.left has.bucket has.right
    (subst (AreBucketsSpelled records (length has.front) has.shelf.bucket_width) has.buckets shelf) in
    subst (λ (n : ℕ). slice_get records n ≡ Some (record_of (length has.front) has.shelf.bucket_width (first_link has.right) has.bucket)) has.same bucket

-- buckets whose records stay are spelled as before
pub buckets-frame : (records new : List LinkedBucket) (shelf width : ℕ) (bs : List Bucket)
    → ((k : ℕ) → 1 ≤ times k (numbers_of bs) → slice_get new k ≡ slice_get records k) → AreBucketsSpelled records shelf width bs → AreBucketsSpelled new shelf width bs
buckets-frame records new shelf width [] stays spelled = tt
buckets-frame records new shelf width (b ∷ bs) stays spelled = (
  stays b.tag.number (here b.tag.number (times b.tag.number (numbers_of bs))) ∙ spelled.0,
  buckets-frame records new shelf width bs (λ k stands. stays k (omega (arith, stands))) spelled.1,
)
  where
    here : (n k : ℕ) → 1 ≤ cond (n == n) 1 0 + k
    here n k = grind arith

-- shelves whose records stay are spelled as before
pub shelves-frame : (records new : List LinkedBucket) (number : ℕ) (xs : List BucketShelf)
    → ((k : ℕ) → 1 ≤ times k (bucket_numbers xs) → slice_get new k ≡ slice_get records k) → AreShelvesSpelled records number xs → AreShelvesSpelled new number xs
shelves-frame records new number [] stays spelled = tt
shelves-frame records new number (x ∷ xs) stays spelled =
    let all : (k : ℕ) → times k (numbers_of x.buckets ++ bucket_numbers xs) ≡ times k (numbers_of x.buckets) + times k (bucket_numbers xs) = λ k. times-append k (numbers_of x.buckets) (bucket_numbers xs) in (
      buckets-frame records new number x.bucket_width x.buckets (λ k stands. stays k (omega (arith, all k, stands))) spelled.0,
      shelves-frame records new (suc number) xs (λ k stands. stays k (omega (arith, all k, stands))) spelled.1,
    )

-- the shelves of a front are spelled
pub shelves-front-spelled : (records : List LinkedBucket) (number : ℕ) (front back : List BucketShelf) → AreShelvesSpelled records number (front ++ back) → AreShelvesSpelled records number front
shelves-front-spelled records number [] back spelled = tt
shelves-front-spelled records number (x ∷ front) back spelled = (spelled.0, shelves-front-spelled records (suc number) front back spelled.1)
