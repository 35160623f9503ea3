-- Shelves with one bucket changed are as shelves must be, where the changed bucket is as a bucket must be.
use Rattle.std.proofs.Common.{◌≡◌, ℕ, suc, ◌+◌, true, cond, List, [], ◌∷◌, length, map, refl, ap, ◌==◌}
use Rattle.std.proofs.lemmas.Bool.{cond_both, eqb-true}
use Rattle.std.specs.List.{AllByRecursion}
use Rattle.etagere_base.specs.declared.frames.Frame.{Frame}
use Rattle.etagere_base.specs.Frames.{alignment_along}
use Rattle.bucketed_model.specs.State.{Bucket, BucketShelf, bucket_numbers, buckets_in_use, changed_at, changed_bucket, changed_in, column_height}
use Rattle.bucketed_model.specs.Valid.{AreShelves, IsBucket, IsShelf, OpenColumns, StandBetween}
use Rattle.bucketed_model.proofs.Shelving.Shelves.{numbers_of}

-- a change keeps where a bucket stands, and its number
pub record Keeps (change : Bucket → Bucket) : Type 0 where
  pub place : (bucket : Bucket) → (change bucket).place ≡ bucket.place
  pub number : (bucket : Bucket) → (change bucket).tag.number ≡ bucket.tag.number

-- a fact of each bucket of shelves, with its shelf
abbrev pub EachBucket : (BucketShelf → Bucket → Type 0) → List BucketShelf → Type 0
EachBucket P shelves = AllByRecursion (λ (shelf : BucketShelf). AllByRecursion (P shelf) shelf.buckets) shelves

-- a bucket that may have changed stands where it did
place-changed : (n : ℕ) (change : Bucket → Bucket) → Keeps change → (b : Bucket) → (changed_at n change b).place ≡ b.place
place-changed n change keeps b = cond_both (b.tag.number == n) (change b) b (λ (c : Bucket). c.place ≡ b.place) (λ _. keeps.place b) (λ _. refl)

-- a bucket that may have changed has the number that it had
number-changed : (n : ℕ) (change : Bucket → Bucket) → Keeps change → (b : Bucket) → (changed_at n change b).tag.number ≡ b.tag.number
number-changed n change keeps b = cond_both (b.tag.number == n) (change b) b (λ (c : Bucket). c.tag.number ≡ b.tag.number) (λ _. keeps.number b) (λ _. refl)

-- the buckets stand where they did
stand-changed : (n : ℕ) (change : Bucket → Bucket) → Keeps change → (al width begin end : ℕ) (bs : List Bucket)
    → StandBetween al width begin end bs → StandBetween al width begin end (map (changed_at n change) bs)
stand-changed n change keeps al width begin end [] stand = stand
stand-changed n change keeps al width begin end (b ∷ bs) stand =
    rw (place-changed n change keeps b) (stand.0, stand.1, stand-changed n change keeps al width begin b.place bs stand.2)

-- the buckets have the numbers that they had
numbers-changed : (n : ℕ) (change : Bucket → Bucket) → Keeps change → (bs : List Bucket)
    → numbers_of (map (changed_at n change) bs) ≡ numbers_of bs
numbers-changed n change keeps [] = refl
numbers-changed n change keeps (b ∷ bs) = rw (number-changed n change keeps b, numbers-changed n change keeps bs) refl

-- the buckets of shelves have the numbers that they had
pub bucket_numbers-changed : (n : ℕ) (change : Bucket → Bucket) → Keeps change → (xs : List BucketShelf)
    → bucket_numbers (changed_bucket n change xs) ≡ bucket_numbers xs
bucket_numbers-changed n change keeps [] = refl
bucket_numbers-changed n change keeps (x ∷ xs) = rw (numbers-changed n change keeps x.buckets, bucket_numbers-changed n change keeps xs) refl

-- so many buckets as there were
length-changed : (n : ℕ) (change : Bucket → Bucket) (bs : List Bucket) → length (map (changed_at n change) bs) ≡ length bs
length-changed n change [] = refl
length-changed n change (b ∷ bs) = ap suc (length-changed n change bs)

-- so many buckets in use as there were
pub buckets_in_use-changed : (n : ℕ) (change : Bucket → Bucket) (xs : List BucketShelf)
    → buckets_in_use (changed_bucket n change xs) ≡ buckets_in_use xs
buckets_in_use-changed n change [] = refl
buckets_in_use-changed n change (x ∷ xs) = rw (length-changed n change x.buckets, buckets_in_use-changed n change xs) refl

-- the shelves are as tall as they were
pub column_height-changed : (column n : ℕ) (change : Bucket → Bucket) (xs : List BucketShelf)
    → column_height column (changed_bucket n change xs) ≡ column_height column xs
column_height-changed column n change [] = refl
column_height-changed column n change (x ∷ xs) =
    ap (λ (h : ℕ). cond (x.column == column) x.height 0 + h) (column_height-changed column n change xs)

-- the shelves open the columns that they did
columns-changed : (opened n : ℕ) (change : Bucket → Bucket) (xs : List BucketShelf) → OpenColumns opened xs → OpenColumns opened (changed_bucket n change xs)
columns-changed opened n change [] goes = tt
columns-changed opened n change (x ∷ xs) goes = (goes.0, columns-changed (suc x.column) n change xs goes.1)

-- what holds of each bucket holds of those that a change turns them into
pub Each-changed : (P : Bucket → Type 0) (n : ℕ) (change : Bucket → Bucket) (bs : List Bucket) → AllByRecursion P bs
    → AllByRecursion (λ (b : Bucket). b.tag.number ≡ n → P (change b)) bs → AllByRecursion P (map (changed_at n change) bs)
Each-changed P n change [] each new = tt
Each-changed P n change (b ∷ bs) each new = (
  cond_both (b.tag.number == n) (change b) b P (λ (e : (b.tag.number == n) ≡ true). new.0 (eqb-true b.tag.number n e)) (λ _. each.0),
  Each-changed P n change bs each.1 new.1,
)

-- a changed bucket of a shelf is as a bucket of it must be
abbrev pub FitsShelf : Frame → ℕ → (Bucket → Bucket) → BucketShelf → Bucket → Type 0
FitsShelf frame n change shelf bucket =
    bucket.tag.number ≡ n → IsBucket (alignment_along frame) shelf.bucket_width shelf.height (change bucket)

-- a shelf with its bucket changed is as a shelf must be
shelf-changed : (frame : Frame) (n : ℕ) (change : Bucket → Bucket) → Keeps change → (x : BucketShelf) → IsShelf frame x
    → AllByRecursion (FitsShelf frame n change x) x.buckets → IsShelf frame (changed_in n change x)
shelf-changed frame n change keeps x is_shelf fits = record {
  column = is_shelf.column;
  aligned = is_shelf.aligned;
  width = is_shelf.width;
  buckets = Each-changed (IsBucket (alignment_along frame) x.bucket_width x.height) n change x.buckets is_shelf.buckets fits;
  stand = stand-changed n change keeps _ _ _ _ x.buckets is_shelf.stand;
}

-- each shelf with its bucket changed is as a shelf must be
each-changed : (frame : Frame) (n : ℕ) (change : Bucket → Bucket) → Keeps change → (xs : List BucketShelf)
    → AllByRecursion (IsShelf frame) xs → EachBucket (FitsShelf frame n change) xs → AllByRecursion (IsShelf frame) (changed_bucket n change xs)
each-changed frame n change keeps [] each fits = tt
each-changed frame n change keeps (x ∷ xs) each fits =
    (shelf-changed frame n change keeps x each.0 fits.0, each-changed frame n change keeps xs each.1 fits.1)

-- shelves with one bucket changed
pub shelves-changed : (frame : Frame) (n : ℕ) (change : Bucket → Bucket) → Keeps change → (xs : List BucketShelf)
    → AreShelves frame xs → EachBucket (FitsShelf frame n change) xs → AreShelves frame (changed_bucket n change xs)
shelves-changed frame n change keeps xs shelves fits = record {
  each = each-changed frame n change keeps xs shelves.each fits;
  columns = columns-changed 0 n change xs shelves.columns;
  heights = λ column. rw (column_height-changed column n change xs) (shelves.heights column);
  numbers = λ k. rw (bucket_numbers-changed n change keeps xs) (shelves.numbers k);
  few = rw (buckets_in_use-changed n change xs) shelves.few;
}
