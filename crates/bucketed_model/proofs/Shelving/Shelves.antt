-- Shelves end to end: their heights, the columns that they goes, and the numbers of their buckets.
use Rattle.std.proofs.Common.{◌≡◌, ℕ, suc, ◌+◌, ◌≤◌, ◌≢◌, Bool, true, false, cond, List, [], ◌∷◌, ◌++◌, length, map, refl, ap, arith, ◌∙◌, ⊎_elim, ◌==◌, length-append}
use Rattle.std.proofs.lemmas.Bool.{eqb-true}
use Rattle.std.specs.List.{AllByRecursion}
use Rattle.etagere_base.proofs.EachLemmas.{Each-append, Each-front}
use Rattle.etagere_base.proofs.TimesLemmas.{times-append}
use Rattle.etagere_base.specs.declared.frames.Frame.{Frame}
use Rattle.etagere_base.specs.Frames.{across_side, alignment_along}
use Rattle.etagere_base.specs.Lists.{times}
use Rattle.bucketed_model.specs.State.{Bucket, BucketShelf, bucket_numbers, buckets_in_use, column_height, current_column, last_column, most_buckets, column_place}
use Rattle.bucketed_model.specs.Valid.{AreShelves, IsShelf, OpenColumns, StandBetween}

-- the heights of shelves end to end
pub column_height-append : (column : ℕ) (xs ys : List BucketShelf)
    → column_height column (xs ++ ys) ≡ column_height column xs + column_height column ys
column_height-append column [] ys = omega arith
column_height-append column (x ∷ xs) ys = omega (arith, column_height-append column xs ys)

-- the buckets of shelves end to end
pub buckets_in_use-append : (xs ys : List BucketShelf) → buckets_in_use (xs ++ ys) ≡ buckets_in_use xs + buckets_in_use ys
buckets_in_use-append [] ys = omega arith
buckets_in_use-append (x ∷ xs) ys = omega (arith, buckets_in_use-append xs ys)

-- the numbers of the buckets of a shelf
abbrev pub numbers_of : List Bucket → List ℕ
numbers_of buckets = map (λ (bucket : Bucket). bucket.tag.number) buckets

-- how often a number stands among those of shelves end to end
pub bucket_numbers-append : (n : ℕ) (xs ys : List BucketShelf)
    → times n (bucket_numbers (xs ++ ys)) ≡ times n (bucket_numbers xs) + times n (bucket_numbers ys)
bucket_numbers-append n [] ys = omega arith
bucket_numbers-append n (x ∷ xs) ys =
    omega (
      arith,
      bucket_numbers-append n xs ys,
      times-append n (numbers_of x.buckets) (bucket_numbers (xs ++ ys)),
      times-append n (numbers_of x.buckets) (bucket_numbers xs),
    )

-- how many columns are opened after shelves, where so many were before them
abbrev pub opened_by : ℕ → List BucketShelf → ℕ
opened_by opened [] = opened
opened_by opened (shelf ∷ shelves) = opened_by (suc shelf.column) shelves

-- the last opened column is the current one
opened-last : (column : ℕ) (xs : List BucketShelf) → opened_by (suc column) xs ≡ suc (last_column column xs)
opened-last column [] = refl
opened-last column (x ∷ xs) = opened-last x.column xs

-- where there is a shelf, the current column is the last opened one
pub opened-current : (x : BucketShelf) (xs : List BucketShelf) → opened_by 0 (x ∷ xs) ≡ suc (current_column (x ∷ xs))
opened-current x xs = opened-last x.column xs

-- shelves that go on opening columns behind others
pub OpenColumns-append : (opened : ℕ) (xs ys : List BucketShelf)
    → OpenColumns opened xs → OpenColumns (opened_by opened xs) ys → OpenColumns opened (xs ++ ys)
OpenColumns-append opened [] ys front back = back
OpenColumns-append opened (x ∷ xs) ys front back = (front.0, OpenColumns-append (suc x.column) xs ys front.1 back)

-- a front of shelves that goes columns
pub OpenColumns-front : (opened : ℕ) (xs ys : List BucketShelf) → OpenColumns opened (xs ++ ys) → OpenColumns opened xs
OpenColumns-front opened [] ys goes = tt
OpenColumns-front opened (x ∷ xs) ys goes = (goes.0, OpenColumns-front (suc x.column) xs ys goes.1)

-- a shelf opens no fewer columns than there were
opens-more : (opened : ℕ) (x : BucketShelf) (xs : List BucketShelf) → OpenColumns opened (x ∷ xs) → opened ≤ suc x.column
opens-more opened x xs goes =
    ⊎_elim (λ (h : suc x.column ≡ opened). omega arith) (λ (h : (x.column ≡ opened) × (1 ≤ x.height)). omega arith) goes.0

-- shelves goes no fewer columns than there were
pub opened-le : (opened : ℕ) (xs : List BucketShelf) → OpenColumns opened xs → opened ≤ opened_by opened xs
opened-le opened [] goes = omega arith
opened-le opened (x ∷ xs) goes = omega (arith, opens-more opened x xs goes, opened-le (suc x.column) xs goes.1)

-- a column that isn't opened has no height
pub column_height-unopened : (opened column : ℕ) (xs : List BucketShelf) → OpenColumns opened xs → opened_by opened xs ≤ column
    → column_height column xs ≡ 0
column_height-unopened opened column [] goes h = refl
column_height-unopened opened column (x ∷ xs) goes h =
    let other : x.column ≢ column = omega (arith, opened-le (suc x.column) xs goes.1) in
    none x.column x.height (column_height column xs) other (column_height-unopened (suc x.column) column xs goes.1 h)
  where
    none : (c height rest : ℕ) → c ≢ column → rest ≡ 0 → cond (c == column) height 0 + rest ≡ 0
    none c height rest h e = grind arith

-- a shelf behind others
pub shelf-added : (frame : Frame) (xs : List BucketShelf) (x : BucketShelf) → AreShelves frame xs → IsShelf frame x
    → OpenColumns (opened_by 0 xs) (x ∷ []) → column_height x.column xs + x.height ≤ across_side frame
    → ((n : ℕ) → times n (bucket_numbers xs) + times n (numbers_of x.buckets) ≤ 1)
    → buckets_in_use xs + length x.buckets ≤ most_buckets
    → AreShelves frame (xs ++ x ∷ [])
shelf-added frame xs x shelves is_shelf goes tall numbers few = record {
  each = Each-append (IsShelf frame) xs (x ∷ []) shelves.each (is_shelf, tt);
  columns = OpenColumns-append 0 xs (x ∷ []) shelves.columns goes;
  heights = λ column. omega (arith, column_height-append column xs (x ∷ []), by_test column (x.column == column) refl);
  numbers = λ n. omega (arith, bucket_numbers-append n xs (x ∷ []), times-append n (numbers_of x.buckets) [], numbers n);
  few = omega (arith, buckets_in_use-append xs (x ∷ []));
}
  where
    by_test : (column : ℕ) (b : Bool) → (x.column == column) ≡ b → column_height column xs + cond b x.height 0 ≤ across_side frame
    by_test column true e = let same : x.column ≡ column = eqb-true x.column column e in rw same at tall
    by_test column false e = omega (arith, shelves.heights column)

-- a front of shelves
pub shelves-front : (frame : Frame) (xs ys : List BucketShelf) → AreShelves frame (xs ++ ys) → AreShelves frame xs
shelves-front frame xs ys shelves = record {
  each = Each-front (IsShelf frame) xs ys shelves.each;
  columns = OpenColumns-front 0 xs ys shelves.columns;
  heights = λ column. omega (arith, column_height-append column xs ys, shelves.heights column);
  numbers = λ n. omega (arith, bucket_numbers-append n xs ys, shelves.numbers n);
  few = omega (arith, buckets_in_use-append xs ys, shelves.few);
}

-- the heights of the column of the last shelf
pub own-height : (front : List BucketShelf) (x : BucketShelf) → column_height x.column (front ++ x ∷ []) ≡ column_height x.column front + x.height
own-height front x =
    column_height-append x.column front (x ∷ []) ∙ ap (λ (t : Bool). column_height x.column front + (cond t x.height 0 + 0)) (equal x.column) ∙ omega arith
  where
    equal : (n : ℕ) → (n == n) ≡ true
    equal n = grind arith

-- as many numbers as buckets
pub in-use-length : (ss : List BucketShelf) → length (bucket_numbers ss) ≡ buckets_in_use ss
in-use-length [] = refl
in-use-length (s ∷ ss) = omega (arith, length-append (numbers_of s.buckets) (bucket_numbers ss), numbers-length s.buckets, in-use-length ss)
  where
    numbers-length : (bs : List Bucket) → length (numbers_of bs) ≡ length bs
    numbers-length [] = refl
    numbers-length (b ∷ bs) = ap suc (numbers-length bs)

-- each shelf has a bucket
pub few-shelves : (frame : Frame) (ss : List BucketShelf) → 1 ≤ frame.column_width → AllByRecursion (IsShelf frame) ss → length ss ≤ buckets_in_use ss
few-shelves frame [] wide each = omega arith
few-shelves frame (s ∷ ss) wide each = omega (arith, some s.buckets each.0.stand, few-shelves frame ss wide each.1)
  where
    some : (bs : List Bucket) → StandBetween (alignment_along frame) s.bucket_width (column_place frame s.column) (column_place frame s.column + frame.column_width) bs → 1 ≤ length bs
    some [] stand = absurd (omega (arith, stand, wide))
    some (b ∷ bs) stand = omega arith
