-- Shelves that get new buckets in front of their own.
use Rattle.std.proofs.Common.{◌≡◌, ℕ, suc, ◌+◌, ◌-◌, ◌/◌, ◌<◌, ◌≤◌, true, cond, List, [], ◌∷◌, ◌++◌, take, drop, min, refl, ap, arith, sym, ◌∙◌, subst, ◌==◌, length-append}
use Rattle.std.proofs.Math.Nat.{zero-div}
use Rattle.std.proofs.lemmas.List.{length-take, map-append}
use Rattle.std.proofs.lemmas.Bool.{and_parts}
use Rattle.std.specs.List.{AllByRecursion, list_all}
use Rattle.etagere_base.proofs.TimesLemmas.{times-append}
use Rattle.etagere_base.specs.Lists.{times}
use Rattle.bucketed_model.specs.Adding.{new_buckets}
use Rattle.bucketed_model.specs.Growing.{grown_counts, total, widened}
use Rattle.bucketed_model.specs.State.{Bucket, BucketShelf, Tag, bucket_numbers, buckets_in_use, column_height, is_idle_bucket, tag_numbers, with_buckets}
use Rattle.bucketed_model.specs.Tied.{BusyBucket, busy_after, busy_along}
use Rattle.bucketed_model.specs.Valid.{OpenColumns, StandBetween, ends_idle}
use Rattle.bucketed_model.proofs.Shelving.Added.{idle-new, take-drop}
use Rattle.bucketed_model.proofs.Ledger.Busy.{busy-heights, busy-idle_along}
use Rattle.bucketed_model.proofs.Ledger.EntriesSeen.{busy_along-append}
use Rattle.bucketed_model.proofs.Shelving.Made.{length-new, numbers-new}
use Rattle.bucketed_model.proofs.Shelving.Shelves.{column_height-append, numbers_of}

-- the shelves are as tall as they were
pub height-widened : (column place : ℕ) (counts : List ℕ) (tags : List Tag) (xs : List BucketShelf) → column_height column (widened place counts tags xs) ≡ column_height column xs
height-widened column place [] tags xs = refl
height-widened column place (count ∷ counts) tags [] = refl
height-widened column place (count ∷ counts) tags (x ∷ xs) =
    ap (λ (h : ℕ). cond (x.column == column) x.height 0 + h) (height-widened column place counts (drop count tags) xs)

-- they open the columns that they did
pub columns-widened : (opened place : ℕ) (counts : List ℕ) (tags : List Tag) (xs : List BucketShelf) → OpenColumns opened xs → OpenColumns opened (widened place counts tags xs)
columns-widened opened place [] tags xs goes = goes
columns-widened opened place (count ∷ counts) tags [] goes = goes
columns-widened opened place (count ∷ counts) tags (x ∷ xs) goes = (goes.0, columns-widened (suc x.column) place counts (drop count tags) xs goes.1)

-- a number stands among the shelves' as often as it did, or as a new tag's
pub numbers-widened : (n place : ℕ) (counts : List ℕ) (tags : List Tag) (xs : List BucketShelf)
    → times n (bucket_numbers (widened place counts tags xs)) ≤ times n (tag_numbers tags) + times n (bucket_numbers xs)
numbers-widened n place [] tags xs = omega arith
numbers-widened n place (count ∷ counts) tags [] = omega arith
numbers-widened n place (count ∷ counts) tags (x ∷ xs) =
    let new = new_buckets place x.bucket_width (take count tags) in
    let rest = bucket_numbers (widened place counts (drop count tags) xs) in
    let own : numbers_of (new ++ x.buckets) ≡ tag_numbers (take count tags) ++ numbers_of x.buckets
    = map-append (λ (bucket : Bucket). bucket.tag.number) new x.buckets ∙ ap (λ (ns : List ℕ). ns ++ numbers_of x.buckets) (numbers-new place x.bucket_width (take count tags)) in
    omega (
      arith,
      times-append n (numbers_of (new ++ x.buckets)) rest,
      ap (times n) own,
      times-append n (tag_numbers (take count tags)) (numbers_of x.buckets),
      times-append n (numbers_of x.buckets) (bucket_numbers xs),
      numbers-widened n place counts (drop count tags) xs,
      take-drop count tags n,
    )

-- they have at most so many buckets more
pub use-widened : (place : ℕ) (counts : List ℕ) (tags : List Tag) (xs : List BucketShelf) → buckets_in_use (widened place counts tags xs) ≤ total counts + buckets_in_use xs
use-widened place [] tags xs = omega arith
use-widened place (count ∷ counts) tags [] = omega arith
use-widened place (count ∷ counts) tags (x ∷ xs) =
    omega (
      arith,
      length-append (new_buckets place x.bucket_width (take count tags)) x.buckets,
      length-new place x.bucket_width (take count tags),
      length-take count tags,
      use-widened place counts (drop count tags) xs,
    )

-- no more buckets are counted than are left
pub counts-le : (width left : ℕ) (xs : List BucketShelf) → total (grown_counts width left xs) ≤ left
counts-le width left [] = omega arith
counts-le width left (x ∷ xs) = omega (arith, counts-le width (left - min (width / x.bucket_width) left) xs)

-- idle buckets in front don't change whether all are
idle-append : (xs ys : List Bucket) → list_all is_idle_bucket xs ≡ true → list_all is_idle_bucket (xs ++ ys) ≡ list_all is_idle_bucket ys
idle-append [] ys h = refl
idle-append (x ∷ xs) ys h =
    let parts = and_parts (is_idle_bucket x) (list_all is_idle_bucket xs) h in
    rw parts.0 (idle-append xs ys parts.1)

-- no shelves stay none
widened-nil : (place : ℕ) (counts : List ℕ) (tags : List Tag) → widened place counts tags [] ≡ []
widened-nil place [] tags = refl
widened-nil place (count ∷ counts) tags = refl

-- they end as they did
pub ends-widened : (place : ℕ) (counts : List ℕ) (tags : List Tag) (xs : List BucketShelf) → ends_idle (widened place counts tags xs) ≡ ends_idle xs
ends-widened place [] tags xs = refl
ends-widened place (count ∷ counts) tags [] = refl
ends-widened place (count ∷ counts) tags (x ∷ []) =
    rw (widened-nil place counts (drop count tags))
    (idle-append (new_buckets place x.bucket_width (take count tags)) x.buckets (idle-new place x.bucket_width (take count tags)))
ends-widened place (count ∷ []) tags (x ∷ y ∷ ys) = refl
ends-widened place (count ∷ next ∷ counts) tags (x ∷ y ∷ ys) = ends-widened place (next ∷ counts) (drop count tags) (y ∷ ys)

-- they hold what they did
pub busy-widened : (place : ℕ) (counts : List ℕ) (tags : List Tag) (before xs : List BucketShelf) → busy_after before (widened place counts tags xs) ≡ busy_after before xs
busy-widened place [] tags before xs = refl
busy-widened place (count ∷ counts) tags before [] = refl
busy-widened place (count ∷ counts) tags before (x ∷ xs) =
    let new = new_buckets place x.bucket_width (take count tags) in
    let across = column_height x.column before in
    let wide = with_buckets (new ++ x.buckets) x in
    let own : busy_along across x.height (new ++ x.buckets) ≡ busy_along across x.height x.buckets
    = busy_along-append across x.height new x.buckets ∙ ap (λ (bs : List BusyBucket). bs ++ busy_along across x.height x.buckets) (busy-idle_along across x.height new (idle-new place x.bucket_width (take count tags))) in
    ap (λ (bs : List BusyBucket). bs ++ busy_after (before ++ wide ∷ []) (widened place counts (drop count tags) xs)) own
    ∙ ap (λ (bs : List BusyBucket). busy_along across x.height x.buckets ++ bs)
    (busy-widened place counts (drop count tags) (before ++ wide ∷ []) xs
    ∙ busy-heights (before ++ wide ∷ []) (before ++ x ∷ []) xs (λ c. column_height-append c before (wide ∷ []) ∙ sym (column_height-append c before (x ∷ []))))

-- counts of which none is above 0
abbrev pub AreZero : List ℕ → Type 0
AreZero counts = AllByRecursion (λ (n : ℕ). n ≡ 0) counts

-- for no width no bucket is counted
pub counts-zero : (left : ℕ) (xs : List BucketShelf) → AreZero (grown_counts 0 left xs)
counts-zero left [] = tt
counts-zero left (x ∷ xs) = (omega (arith, zero-div x.bucket_width), counts-zero (left - min (0 / x.bucket_width) left) xs)

-- shelves that get no bucket stay
pub widened-zero : (place : ℕ) (counts : List ℕ) (tags : List Tag) (xs : List BucketShelf) → AreZero counts → widened place counts tags xs ≡ xs
widened-zero place [] tags xs zeros = refl
widened-zero place (count ∷ counts) tags [] zeros = refl
widened-zero place (count ∷ counts) tags (x ∷ xs) zeros =
    rw zeros.0 (ap (λ (ys : List BucketShelf). x ∷ ys) (widened-zero place counts tags xs zeros.1))

-- buckets end to end, where the first of them begin where the others end
pub stand-append : (al width begin middle end : ℕ) (xs ys : List Bucket) → StandBetween al width middle end xs → StandBetween al width begin middle ys → StandBetween al width begin end (xs ++ ys)
stand-append al width begin middle end [] ys front back = subst (λ (n : ℕ). StandBetween al width begin n ys) (sym front) back
stand-append al width begin middle end (x ∷ xs) ys front back = (front.0, front.1, stand-append al width begin middle x.place xs ys front.2 back)

-- buckets that stand up to an end behind their begin stand up to a later one
pub stand-later : (al width begin end later : ℕ) (bs : List Bucket) → begin < end → end ≤ later → StandBetween al width begin end bs → StandBetween al width begin later bs
stand-later al width begin end later [] h k stand = absurd (omega (arith, h, stand))
stand-later al width begin end later (b ∷ bs) h k stand = (stand.0, omega (arith, k, stand.1), stand.2)
