-- The busy buckets of valid shelves lie in the columns of the frame, and any two of them apart.
use Rattle.std.proofs.Common.{◌≡◌, ℕ, ◌+◌, ◌<◌, ◌≤◌, Bool, true, false, cond, List, [], ◌∷◌, ◌++◌, refl, arith, sym, subst, inl, inr, ⊎_elim, ◌⊎◌, ◌==◌}
use Rattle.std.proofs.lemmas.Bool.{cases_order}
use Rattle.std.specs.List.{AllByRecursion}
use Rattle.etagere_base.proofs.EachLemmas.{Each-append, Each-weaken}
use Rattle.etagere_base.proofs.FrameSides.{columns-apart}
use Rattle.etagere_base.specs.declared.frames.Frame.{Frame}
use Rattle.etagere_base.specs.Frames.{alignment_along}
use Rattle.bucketed_model.specs.State.{Bucket, BucketShelf, column_height, column_place, is_idle_bucket}
use Rattle.bucketed_model.specs.Tied.{BusyBucket, busy_after, busy_along}
use Rattle.bucketed_model.specs.Valid.{IsBucket, IsShelf, StandBetween}
use Rattle.bucketed_model.proofs.Shelving.Shelves.{column_height-append}

-- a busy bucket lies between two places along, here across and this tall
record LiesBetween (begin end across height : ℕ) (busy : BusyBucket) : Type 0 where
  pub left : begin ≤ busy.bucket.place
  pub right : busy.bucket.place + busy.bucket.used ≤ end
  pub across_is : busy.across ≡ across
  pub height_is : busy.height ≡ height
  pub tall : 1 ≤ height

-- where one busy bucket lies against another: behind it or before it along, or it ends where the other begins across
abbrev pub IsClear : BusyBucket → BusyBucket → Type 0
IsClear one other =
    (one.bucket.place + one.bucket.used ≤ other.bucket.place)
    ⊎ ((other.bucket.place + other.bucket.used ≤ one.bucket.place) ⊎ (one.across + one.height ≤ other.across))

-- each two of busy buckets lie clear
abbrev pub AreClear : List BusyBucket → Type 0
AreClear [] = Unit {0}
AreClear (one ∷ others) = AllByRecursion (IsClear one) others × AreClear others

-- buckets begin before they end
stand-le : (al width begin end : ℕ) (bs : List Bucket) → StandBetween al width begin end bs → begin ≤ end
stand-le al width begin end [] stand = omega (arith, stand)
stand-le al width begin end (b ∷ bs) stand = omega (arith, stand.1, stand-le al width begin b.place bs stand.2)

-- something is live in a bucket that isn't idle
live-some : (n : ℕ) → (n == 0) ≡ false → 1 ≤ n
live-some n h = grind arith

-- the busy ones of buckets lie between where these begin and end
along-between : (al width begin end across height : ℕ) (bs : List Bucket) → AllByRecursion (IsBucket al width height) bs → StandBetween al width begin end bs
    → AllByRecursion (LiesBetween begin end across height) (busy_along across height bs)
along-between al width begin end across height [] each stand = tt
along-between al width begin end across height (b ∷ bs) each stand =
    let rest = Each-weaken (LiesBetween begin b.place across height) (LiesBetween begin end across height) (busy_along across height bs)
    (λ (busy : BusyBucket) (lies : LiesBetween begin b.place across height busy).
    let wider : LiesBetween begin end across height busy = record { left = lies.left; right = omega (arith, lies.right, stand.1); across_is = lies.across_is; height_is = lies.height_is; tall = lies.tall } in wider)
    (along-between al width begin b.place across height bs each.1 stand.2) in
    by_test (is_idle_bucket b) refl rest
  where
    by_test : (i : Bool) → is_idle_bucket b ≡ i → AllByRecursion (LiesBetween begin end across height) (busy_along across height bs)
        → AllByRecursion (LiesBetween begin end across height) (cond i (busy_along across height bs) (record { bucket = b; across = across; height = height } ∷ busy_along across height bs))
    by_test true e rest = rest
    by_test false e rest = (
      record {
        left = stand-le al width begin b.place bs stand.2;
        right = omega (arith, stand.1, each.0.used);
        across_is = refl;
        height_is = refl;
        tall = (each.0.busy (live-some b.live e)).1;
      },
      rest,
    )

-- they lie clear of one another
along-clear : (al width begin end across height : ℕ) (bs : List Bucket) → AllByRecursion (IsBucket al width height) bs → StandBetween al width begin end bs
    → AreClear (busy_along across height bs)
along-clear al width begin end across height [] each stand = tt
along-clear al width begin end across height (b ∷ bs) each stand =
    by_test (is_idle_bucket b) (along-clear al width begin b.place across height bs each.1 stand.2)
  where
    by_test : (i : Bool) → AreClear (busy_along across height bs)
        → AreClear (cond i (busy_along across height bs) (record { bucket = b; across = across; height = height } ∷ busy_along across height bs))
    by_test true rest = rest
    by_test false rest = (
      Each-weaken (LiesBetween begin b.place across height) (IsClear (record { bucket = b; across = across; height = height })) (busy_along across height bs)
          (λ (busy : BusyBucket) (lies : LiesBetween begin b.place across height busy). inr (inl lies.right))
          (along-between al width begin b.place across height bs each.1 stand.2),
      rest,
    )

-- a busy bucket lies in a column of the frame, after the heights of the shelves before it and within those of its own
pub record InColumn (frame : Frame) (before shelves : List BucketShelf) (busy : BusyBucket) : Type 0 where
  pub column : ℕ
  pub below : column < frame.columns
  pub left : column_place frame column ≤ busy.bucket.place
  pub right : busy.bucket.place + busy.bucket.used ≤ column_place frame column + frame.column_width
  pub top : column_height column before ≤ busy.across
  pub bottom : busy.across + busy.height ≤ column_height column before + column_height column shelves
  pub tall : 1 ≤ busy.height

-- the height of a shelf counts in its own column
pub height-own : (x : BucketShelf) (xs : List BucketShelf) → column_height x.column (x ∷ xs) ≡ x.height + column_height x.column xs
height-own x xs = own x.column x.height (column_height x.column xs)
  where
    own : (c height rest : ℕ) → cond (c == c) height 0 + rest ≡ height + rest
    own c height rest = grind arith

-- the busy buckets of a shelf lie in its column
shelf-in_column : (frame : Frame) (before : List BucketShelf) (x : BucketShelf) (xs : List BucketShelf) → IsShelf frame x
    → AllByRecursion (InColumn frame before (x ∷ xs)) (busy_along (column_height x.column before) x.height x.buckets)
shelf-in_column frame before x xs is_shelf =
    let begin = column_place frame x.column in
    let end = begin + frame.column_width in
    let across = column_height x.column before in
    Each-weaken (LiesBetween begin end across x.height) (InColumn frame before (x ∷ xs)) (busy_along across x.height x.buckets)
    (λ (busy : BusyBucket) (lies : LiesBetween begin end across x.height busy).
    let inside : InColumn frame before (x ∷ xs) busy = record {
      column = x.column;
      below = is_shelf.column;
      left = lies.left;
      right = lies.right;
      top = omega (arith, lies.across_is);
      bottom = omega (arith, lies.across_is, lies.height_is, height-own x xs);
      tall = omega (arith, lies.height_is, lies.tall);
    } in inside)
    (along-between (alignment_along frame) x.bucket_width begin end across x.height x.buckets is_shelf.buckets is_shelf.stand)

-- the busy buckets of shelves lie in the columns
pub after-in_column : (frame : Frame) (before xs : List BucketShelf) → AllByRecursion (IsShelf frame) xs → AllByRecursion (InColumn frame before xs) (busy_after before xs)
after-in_column frame before [] each = tt
after-in_column frame before (x ∷ xs) each =
    let across = column_height x.column before in
    Each-append (InColumn frame before (x ∷ xs)) (busy_along across x.height x.buckets) (busy_after (before ++ x ∷ []) xs)
    (shelf-in_column frame before x xs each.0)
    (Each-weaken (InColumn frame (before ++ x ∷ []) xs) (InColumn frame before (x ∷ xs)) (busy_after (before ++ x ∷ []) xs)
    (λ (busy : BusyBucket) (lies : InColumn frame (before ++ x ∷ []) xs busy).
    let inside : InColumn frame before (x ∷ xs) busy = record {
      column = lies.column;
      below = lies.below;
      left = lies.left;
      right = lies.right;
      top = omega (arith, lies.top, column_height-append lies.column before (x ∷ []));
      bottom = omega (arith, lies.bottom, column_height-append lies.column before (x ∷ []));
      tall = lies.tall;
    } in inside)
    (after-in_column frame (before ++ x ∷ []) xs each.1))

-- a busy bucket of a shelf lies clear of one in a later shelf
shelf-clear : (frame : Frame) (before : List BucketShelf) (x : BucketShelf) (xs : List BucketShelf) (one other : BusyBucket)
    → LiesBetween (column_place frame x.column) (column_place frame x.column + frame.column_width) (column_height x.column before) x.height one
    → InColumn frame (before ++ x ∷ []) xs other → IsClear one other
shelf-clear frame before x xs one other lies inside =
    ⊎_elim
    (λ (same : x.column ≡ inside.column).
    inr (inr (through inside.column same inside.top)))
    (⊎_elim
    (λ (earlier : x.column < inside.column). inl (omega (arith, lies.right, inside.left, columns-apart x.column inside.column frame.column_width earlier)))
    (λ (later : inside.column < x.column). inr (inl (omega (arith, lies.left, inside.right, columns-apart inside.column x.column frame.column_width later)))))
    (cases_order x.column inside.column)
  where
    through : (column : ℕ) → x.column ≡ column → column_height column (before ++ x ∷ []) ≤ other.across → one.across + one.height ≤ other.across
    through column same top =
        let here = subst (λ (c : ℕ). column_height c (before ++ x ∷ []) ≤ other.across) (sym same) top in
        omega (arith, here, column_height-append x.column before (x ∷ []), height-own x [], lies.across_is, lies.height_is)

-- lists of which each of one lies clear of each of the other
clear-append : (xs ys : List BusyBucket) → AreClear xs → AreClear ys → AllByRecursion (λ (x : BusyBucket). AllByRecursion (IsClear x) ys) xs → AreClear (xs ++ ys)
clear-append [] ys front back across = back
clear-append (x ∷ xs) ys front back across =
    (Each-append (IsClear x) xs ys front.0 across.0, clear-append xs ys front.1 back across.1)

-- the busy buckets of shelves lie clear of one another
pub after-clear : (frame : Frame) (before xs : List BucketShelf) → AllByRecursion (IsShelf frame) xs → AreClear (busy_after before xs)
after-clear frame before [] each = tt
after-clear frame before (x ∷ xs) each =
    let begin = column_place frame x.column in
    let end = begin + frame.column_width in
    let across = column_height x.column before in
    let later = after-in_column frame (before ++ x ∷ []) xs each.1 in
    clear-append (busy_along across x.height x.buckets) (busy_after (before ++ x ∷ []) xs)
    (along-clear (alignment_along frame) x.bucket_width begin end across x.height x.buckets each.0.buckets each.0.stand)
    (after-clear frame (before ++ x ∷ []) xs each.1)
    (Each-weaken (LiesBetween begin end across x.height) (λ (one : BusyBucket). AllByRecursion (IsClear one) (busy_after (before ++ x ∷ []) xs)) (busy_along across x.height x.buckets)
    (λ (one : BusyBucket) (lies : LiesBetween begin end across x.height one).
    Each-weaken (InColumn frame (before ++ x ∷ []) xs) (IsClear one) (busy_after (before ++ x ∷ []) xs)
    (λ (other : BusyBucket) (inside : InColumn frame (before ++ x ∷ []) xs other). shelf-clear frame before x xs one other lies inside) later)
    (along-between (alignment_along frame) x.bucket_width begin end across x.height x.buckets each.0.buckets each.0.stand))
