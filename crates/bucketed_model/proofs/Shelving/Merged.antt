-- Shelves of which some that hold nothing live were merged into one.
use Rattle.std.proofs.Common.{◌≡◌, ℕ, suc, ◌+◌, ◌≤◌, Bool, true, false, cond, List, [], ◌∷◌, ◌++◌, map, refl, ap, arith, sym, ◌∙◌, ◌==◌, inl, inr, ⊎_elim}
use Rattle.std.proofs.lemmas.Bool.{and_parts, eqb-true}
use Rattle.std.specs.List.{AllByRecursion, list_all}
use Rattle.etagere_base.proofs.EachLemmas.{Each-append, Each-front, Each-back}
use Rattle.etagere_base.specs.declared.frames.Frame.{Frame}
use Rattle.bucketed_model.specs.Merging.{total_height}
use Rattle.bucketed_model.specs.State.{Bucket, BucketShelf, bucket_numbers, buckets_in_use, column_height, is_idle, is_idle_bucket, with_height}
use Rattle.bucketed_model.specs.Valid.{AreShelves, IsBucket, IsShelf, OpenColumns, ends_idle}
use Rattle.bucketed_model.proofs.Shelving.Shelves.{column_height-append}

-- an idle shelf of a column
pub record IsIdleIn (column : ℕ) (shelf : BucketShelf) : Type 0 where
  pub column_is : shelf.column ≡ column
  pub idle : is_idle shelf ≡ true

-- an idle bucket is as a bucket must be at any height
bucket-height : (al width height other : ℕ) (bs : List Bucket) → list_all is_idle_bucket bs ≡ true
    → AllByRecursion (IsBucket al width height) bs → AllByRecursion (IsBucket al width other) bs
bucket-height al width height other [] idle each = tt
bucket-height al width height other (b ∷ bs) idle each =
    let parts = and_parts (is_idle_bucket b) (list_all is_idle_bucket bs) idle in
    let none : b.live ≡ 0 = eqb-true b.live 0 parts.0 in
    let first : IsBucket al width other b = record {
      tag = each.0.tag;
      used = each.0.used;
      aligned = each.0.aligned;
      live = each.0.live;
      given = each.0.given;
      idle = each.0.idle;
      busy = λ h. absurd (omega (arith, h));
    } in
    (first, bucket-height al width height other bs parts.1 each.1)

-- an idle shelf is as a shelf must be at any height
shelf-height : (frame : Frame) (height : ℕ) (x : BucketShelf) → is_idle x ≡ true → IsShelf frame x → IsShelf frame (with_height height x)
shelf-height frame height x idle is_shelf = record {
  column = is_shelf.column;
  aligned = is_shelf.aligned;
  width = is_shelf.width;
  buckets = bucket-height _ _ x.height height x.buckets idle is_shelf.buckets;
  stand = is_shelf.stand;
}

-- idle shelves without heights
each-flat : (frame : Frame) (column : ℕ) (next : List BucketShelf) → AllByRecursion (IsIdleIn column) next → AllByRecursion (IsShelf frame) next → AllByRecursion (IsShelf frame) (map (with_height 0) next)
each-flat frame column [] idle each = tt
each-flat frame column (y ∷ ys) idle each = (shelf-height frame 0 y idle.0.idle each.0, each-flat frame column ys idle.1 each.1)

-- shelves of an opened column open none without their heights
columns-flat : (column : ℕ) (next back : List BucketShelf) → AllByRecursion (IsIdleIn column) next
    → OpenColumns (suc column) (next ++ back) → OpenColumns (suc column) (map (with_height 0) next ++ back)
columns-flat column [] back idle goes = goes
columns-flat column (y ∷ ys) back idle goes =
    let same = idle.0.column_is in (
      inl (ap suc same),
      rw same (columns-flat column ys back idle.1 (rw same at goes.1)),
    )

-- the columns that shelves open when some were merged
columns-merged : (opened height : ℕ) (front : List BucketShelf) (x : BucketShelf) (next back : List BucketShelf) → AllByRecursion (IsIdleIn x.column) next
    → OpenColumns opened (front ++ x ∷ (next ++ back))
    → OpenColumns opened (front ++ with_height (x.height + height) x ∷ (map (with_height 0) next ++ back))
columns-merged opened height [] x next back idle goes = (
  ⊎_elim (λ (h : suc x.column ≡ opened). inl h) (λ (h : (x.column ≡ opened) × (1 ≤ x.height)). inr (h.0, omega (arith, h.1))) goes.0,
  columns-flat x.column next back idle goes.1,
)
columns-merged opened height (y ∷ front) x next back idle goes = (goes.0, columns-merged (suc y.column) height front x next back idle goes.1)

-- shelves without heights
height-flat : (column : ℕ) (next : List BucketShelf) → column_height column (map (with_height 0) next) ≡ 0
height-flat column [] = refl
height-flat column (y ∷ ys) = none (y.column == column) (height-flat column ys)
  where
    none : (b : Bool) → column_height column (map (with_height 0) ys) ≡ 0 → cond b 0 0 + column_height column (map (with_height 0) ys) ≡ 0
    none true h = omega arith
    none false h = omega arith

-- the heights of shelves of one column
height-of_column : (c column : ℕ) (next : List BucketShelf) → AllByRecursion (IsIdleIn c) next
    → column_height column next ≡ cond (c == column) (total_height next) 0
height-of_column c column [] idle = by_test (c == column)
  where
    by_test : (b : Bool) → column_height column [] ≡ cond b (total_height []) 0
    by_test true = refl
    by_test false = refl
height-of_column c column (y ∷ ys) idle =
    rw idle.0.column_is (by_test (c == column) (height-of_column c column ys idle.1))
  where
    by_test : (b : Bool) → column_height column ys ≡ cond b (total_height ys) 0 → cond b y.height 0 + column_height column ys ≡ cond b (y.height + total_height ys) 0
    by_test true h = omega arith
    by_test false h = omega arith

-- each column is as tall as it was
pub height-merged : (column : ℕ) (front : List BucketShelf) (x : BucketShelf) (next back : List BucketShelf) → AllByRecursion (IsIdleIn x.column) next
    → column_height column (front ++ with_height (x.height + total_height next) x ∷ (map (with_height 0) next ++ back))
    ≡ column_height column (front ++ x ∷ (next ++ back))
height-merged column front x next back idle =
    let same = by_test (x.column == column) (column_height-append column (map (with_height 0) next) back) (column_height-append column next back)
    (height-flat column next) (height-of_column x.column column next idle) in
    column_height-append column front (with_height (x.height + total_height next) x ∷ (map (with_height 0) next ++ back))
    ∙ ap (λ (h : ℕ). column_height column front + h) same
    ∙ sym (column_height-append column front (x ∷ (next ++ back)))
  where
    by_test : (b : Bool) → column_height column (map (with_height 0) next ++ back) ≡ column_height column (map (with_height 0) next) + column_height column back
        → column_height column (next ++ back) ≡ column_height column next + column_height column back
        → column_height column (map (with_height 0) next) ≡ 0
        → column_height column next ≡ cond b (total_height next) 0
        → cond b (x.height + total_height next) 0 + column_height column (map (with_height 0) next ++ back) ≡ cond b x.height 0 + column_height column (next ++ back)
    by_test true h k m n = omega arith
    by_test false h k m n = omega arith

-- the buckets of shelves
abbrev pub buckets_of : List BucketShelf → List (List Bucket)
buckets_of shelves = map (λ (shelf : BucketShelf). shelf.buckets) shelves

-- shelves with the same buckets have as many
use-same : (xs ys : List BucketShelf) → buckets_of xs ≡ buckets_of ys → buckets_in_use xs ≡ buckets_in_use ys
use-same [] [] h = refl
use-same [] (y ∷ ys) h = absurd (cc)
use-same (x ∷ xs) [] h = absurd (cc)
use-same (x ∷ xs) (y ∷ ys) h =
    let first : x.buckets ≡ y.buckets = cc in
    let rest : buckets_of xs ≡ buckets_of ys = cc in
    rw (first, use-same xs ys rest) refl

-- shelves with the same buckets have the same numbers
numbers-same : (xs ys : List BucketShelf) → buckets_of xs ≡ buckets_of ys → bucket_numbers xs ≡ bucket_numbers ys
numbers-same [] [] h = refl
numbers-same [] (y ∷ ys) h = absurd (cc)
numbers-same (x ∷ xs) [] h = absurd (cc)
numbers-same (x ∷ xs) (y ∷ ys) h =
    let first : x.buckets ≡ y.buckets = cc in
    let rest : buckets_of xs ≡ buckets_of ys = cc in
    rw (first, numbers-same xs ys rest) refl

-- shelves with the same buckets end alike
ends-same : (xs ys : List BucketShelf) → buckets_of xs ≡ buckets_of ys → ends_idle xs ≡ ends_idle ys
ends-same [] [] h = refl
ends-same [] (y ∷ ys) h = absurd (cc)
ends-same (x ∷ xs) [] h = absurd (cc)
ends-same (x ∷ []) (y ∷ []) h = let first : x.buckets ≡ y.buckets = cc in rw first refl
ends-same (x ∷ []) (y ∷ w ∷ ws) h = absurd (cc)
ends-same (x ∷ z ∷ zs) (y ∷ []) h = absurd (cc)
ends-same (x ∷ z ∷ zs) (y ∷ w ∷ ws) h =
    let rest : buckets_of (z ∷ zs) ≡ buckets_of (w ∷ ws) = cc in ends-same (z ∷ zs) (w ∷ ws) rest

-- shelves without heights have the same buckets
buckets-flat : (next back : List BucketShelf) → buckets_of (map (with_height 0) next ++ back) ≡ buckets_of (next ++ back)
buckets-flat [] back = refl
buckets-flat (y ∷ ys) back = ap (λ (bs : List (List Bucket)). y.buckets ∷ bs) (buckets-flat ys back)

-- merged shelves have the same buckets
buckets-merged : (height : ℕ) (front : List BucketShelf) (x : BucketShelf) (next back : List BucketShelf)
    → buckets_of (front ++ with_height height x ∷ (map (with_height 0) next ++ back)) ≡ buckets_of (front ++ x ∷ (next ++ back))
buckets-merged height [] x next back = ap (λ (bs : List (List Bucket)). x.buckets ∷ bs) (buckets-flat next back)
buckets-merged height (y ∷ front) x next back = ap (λ (bs : List (List Bucket)). y.buckets ∷ bs) (buckets-merged height front x next back)

-- shelves of which some idle ones of one column were merged into one
pub shelves-merged : (frame : Frame) (front : List BucketShelf) (x : BucketShelf) (next back : List BucketShelf)
    → is_idle x ≡ true → AllByRecursion (IsIdleIn x.column) next → AreShelves frame (front ++ x ∷ (next ++ back))
    → AreShelves frame (front ++ with_height (x.height + total_height next) x ∷ (map (with_height 0) next ++ back))
shelves-merged frame front x next back idle others shelves =
    let old = front ++ x ∷ (next ++ back) in
    let new = front ++ with_height (x.height + total_height next) x ∷ (map (with_height 0) next ++ back) in
    let each = Each-back (IsShelf frame) front (x ∷ (next ++ back)) shelves.each in
    record {
      each = Each-append (IsShelf frame) front _ (Each-front (IsShelf frame) front (x ∷ (next ++ back)) shelves.each) (
        shelf-height frame _ x idle each.0,
        Each-append (IsShelf frame) (map (with_height 0) next) back
            (each-flat frame x.column next others (Each-front (IsShelf frame) next back each.1))
            (Each-back (IsShelf frame) next back each.1),
      );
      columns = columns-merged 0 (total_height next) front x next back others shelves.columns;
      heights = λ column. rw (height-merged column front x next back others) (shelves.heights column);
      numbers = λ n. rw (numbers-same new old (buckets-merged _ front x next back)) (shelves.numbers n);
      few = rw (use-same new old (buckets-merged _ front x next back)) shelves.few;
    }

-- they end as they did
pub ends-merged : (height : ℕ) (front : List BucketShelf) (x : BucketShelf) (next back : List BucketShelf)
    → ends_idle (front ++ with_height height x ∷ (map (with_height 0) next ++ back)) ≡ ends_idle (front ++ x ∷ (next ++ back))
ends-merged height front x next back = ends-same _ _ (buckets-merged height front x next back)
