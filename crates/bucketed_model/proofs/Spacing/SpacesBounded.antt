-- The space that is allocated is at most the area, and none exactly where nothing is live.
use Rattle.std.proofs.Common.{◌≡◌, ℕ, zero, suc, ◌+◌, ◌*◌, ◌<◌, ◌≤◌, Bool, true, false, cond, List, [], ◌∷◌, ◌++◌, refl, ap, arith, sym, ◌∙◌, ◌==◌, mul_assoc, mul_comm}
use Rattle.std.specs.Prelude.{nat_lt}
use Rattle.std.proofs.Math.Nat.{mul-add, mul-le-mul, mul-le-mul_left, mul-le-mul_right, suc-mul}
use Rattle.std.specs.List.{AllByRecursion}
use Rattle.etagere_base.proofs.EachLemmas.{Each-append, Each-weaken}
use Rattle.etagere_base.specs.declared.frames.Frame.{Frame}
use Rattle.etagere_base.specs.Frames.{across_side, alignment_along, along_side}
use Rattle.bucketed_model.specs.Merging.{total_height}
use Rattle.bucketed_model.specs.Space.{allocated_space, space_in, used_width}
use Rattle.bucketed_model.specs.State.{Bucket, BucketShelf, BucketedState, column_height, column_place, fresh, is_idle_bucket}
use Rattle.bucketed_model.specs.Frames.{IsBucketedFrame}
use Rattle.bucketed_model.specs.Tied.{BusyBucket, busy_after, busy_along, busy_buckets}
use Rattle.bucketed_model.specs.Valid.{IsBucket, IsShelf, IsValid, StandBetween}
use Rattle.bucketed_model.proofs.Shelving.Ends.{idle-fresh}
use Rattle.bucketed_model.proofs.Shelving.Shares.{alignment-positive}
use Rattle.bucketed_model.proofs.Spacing.Spaces.{busy_space, space-busy}
use Rattle.bucketed_model.proofs.Ledger.TiedLaws.{idle-after}

-- buckets have used no more than they stand in
used-le : (al width height begin end : ℕ) (bs : List Bucket) → AllByRecursion (IsBucket al width height) bs → StandBetween al width begin end bs → begin + used_width bs ≤ end
used-le al width height begin end [] each stand = omega (arith, stand)
used-le al width height begin end (b ∷ bs) each stand =
    omega (arith, stand.1, each.0.used, used-le al width height begin b.place bs each.1 stand.2)

-- shelves have allocated no more than the columns that they lie in
space-le : (frame : Frame) (xs : List BucketShelf) → AllByRecursion (IsShelf frame) xs → space_in xs ≤ frame.column_width * total_height xs
space-le frame [] each = omega arith
space-le frame (x ∷ xs) each =
    let begin = column_place frame x.column in
    let used : used_width x.buckets ≤ frame.column_width
    = omega (arith, used-le (alignment_along frame) x.bucket_width x.height begin (begin + frame.column_width) x.buckets each.0.buckets each.0.stand) in
    omega (arith, mul-le-mul_right x.height used, space-le frame xs each.1, mul-add frame.column_width x.height (total_height xs))

-- the heights of so many columns, added up
abbrev heights_below : ℕ → List BucketShelf → ℕ
heights_below zero xs = 0
heights_below (suc n) xs = column_height n xs + heights_below n xs

-- no columns without shelves
below-nil : (n : ℕ) → heights_below n [] ≡ 0
below-nil zero = refl
below-nil (suc n) = omega (arith, below-nil n)

-- a shelf counts once among the columns, where it stands in one of them
below-cons : (n : ℕ) (x : BucketShelf) (xs : List BucketShelf) → heights_below n (x ∷ xs) ≡ cond (nat_lt x.column n) x.height 0 + heights_below n xs
below-cons zero x xs = none x.column x.height
  where
    none : (c h : ℕ) → 0 ≡ cond (nat_lt c 0) h 0 + 0
    none c h = grind arith
below-cons (suc n) x xs = more x.column x.height (column_height n xs) (heights_below n (x ∷ xs)) (heights_below n xs) (below-cons n x xs)
  where
    more : (c h k new old : ℕ) → new ≡ cond (nat_lt c n) h 0 + old → cond (c == n) h 0 + k + new ≡ cond (nat_lt c (suc n)) h 0 + (k + old)
    more c h k new old e = grind arith

-- the heights of shelves in columns are those of the columns
total-below : (n : ℕ) (xs : List BucketShelf) → AllByRecursion (λ (x : BucketShelf). x.column < n) xs → total_height xs ≡ heights_below n xs
total-below n [] each = sym (below-nil n)
total-below n (x ∷ xs) each = counted x.column x.height (heights_below n (x ∷ xs)) (heights_below n xs) each.0 (below-cons n x xs) (total-below n xs each.1)
  where
    counted : (c h new old : ℕ) → c < n → new ≡ cond (nat_lt c n) h 0 + old → total_height xs ≡ old → h + total_height xs ≡ new
    counted c h new old below e k = grind arith

-- columns of a height each
below-le : (n most : ℕ) (xs : List BucketShelf) → ((c : ℕ) → column_height c xs ≤ most) → heights_below n xs ≤ n * most
below-le zero most xs h = omega arith
below-le (suc n) most xs h = omega (arith, h n, below-le n most xs h, suc-mul n most)

-- the area of an atlas by its sides along and across
sides-area : (frame : Frame) → along_side frame * across_side frame ≡ frame.width * frame.height
sides-area frame = by_turn frame.vertical refl
  where
    by_turn : (b : Bool) → frame.vertical ≡ b → along_side frame * across_side frame ≡ frame.width * frame.height
    by_turn true e = rw e (mul_comm frame.height frame.width)
    by_turn false e = rw e refl

-- a valid state has allocated no more than the area
pub space-area : (state : BucketedState) → IsValid state → allocated_space state ≤ state.frame.width * state.frame.height
space-area state valid =
    let frame = state.frame in
    let xs = state.shelves in
    let columns = Each-weaken (IsShelf frame) (λ (x : BucketShelf). x.column < frame.columns) xs (λ (x : BucketShelf) (is_shelf : IsShelf frame x). is_shelf.column) valid.shelves.each in
    let heights : total_height xs ≤ frame.columns * across_side frame
    = omega (arith, total-below frame.columns xs columns, below-le frame.columns (across_side frame) xs valid.shelves.heights) in
    let wide : frame.column_width * (frame.columns * across_side frame) ≡ (frame.columns * frame.column_width) * across_side frame
    = product frame.column_width frame.columns (across_side frame) in
    omega (arith, space-le frame xs valid.shelves.each, mul-le-mul_left frame.column_width heights, wide, mul-le-mul_right (across_side frame) valid.frame.columns.1, sides-area frame)
  where
    product : (a b c : ℕ) → a * (b * c) ≡ (b * a) * c
    product a b c = sym (mul_assoc a b c) ∙ ap (λ (n : ℕ). n * c) (mul_comm a b)

-- a busy bucket has used an area
abbrev HasArea : BusyBucket → Type 0
HasArea busy = 1 ≤ busy.bucket.used * busy.height

-- the busy ones of buckets have
area-along : (al width across height : ℕ) (bs : List Bucket) → 1 ≤ al → AllByRecursion (IsBucket al width height) bs → AllByRecursion HasArea (busy_along across height bs)
area-along al width across height [] some each = tt
area-along al width across height (b ∷ bs) some each = by_test (is_idle_bucket b) refl (area-along al width across height bs some each.1)
  where
    by_test : (i : Bool) → is_idle_bucket b ≡ i → AllByRecursion HasArea (busy_along across height bs)
        → AllByRecursion HasArea (cond i (busy_along across height bs) (record { bucket = b; across = across; height = height } ∷ busy_along across height bs))
    by_test true e rest = rest
    by_test false e rest =
        let live : 1 ≤ b.live = grind arith in
        let busy = each.0.busy live in
        let given : 1 ≤ b.given = omega (arith, each.0.live, live) in
        let used : 1 ≤ b.used = omega (arith, busy.0, mul-le-mul {n₁ = 1} {m₁ = 1} given some) in
        (mul-le-mul {n₁ = 1} {m₁ = 1} used busy.1, rest)

-- the busy buckets of shelves have
area-after : (frame : Frame) (before xs : List BucketShelf) → IsBucketedFrame frame → AllByRecursion (IsShelf frame) xs → AllByRecursion HasArea (busy_after before xs)
area-after frame before [] is_frame each = tt
area-after frame before (x ∷ xs) is_frame each =
    Each-append HasArea (busy_along (column_height x.column before) x.height x.buckets) (busy_after (before ++ x ∷ []) xs)
    (area-along (alignment_along frame) x.bucket_width (column_height x.column before) x.height x.buckets (alignment-positive frame is_frame) each.0.buckets)
    (area-after frame (before ++ x ∷ []) xs is_frame each.1)

-- where no space is allocated the state is that of a new atlas
pub space-none : (state : BucketedState) → IsValid state → allocated_space state ≡ 0 → state ≡ fresh state.frame
space-none state valid h =
    let busy = busy_buckets state.shelves in
    let none : busy ≡ [] = no-space busy (area-after state.frame [] state.shelves valid.frame valid.shelves.each) (space-busy state valid ∙ h) in
    idle-fresh state valid (idle-after [] state.shelves none)
  where
    no-space : (busy : List BusyBucket) → AllByRecursion HasArea busy → busy_space busy ≡ 0 → busy ≡ []
    no-space [] each e = refl
    no-space (x ∷ xs) each e = absurd (omega (arith, each.0, e))
