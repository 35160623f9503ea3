-- The buckets that hold something live: adding, merging and dropping shelves that hold nothing keep them all.
use Rattle.std.proofs.Common.{◌≡◌, ℕ, ◌+◌, true, List, [], ◌∷◌, ◌++◌, map, refl, ap, arith, sym, ◌∙◌, append_assoc, append-nil}
use Rattle.std.proofs.lemmas.Bool.{and_parts}
use Rattle.std.specs.List.{AllByRecursion, list_all}
use Rattle.bucketed_model.specs.Merging.{total_height}
use Rattle.bucketed_model.specs.Returning.{without_idle_end}
use Rattle.bucketed_model.specs.State.{Bucket, BucketShelf, column_height, is_idle, is_idle_bucket, with_height}
use Rattle.bucketed_model.specs.Tied.{BusyBucket, busy_after, busy_along, busy_buckets}
use Rattle.bucketed_model.proofs.Shelving.Ends.{drops-end}
use Rattle.bucketed_model.proofs.Shelving.Merged.{IsIdleIn, height-merged}
use Rattle.bucketed_model.proofs.Shelving.Shelves.{column_height-append}

-- buckets that hold nothing are not busy
pub busy-idle_along : (across height : ℕ) (bs : List Bucket) → list_all is_idle_bucket bs ≡ true → busy_along across height bs ≡ []
busy-idle_along across height [] h = refl
busy-idle_along across height (b ∷ bs) h =
    let parts = and_parts (is_idle_bucket b) (list_all is_idle_bucket bs) h in
    rw parts.0 (busy-idle_along across height bs parts.1)

-- shelves that hold nothing have no busy bucket
busy-idle : (before xs : List BucketShelf) → list_all is_idle xs ≡ true → busy_after before xs ≡ []
busy-idle before [] h = refl
busy-idle before (x ∷ xs) h =
    let parts = and_parts (is_idle x) (list_all is_idle xs) h in
    rw (busy-idle_along (column_height x.column before) x.height x.buckets parts.0) (busy-idle (before ++ x ∷ []) xs parts.1)

-- the busy buckets of shelves end to end
pub busy-append : (before xs ys : List BucketShelf) → busy_after before (xs ++ ys) ≡ busy_after before xs ++ busy_after (before ++ xs) ys
busy-append before [] ys = ap (λ (zs : List BucketShelf). busy_after zs ys) (sym (append-nil before))
busy-append before (x ∷ xs) ys =
    let first = busy_along (column_height x.column before) x.height x.buckets in
    ap (λ (bs : List BusyBucket). first ++ bs)
    (busy-append (before ++ x ∷ []) xs ys ∙ ap (λ (zs : List BucketShelf). busy_after (before ++ x ∷ []) xs ++ busy_after zs ys) (append_assoc before (x ∷ []) xs))
    ∙ sym (append_assoc first (busy_after (before ++ x ∷ []) xs) (busy_after (before ++ x ∷ xs) ys))

-- shelves that hold nothing behind others change nothing
pub busy-idle_end : (xs ys : List BucketShelf) → list_all is_idle ys ≡ true → busy_buckets (xs ++ ys) ≡ busy_buckets xs
busy-idle_end xs ys h =
    busy-append [] xs ys ∙ ap (λ (bs : List BusyBucket). busy_buckets xs ++ bs) (busy-idle xs ys h) ∙ append-nil (busy_buckets xs)

-- dropping the end changes nothing
pub busy-dropped : (xs : List BucketShelf) → busy_buckets (without_idle_end xs) ≡ busy_buckets xs
busy-dropped xs =
    let drops = drops-end xs in
    sym (ap busy_buckets drops.whole ∙ busy-idle_end (without_idle_end xs) drops.back drops.idle)

-- only the heights before shelves matter to them
pub busy-heights : (one other xs : List BucketShelf) → ((c : ℕ) → column_height c one ≡ column_height c other) → busy_after one xs ≡ busy_after other xs
busy-heights one other [] h = refl
busy-heights one other (x ∷ xs) h =
    rw (h x.column)
    (ap (λ (bs : List BusyBucket). busy_along (column_height x.column other) x.height x.buckets ++ bs)
    (busy-heights (one ++ x ∷ []) (other ++ x ∷ []) xs
    (λ c. omega (arith, h c, column_height-append c one (x ∷ []), column_height-append c other (x ∷ [])))))

-- shelves that hold nothing may give way to such as are as tall in each column
busy-replaced : (front one other back : List BucketShelf) → list_all is_idle one ≡ true → list_all is_idle other ≡ true
    → ((c : ℕ) → column_height c one ≡ column_height c other)
    → busy_buckets (front ++ (one ++ back)) ≡ busy_buckets (front ++ (other ++ back))
busy-replaced front one other back h k same =
    let left = busy-append [] front (one ++ back) in
    let right = busy-append [] front (other ++ back) in
    let inner_left = busy-append front one back in
    let inner_right = busy-append front other back in
    let none = busy-idle front one h in
    let none' = busy-idle front other k in
    let rest = busy-heights (front ++ one) (front ++ other) back
    (λ c. omega (arith, same c, column_height-append c front one, column_height-append c front other)) in
    left
    ∙ ap (λ (bs : List BusyBucket). busy_buckets front ++ bs)
    (inner_left ∙ ap (λ (bs : List BusyBucket). bs ++ busy_after (front ++ one) back) none ∙ rest
    ∙ sym (inner_right ∙ ap (λ (bs : List BusyBucket). bs ++ busy_after (front ++ other) back) none'))
    ∙ sym right

-- shelves of a column without heights hold nothing
idle-flat : (column height : ℕ) (next : List BucketShelf) → AllByRecursion (IsIdleIn column) next → list_all is_idle (map (with_height height) next) ≡ true
idle-flat column height [] idle = refl
idle-flat column height (y ∷ ys) idle = rw idle.0.idle (idle-flat column height ys idle.1)

-- idle shelves of a column are all idle
idle-all : (column : ℕ) (next : List BucketShelf) → AllByRecursion (IsIdleIn column) next → list_all is_idle next ≡ true
idle-all column [] idle = refl
idle-all column (y ∷ ys) idle = rw idle.0.idle (idle-all column ys idle.1)

-- merging changes nothing
pub busy-merged : (front : List BucketShelf) (x : BucketShelf) (next back : List BucketShelf) → is_idle x ≡ true → AllByRecursion (IsIdleIn x.column) next
    → busy_buckets (front ++ with_height (x.height + total_height next) x ∷ (map (with_height 0) next ++ back)) ≡ busy_buckets (front ++ x ∷ (next ++ back))
busy-merged front x next back idle others =
    busy-replaced front (with_height (x.height + total_height next) x ∷ map (with_height 0) next) (x ∷ next) back
    (rw idle (idle-flat x.column 0 next others)) (rw idle (idle-all x.column next others))
    (λ c. omega (
      arith,
      height-merged c [] x next [] others,
      column_height-append c (x ∷ next) [],
      column_height-append c (with_height (x.height + total_height next) x ∷ map (with_height 0) next) [],
    ))
