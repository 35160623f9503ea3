-- The busy buckets before and after one bucket was changed: those around it stay.
use Rattle.std.proofs.Common.{◌≡◌, ℕ, ◌≤◌, Bool, true, false, cond, List, [], ◌∷◌, ◌++◌, map, take, refl, ap, arith, sym, ◌∙◌, append_assoc, ◌==◌}
use Rattle.std.proofs.lemmas.Bool.{eq-eqb, eqb-true}
use Rattle.std.proofs.lemmas.List.{map-append}
use Rattle.std.specs.List.{AllByRecursion}
use Rattle.etagere_base.proofs.EachLemmas.{Each-append}
use Rattle.etagere_base.specs.Lists.{times}
use Rattle.bucketed_model.specs.Picking.{Spot}
use Rattle.bucketed_model.specs.State.{Bucket, BucketShelf, Tag, bucket_numbers, changed_at, changed_bucket, changed_in, column_height, is_idle_bucket, with_buckets}
use Rattle.bucketed_model.specs.Tied.{BusyBucket, busy_after, busy_along, busy_buckets, live_of}
use Rattle.bucketed_model.proofs.Ledger.Busy.{busy-append, busy-heights}
use Rattle.bucketed_model.proofs.Ledger.Entries.{live_of-append, live-others, live-others_along}
use Rattle.bucketed_model.proofs.Shelving.Shelves.{column_height-append}
use Rattle.bucketed_model.proofs.Validity.Spots.{IsOther, IsSpot, others-buckets, others-shelves, spot-alone}

-- something in a busy bucket is live
abbrev pub IsBusy : BusyBucket → Type 0
IsBusy busy = 1 ≤ busy.bucket.live

-- something is live in each busy one of buckets
live-along : (across height : ℕ) (bs : List Bucket) → AllByRecursion IsBusy (busy_along across height bs)
live-along across height [] = tt
live-along across height (b ∷ bs) = by_test (is_idle_bucket b) refl (live-along across height bs)
  where
    some : (n : ℕ) → (n == 0) ≡ false → 1 ≤ n
    some n h = grind arith

    by_test : (t : Bool) → is_idle_bucket b ≡ t → AllByRecursion IsBusy (busy_along across height bs)
        → AllByRecursion IsBusy (cond t (busy_along across height bs) (record { bucket = b; across = across; height = height } ∷ busy_along across height bs))
    by_test true e rest = rest
    by_test false e rest = (some b.live e, rest)

-- something is live in each busy bucket
pub live-after : (before xs : List BucketShelf) → AllByRecursion IsBusy (busy_after before xs)
live-after before [] = tt
live-after before (x ∷ xs) =
    Each-append IsBusy (busy_along (column_height x.column before) x.height x.buckets) (busy_after (before ++ x ∷ []) xs)
    (live-along (column_height x.column before) x.height x.buckets) (live-after (before ++ x ∷ []) xs)

-- the busy ones of buckets end to end
pub busy_along-append : (across height : ℕ) (xs ys : List Bucket) → busy_along across height (xs ++ ys) ≡ busy_along across height xs ++ busy_along across height ys
busy_along-append across height [] ys = refl
busy_along-append across height (x ∷ xs) ys = by_test (is_idle_bucket x) (busy_along-append across height xs ys)
  where
    by_test : (b : Bool) → busy_along across height (xs ++ ys) ≡ busy_along across height xs ++ busy_along across height ys
        → cond b (busy_along across height (xs ++ ys)) (record { bucket = x; across = across; height = height } ∷ busy_along across height (xs ++ ys))
        ≡ cond b (busy_along across height xs) (record { bucket = x; across = across; height = height } ∷ busy_along across height xs) ++ busy_along across height ys
    by_test true h = h
    by_test false h = ap (λ (bs : List BusyBucket). record { bucket = x; across = across; height = height } ∷ bs) h

-- a bucket in front of others: busy or not
busy_along-first : (across height : ℕ) (b : Bucket) (bs : List Bucket) → busy_along across height (b ∷ bs) ≡ busy_along across height (b ∷ []) ++ busy_along across height bs
busy_along-first across height b bs = busy_along-append across height (b ∷ []) bs

-- the busy buckets around one
pub busy-around : (front : List BucketShelf) (x : BucketShelf) (left : List Bucket) (b : Bucket) (right : List Bucket) (back : List BucketShelf) → x.buckets ≡ left ++ b ∷ right
    → busy_buckets (front ++ x ∷ back)
    ≡ (busy_buckets front ++ busy_along (column_height x.column front) x.height left)
    ++ (busy_along (column_height x.column front) x.height (b ∷ [])
    ++ (busy_along (column_height x.column front) x.height right ++ busy_after (front ++ x ∷ []) back))
busy-around front x left b right back h =
    let across = column_height x.column front in
    let along = busy_along across x.height in
    let own : along x.buckets ≡ along left ++ (along (b ∷ []) ++ along right)
    = ap along h ∙ busy_along-append across x.height left (b ∷ right) ∙ ap (λ (bs : List BusyBucket). along left ++ bs) (busy_along-first across x.height b right) in
    let after = busy_after (front ++ x ∷ []) back in
    busy-append [] front (x ∷ back)
    ∙ ap (λ (bs : List BusyBucket). busy_buckets front ++ (bs ++ after)) own
    ∙ ap (λ (bs : List BusyBucket). busy_buckets front ++ bs)
    (append_assoc (along left) (along (b ∷ []) ++ along right) after
    ∙ ap (λ (bs : List BusyBucket). along left ++ bs) (append_assoc (along (b ∷ [])) (along right) after))
    ∙ sym (append_assoc (busy_buckets front) (along left) (along (b ∷ []) ++ (along right ++ after)))

-- buckets with other numbers don't change
pub same-buckets : (n : ℕ) (change : Bucket → Bucket) (bs : List Bucket) → AllByRecursion (IsOther n) bs → map (changed_at n change) bs ≡ bs
same-buckets n change [] others = refl
same-buckets n change (b ∷ bs) others = first (b.tag.number == n) refl (same-buckets n change bs others.1)
  where
    first : (t : Bool) → (b.tag.number == n) ≡ t → map (changed_at n change) bs ≡ bs → cond t (change b) b ∷ map (changed_at n change) bs ≡ b ∷ bs
    first true e rest = absurd (others.0 (eqb-true b.tag.number n e))
    first false e rest = ap (λ (cs : List Bucket). b ∷ cs) rest

-- nor do shelves of such
pub same-shelves : (n : ℕ) (change : Bucket → Bucket) (xs : List BucketShelf) → AllByRecursion (λ (x : BucketShelf). AllByRecursion (IsOther n) x.buckets) xs → changed_bucket n change xs ≡ xs
same-shelves n change [] others = refl
same-shelves n change (x ∷ xs) others =
    ap (λ (bs : List Bucket). with_buckets bs x ∷ changed_bucket n change xs) (same-buckets n change x.buckets others.0)
    ∙ ap (λ (ys : List BucketShelf). x ∷ ys) (same-shelves n change xs others.1)

-- the busy buckets of shelves before and after a bucket was changed
pub record IsView (shelves changed : List BucketShelf) (spot : Spot) (new : Bucket) : Type 0 where
  pub front : List BusyBucket
  pub back : List BusyBucket
  pub across : ℕ
  pub across_is : across ≡ column_height spot.shelf.column (take spot.number shelves)
  pub old : busy_buckets shelves ≡ front ++ (busy_along across spot.shelf.height (spot.bucket ∷ []) ++ back)
  pub after : busy_buckets changed ≡ front ++ (busy_along across spot.shelf.height (new ∷ []) ++ back)
  pub before_none : (tag : Tag) → tag.number ≡ spot.bucket.tag.number → live_of tag front ≡ 0
  pub behind_none : (tag : Tag) → tag.number ≡ spot.bucket.tag.number → live_of tag back ≡ 0
  pub before_busy : AllByRecursion IsBusy front
  pub behind_busy : AllByRecursion IsBusy back

-- a bucket with a number is the one that is changed
change-here : (change : Bucket → Bucket) (b : Bucket) → changed_at b.tag.number change b ≡ change b
change-here change b = first (b.tag.number == b.tag.number) (eq-eqb b.tag.number b.tag.number refl)
  where
    first : (t : Bool) → t ≡ true → cond t (change b) b ≡ change b
    first true e = refl
    first false e = absurd (cc)

-- the shelf of a spot after its bucket was changed
pub shelf-here : (change : Bucket → Bucket) (shelf : BucketShelf) (left : List Bucket) (b : Bucket) (right : List Bucket) → shelf.buckets ≡ left ++ b ∷ right
    → AllByRecursion (IsOther b.tag.number) left → AllByRecursion (IsOther b.tag.number) right → (changed_in b.tag.number change shelf).buckets ≡ left ++ change b ∷ right
shelf-here change shelf left b right h others_left others_right =
    let n = b.tag.number in
    ap (map (changed_at n change)) h
    ∙ map-append (changed_at n change) left (b ∷ right)
    ∙ ap (λ (bs : List Bucket). bs ++ map (changed_at n change) (b ∷ right)) (same-buckets n change left others_left)
    ∙ ap (λ (c : Bucket). left ++ c ∷ map (changed_at n change) right) (change-here change b)
    ∙ ap (λ (bs : List Bucket). left ++ change b ∷ bs) (same-buckets n change right others_right)

-- a spot's bucket changed, in view
pub spot-view : (shelves : List BucketShelf) (spot : Spot) (change : Bucket → Bucket) → IsSpot shelves spot → ((n : ℕ) → times n (bucket_numbers shelves) ≤ 1)
    → IsView shelves (changed_bucket spot.bucket.tag.number change shelves) spot (change spot.bucket)
spot-view shelves spot change at once =
    let n = spot.bucket.tag.number in
    let alone = spot-alone shelves spot at once in
    let others_left = others-buckets n at.left alone.beside in
    let others_right = others-buckets n at.right alone.past in
    let others_front = others-shelves n at.front alone.before in
    let others_back = others-shelves n at.back alone.behind in
    let x = changed_in n change spot.shelf in
    let buckets = shelf-here change spot.shelf at.left spot.bucket at.right at.buckets others_left others_right in
    let across = column_height spot.shelf.column at.front in
    let changed : changed_bucket n change shelves ≡ at.front ++ x ∷ at.back
    = ap (changed_bucket n change) at.whole ∙ map-append (changed_in n change) at.front (spot.shelf ∷ at.back)
    ∙ ap (λ (xs : List BucketShelf). xs ++ x ∷ changed_bucket n change at.back) (same-shelves n change at.front others_front)
    ∙ ap (λ (xs : List BucketShelf). at.front ++ x ∷ xs) (same-shelves n change at.back others_back) in
    let heights = busy-heights (at.front ++ x ∷ []) (at.front ++ spot.shelf ∷ []) at.back
    (λ c. column_height-append c at.front (x ∷ []) ∙ sym (column_height-append c at.front (spot.shelf ∷ []))) in
    let none = λ (tag : Tag) (same : tag.number ≡ n). live_of-append tag (busy_buckets at.front) (busy_along across spot.shelf.height at.left) in
    record {
      front = busy_buckets at.front ++ busy_along across spot.shelf.height at.left;
      back = busy_along across spot.shelf.height at.right ++ busy_after (at.front ++ spot.shelf ∷ []) at.back;
      across = across;
      across_is = ap (column_height spot.shelf.column) (sym at.before);
      old = ap busy_buckets at.whole ∙ busy-around at.front spot.shelf at.left spot.bucket at.right at.back at.buckets;
      after = ap busy_buckets changed ∙ busy-around at.front x at.left (change spot.bucket) at.right at.back buckets
          ∙ ap (λ (bs : List BusyBucket). (busy_buckets at.front ++ busy_along across spot.shelf.height at.left)
          ++ (busy_along across spot.shelf.height (change spot.bucket ∷ []) ++ (busy_along across spot.shelf.height at.right ++ bs))) heights;
      before_none = λ tag same. omega (
        arith,
        live_of-append tag (busy_buckets at.front) (busy_along across spot.shelf.height at.left),
        live-others tag [] at.front (rw (← same) at others_front),
        live-others_along tag across spot.shelf.height at.left (rw (← same) at others_left),
      );
      behind_none = λ tag same. omega (
        arith,
        live_of-append tag (busy_along across spot.shelf.height at.right) (busy_after (at.front ++ spot.shelf ∷ []) at.back),
        live-others tag (at.front ++ spot.shelf ∷ []) at.back (rw (← same) at others_back),
        live-others_along tag across spot.shelf.height at.right (rw (← same) at others_right),
      );
      before_busy = Each-append IsBusy (busy_buckets at.front) (busy_along across spot.shelf.height at.left) (live-after [] at.front) (live-along across spot.shelf.height at.left);
      behind_busy = Each-append IsBusy (busy_along across spot.shelf.height at.right) (busy_after (at.front ++ spot.shelf ∷ []) at.back)
          (live-along across spot.shelf.height at.right) (live-after (at.front ++ spot.shelf ∷ []) at.back);
    }
