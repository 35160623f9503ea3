-- What is kept of shelves: how many they are, end to end, and the last of them.
use Rattle.std.proofs.Common.{◌≡◌, ℕ, suc, ◌-◌, List, Some, [], ◌∷◌, ◌++◌, length, refl, ap, arith, sym, ◌∙◌, append_assoc, append-nil, length-append, ◌+◌, Bool}
use Rattle.std.specs.List.{list_all}
use Rattle.std.specs.Prelude.{◌&&◌, ◌==◌}
use Rattle.etagere_base.proofs.ReplacedLists.{slice_get-append}
use Rattle.etagere_base.specs.declared.frames.Frame.{Frame}
use Rattle.bucketed_model.specs.State.{BucketShelf, column_height, Bucket, is_idle_bucket}
use Rattle.bucketed_model.proofs.Shelving.Shelves.{column_height-append}
use Rattle.bucketed_records.specs.Private.Store.{last_kept, kept_shelf, kept_shelves, live_items}
use Rattle.bucketed_records.specs.declared.records.KeptShelf.{KeptShelf}

-- so many are kept as there are shelves
pub length-kept : (frame : Frame) (before xs : List BucketShelf) → length (kept_shelves frame before xs) ≡ length xs
length-kept frame before [] = refl
length-kept frame before (x ∷ xs) = ap suc (length-kept frame (before ++ x ∷ []) xs)

-- what is kept of shelves end to end
pub kept-append : (frame : Frame) (before xs ys : List BucketShelf) → kept_shelves frame before (xs ++ ys) ≡ kept_shelves frame before xs ++ kept_shelves frame (before ++ xs) ys
kept-append frame before [] ys = ap (λ (zs : List BucketShelf). kept_shelves frame zs ys) (sym (append-nil before))
kept-append frame before (x ∷ xs) ys =
    ap (λ (ks : List KeptShelf). kept_shelf frame before x ∷ ks)
    (kept-append frame (before ++ x ∷ []) xs ys
    ∙ ap (λ (zs : List BucketShelf). kept_shelves frame (before ++ x ∷ []) xs ++ kept_shelves frame zs ys) (append_assoc before (x ∷ []) xs))

-- only the heights before shelves matter to what is kept of them
pub kept-heights : (frame : Frame) (one other xs : List BucketShelf) → ((column : ℕ) → column_height column one ≡ column_height column other)
    → kept_shelves frame one xs ≡ kept_shelves frame other xs
kept-heights frame one other [] same = refl
kept-heights frame one other (x ∷ xs) same =
    let rest = kept-heights frame (one ++ x ∷ []) (other ++ x ∷ []) xs
    (λ c. omega (arith, same c, column_height-append c one (x ∷ []), column_height-append c other (x ∷ []))) in
    rw (same x.column, rest) refl

-- a list has a last element
pub record HasEnd {X : Type 0} (xs : List X) : Type 0 where
  pub front : List X
  pub last : X
  pub whole : xs ≡ front ++ last ∷ []

pub has-end : {X : Type 0} (x : X) (xs : List X) → HasEnd (x ∷ xs)
has-end x [] = record { front = []; last = x; whole = refl }
has-end x (y ∷ ys) =
    let end = has-end y ys in
    record { front = x ∷ end.front; last = end.last; whole = ap (λ (zs : List _). x ∷ zs) end.whole }

-- the last shelf of some, if there is one
pub data Ends (ss : List BucketShelf) : Type 0 where
  nothing : ss ≡ [] → Ends ss
  last : (front : List BucketShelf) (x : BucketShelf) → ss ≡ front ++ x ∷ [] → Ends ss

-- the last shelf of shelves
pub ends-of : (ss : List BucketShelf) → Ends ss
ends-of [] = nothing refl
ends-of (s ∷ ss) = let end = has-end s ss in last end.front end.last end.whole

-- the last of kept shelves
pub last-kept : (frame : Frame) (front : List BucketShelf) (x : BucketShelf) → last_kept (kept_shelves frame [] (front ++ x ∷ [])) ≡ Some (kept_shelf frame front x)
last-kept frame front x =
    let kept = kept_shelf frame front x in
    ap last_kept (kept-append frame [] front (x ∷ []))
    ∙ slice_get-append (kept_shelves frame [] front) kept [] (length (kept_shelves frame [] front ++ kept ∷ []) - 1) (omega (arith, length-append (kept_shelves frame [] front) (kept ∷ [])))

-- nothing is live in buckets where none is live in each
pub live-idle : (bs : List Bucket) → (live_items bs == 0) ≡ list_all is_idle_bucket bs
live-idle [] = refl
live-idle (b ∷ bs) = sum b.live (live_items bs) ∙ ap (λ (t : Bool). (b.live == 0) && t) (live-idle bs)
  where
    sum : (one rest : ℕ) → (one + rest == 0) ≡ ((one == 0) && (rest == 0))
    sum one rest = grind arith
