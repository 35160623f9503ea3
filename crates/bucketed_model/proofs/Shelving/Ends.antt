-- Shelves without their end of such as hold nothing live.
use Rattle.std.proofs.Common.{◌≡◌, Bool, true, false, cond, List, [], ◌∷◌, ◌++◌, refl, ap}
use Rattle.std.proofs.lemmas.Bool.{and_parts}
use Rattle.std.specs.List.{list_all}
use Rattle.bucketed_model.specs.Returning.{kept_before, without_idle_end}
use Rattle.bucketed_model.specs.State.{BucketShelf, BucketedState, fresh, is_idle}
use Rattle.bucketed_model.specs.Valid.{IsValid, ends_idle}

-- what is dropped stood at the end, and in_buckets nothing live
pub record DropsEnd (xs : List BucketShelf) : Type 0 where
  pub back : List BucketShelf
  pub whole : xs ≡ without_idle_end xs ++ back
  pub idle : list_all is_idle back ≡ true

-- only an end that holds nothing live is dropped
pub drops-end : (xs : List BucketShelf) → DropsEnd xs
drops-end [] = record { back = []; whole = refl; idle = refl }
drops-end (x ∷ xs) = before (without_idle_end xs) refl (drops-end xs)
  where
    before : (rest : List BucketShelf) → without_idle_end xs ≡ rest → DropsEnd xs → DropsEnd (x ∷ xs)
    before [] e drops = by_test (is_idle x) refl
      where
        by_test : (b : Bool) → is_idle x ≡ b → DropsEnd (x ∷ xs)
        by_test true t = record { back = x ∷ xs; whole = rw (e, t) refl; idle = rw t (let same : xs ≡ drops.back = rw e at drops.whole in rw same drops.idle) }
        by_test false t = record { back = drops.back; whole = rw (e, t) (ap (λ (ys : List BucketShelf). x ∷ ys) (rw e at drops.whole)); idle = drops.idle }
    before (y ∷ ys) e drops = record { back = drops.back; whole = rw e (ap (λ (zs : List BucketShelf). x ∷ zs) (rw e at drops.whole)); idle = drops.idle }

-- what is left ends with a shelf that holds something live
pub ends_busy : (xs : List BucketShelf) → ends_idle (without_idle_end xs) ≡ false
ends_busy [] = refl
ends_busy (x ∷ xs) = before (without_idle_end xs) (ends_busy xs)
  where
    before : (rest : List BucketShelf) → ends_idle rest ≡ false → ends_idle (kept_before x rest) ≡ false
    before [] h = by_test (is_idle x) refl
      where
        by_test : (b : Bool) → is_idle x ≡ b → ends_idle (cond b [] (x ∷ [])) ≡ false
        by_test true t = refl
        by_test false t = t
    before (y ∷ ys) h = h

-- shelves that end with something live don't all hold nothing
pub all-idle : (xs : List BucketShelf) → ends_idle xs ≡ false → list_all is_idle xs ≡ true → xs ≡ []
all-idle [] ends idle = refl
all-idle (x ∷ []) ends idle = let none = and_parts (is_idle x) true idle in absurd (cc)
all-idle (x ∷ y ∷ ys) ends idle =
    let rest = and_parts (is_idle x) (list_all is_idle (y ∷ ys)) idle in
    let none : y ∷ ys ≡ [] = all-idle (y ∷ ys) ends rest.1 in absurd (cc)

-- a valid state in which nothing is live is that of a new atlas of its frame
pub idle-fresh : (state : BucketedState) → IsValid state → list_all is_idle state.shelves ≡ true → state ≡ fresh state.frame
idle-fresh state valid idle =
    ap (λ (shelves : List BucketShelf). let s : BucketedState = record { frame = state.frame; shelves = shelves } in s)
    (all-idle state.shelves valid.ends idle)
