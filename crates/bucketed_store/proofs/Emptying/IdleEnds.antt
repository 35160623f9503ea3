-- The longest end of shelves that hold nothing live is dropped by dropping the last one, as long as that holds nothing.
use Rattle.std.proofs.Common.{◌≡◌, true, false, List, [], ◌∷◌, ◌++◌, refl, ap}
use Rattle.bucketed_model.specs.Returning.{kept_before, without_idle_end}
use Rattle.bucketed_model.specs.State.{BucketShelf, is_idle}

-- behind a shelf that is kept, the one before it is kept
kept-front : (x : BucketShelf) (xs : List BucketShelf) (y : BucketShelf) → kept_before x (xs ++ y ∷ []) ≡ x ∷ xs ++ y ∷ []
kept-front x [] y = refl
kept-front x (z ∷ zs) y = refl

-- a last shelf that holds nothing live is dropped
pub idle-last : (xs : List BucketShelf) (x : BucketShelf) → is_idle x ≡ true → without_idle_end (xs ++ x ∷ []) ≡ without_idle_end xs
idle-last [] x idle = rw idle refl
idle-last (y ∷ ys) x idle = ap (kept_before y) (idle-last ys x idle)

-- shelves stay whose last one holds something live
pub busy-last : (xs : List BucketShelf) (x : BucketShelf) → is_idle x ≡ false → without_idle_end (xs ++ x ∷ []) ≡ xs ++ x ∷ []
busy-last [] x busy = rw busy refl
busy-last (y ∷ ys) x busy = rw (busy-last ys x busy) (kept-front y ys x)
