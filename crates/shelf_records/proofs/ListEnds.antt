-- The ends of a list.
use Rattle.std.proofs.Common.{◌≡◌, ℕ, ◌≤◌, Option, None, Some, List, [], ◌∷◌, ◌++◌, refl, arith}
use Rattle.etagere_base.specs.Lists.{times}
use Rattle.shelf_records.specs.ListEnds.{first_or, last_or}

-- the last of a list stands in it
pub last-stands : (xs : List ℕ) (x n : ℕ) → last_or (Some x) xs ≡ Some n → 1 ≤ times n (x ∷ xs)
last-stands [] x n last = let same : x ≡ n = cc in grind arith
last-stands (y ∷ ys) x n last = let later = last-stands ys y n last in omega (arith, later)

-- the first of a list stands in it
pub first-stands : (xs : List ℕ) (n : ℕ) → first_or None xs ≡ Some n → 1 ≤ times n xs
first-stands [] n first = cc
first-stands (y ∷ ys) n first = let same : y ≡ n = cc in grind arith

-- the last of a list, if any, stands in it
pub last-stands-in : (xs : List ℕ) (n : ℕ) → last_or None xs ≡ Some n → 1 ≤ times n xs
last-stands-in [] n last = cc
last-stands-in (x ∷ xs) n last = last-stands xs x n last

-- the last of a list with one more at its end
pub last-append : (xs : List ℕ) (x : ℕ) (other : Option ℕ) → last_or other (xs ++ x ∷ []) ≡ Some x
last-append [] x other = refl
last-append (y ∷ ys) x other = last-append ys x (Some y)

-- the first of a list does not turn on what comes after a member
pub first-append : (xs ys zs : List ℕ) (x : ℕ) (other : Option ℕ) → first_or other (xs ++ x ∷ ys) ≡ first_or other (xs ++ x ∷ zs)
first-append [] ys zs x other = refl
first-append (y ∷ xs) ys zs x other = refl
