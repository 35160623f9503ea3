-- Facts of each element of a list.
use Rattle.std.proofs.Common.{◌≡◌, ℕ, zero, suc, Bool, false, Some, List, [], ◌∷◌, ◌++◌, refl, subst, filter}
use Rattle.std.proofs.lemmas.Bool.{cond_both}
use Rattle.std.specs.List.{AllByRecursion, list_any}
use Rattle.std.specs.Prelude.{slice_get}

-- a fact of each element is one of the element of a number
pub Each-get : {X : Type 0} (P : X → Type 0) (xs : List X) (n : ℕ) (x : X) → slice_get xs n ≡ Some x → AllByRecursion P xs → P x
Each-get P [] n x h ps = absurd (cc)
Each-get P (y ∷ ys) zero x h ps = let same : y ≡ x = cc in subst P same ps.0
Each-get P (y ∷ ys) (suc n) x h ps = Each-get P ys n x h ps.1

-- two facts of each element
pub Each-both : {X : Type 0} (P Q : X → Type 0) (xs : List X) → AllByRecursion P xs → AllByRecursion Q xs → AllByRecursion (λ (x : X). P x × Q x) xs
Each-both P Q [] ps qs = tt
Each-both P Q (x ∷ xs) ps qs = ((ps.0, qs.0), Each-both P Q xs ps.1 qs.1)

-- no element passes a test that each fails
pub list_any-none : {X : Type 0} (test : X → Bool) (xs : List X)
    → AllByRecursion (λ (x : X). test x ≡ false) xs → list_any test xs ≡ false
list_any-none test [] fails = refl
list_any-none test (x ∷ xs) fails = rw (fails.0, list_any-none test xs fails.1)

-- what holds of each element is weakened
pub Each-weaken : {X : Type 0} (P Q : X → Type 0) (xs : List X) → ((x : X) → P x → Q x) → AllByRecursion P xs → AllByRecursion Q xs
Each-weaken P Q [] weaken each = tt
Each-weaken P Q (x ∷ xs) weaken each = (weaken x each.0, Each-weaken P Q xs weaken each.1)

-- two lists whose elements keep a fact, end to end
pub Each-append : {X : Type 0} (P : X → Type 0) (xs ys : List X) → AllByRecursion P xs → AllByRecursion P ys → AllByRecursion P (xs ++ ys)
Each-append P [] ys front back = back
Each-append P (x ∷ xs) ys front back = (front.0, Each-append P xs ys front.1 back)

-- the facts of the front
pub Each-front : {X : Type 0} (P : X → Type 0) (xs ys : List X) → AllByRecursion P (xs ++ ys) → AllByRecursion P xs
Each-front P [] ys each = tt
Each-front P (x ∷ xs) ys each = (each.0, Each-front P xs ys each.1)

-- the facts of the back
pub Each-back : {X : Type 0} (P : X → Type 0) (xs ys : List X) → AllByRecursion P (xs ++ ys) → AllByRecursion P ys
Each-back P [] ys each = each
Each-back P (x ∷ xs) ys each = Each-back P xs ys each.1

-- the fact of the element in the middle
pub Each-middle : {X : Type 0} (P : X → Type 0) (xs : List X) (y : X) (ys : List X) → AllByRecursion P (xs ++ y ∷ ys) → P y
Each-middle P xs y ys each = (Each-back P xs (y ∷ ys) each).0

-- the facts of the others, without the element in the middle
pub Each-remove_number : {X : Type 0} (P : X → Type 0) (xs : List X) (y : X) (ys : List X)
    → AllByRecursion P (xs ++ y ∷ ys) → AllByRecursion P (xs ++ ys)
Each-remove_number P xs y ys each =
    Each-append P xs ys (Each-front P xs (y ∷ ys) each) (Each-back P xs (y ∷ ys) each).1

-- a fact of each stays with those that pass a test
pub Each-filter : {X : Type 0} (P : X → Type 0) (test : X → Bool) (xs : List X) → AllByRecursion P xs → AllByRecursion P (filter test xs)
Each-filter P test [] each = tt
Each-filter P test (x ∷ xs) each =
    cond_both (test x) (x ∷ filter test xs) (filter test xs) (AllByRecursion P)
    (λ _. (each.0, Each-filter P test xs each.1)) (λ _. Each-filter P test xs each.1)

-- what holds of everything holds of each element
pub Each-all : {X : Type 0} (P : X → Type 0) → ((x : X) → P x) → (xs : List X) → AllByRecursion P xs
Each-all P all [] = tt
Each-all P all (x ∷ xs) = (all x, Each-all P all xs)
