-- What is found first in a list.
use Rattle.std.proofs.Common.{◌≡◌, ℕ, ◌+◌, ◌≤◌, Bool, true, false, cond, ◌||◌, ◌==◌, Option, Some, List, [], ◌∷◌, ◌++◌, refl, ap, sym, ◌∙◌, arith}
use Rattle.std.proofs.lemmas.Bool.{eqb-true}
use Rattle.std.specs.List.{AllByRecursion, list_any}
use Rattle.std.specs.Prelude.{find, is_some}
use Rattle.etagere_base.specs.Lists.{times}

-- something is found where an element passes the test
pub is_some-find : {X : Type 0} (test : X → Bool) (xs : List X) → is_some (find test xs) ≡ list_any test xs
is_some-find test [] = refl
is_some-find test (x ∷ xs) = by_test (test x) x (find test xs) (list_any test xs) (is_some-find test xs)
  where
    by_test : {X : Type 0} (b : Bool) (x : X) (o : Option X) (c : Bool) → is_some o ≡ c → is_some (cond b (Some x) o) ≡ (b || c)
    by_test true x o c h = refl
    by_test false x o c h = h

-- a new element that passes is found, where none passed before
pub find-new : {X : Type 0} (test : X → Bool) (front : List X) (x : X) (back : List X)
    → list_any test (front ++ back) ≡ false → test x ≡ true → find test (front ++ x ∷ back) ≡ Some x
find-new test [] x back none passes = rw passes refl
find-new test (y ∷ front) x back none passes =
    later (test y) y (list_any test (front ++ back)) (find test (front ++ x ∷ back)) none (λ rest. find-new test front x back rest passes)
  where
    later : {X : Type 0} (b : Bool) (y : X) (c : Bool) (o : Option X) {p : Option X} → (b || c) ≡ false → (c ≡ false → o ≡ p) → cond b (Some y) o ≡ p
    later true y c o none found = absurd (cc)
    later false y c o none found = found none

-- what is found first: it passes, and none before it does
pub record IsFound {X : Type 0} (test : X → Bool) (xs : List X) (x : X) : Type 0 where
  pub front : List X
  pub back : List X
  pub whole : xs ≡ front ++ x ∷ back
  pub fails : AllByRecursion (λ (y : X). test y ≡ false) front
  pub passes : test x ≡ true

-- what is found is the first that passes
pub find-first : {X : Type 0} (test : X → Bool) (xs : List X) (x : X) → find test xs ≡ Some x → IsFound test xs x
find-first test [] x h = absurd (cc)
find-first test (y ∷ ys) x h = by_test (test y) refl h (find-first test ys x)
  where
    by_test : (b : Bool) → test y ≡ b → cond b (Some y) (find test ys) ≡ Some x → (find test ys ≡ Some x → IsFound test ys x) → IsFound test (y ∷ ys) x
    by_test true e h rest =
        let same : y ≡ x = cc in
        record { front = []; back = ys; whole = ap (λ z. z ∷ ys) same; fails = tt; passes = ap test (sym same) ∙ e }
    by_test false e h rest =
        let later = rest h in
        record { front = y ∷ later.front; back = later.back; whole = ap (λ l. y ∷ l) later.whole; fails = (e, later.fails); passes = later.passes }

-- where a number in the list passes, one is found
pub find-any : (test : ℕ → Bool) (xs : List ℕ) (x : ℕ) → test x ≡ true → 1 ≤ times x xs → (y : ℕ) × (find test xs ≡ Some y)
find-any test [] x passes h = absurd (omega arith)
find-any test (y ∷ ys) x passes h = by_test (test y) refl (find-any test ys x passes)
  where
    later : (b : Bool) → (y == x) ≡ b → test y ≡ false → 1 ≤ cond b 1 0 + times x ys → 1 ≤ times x ys
    later true e fails k = let same = eqb-true y x e in absurd (cc)
    later false e fails k = omega arith

    by_test : (b : Bool) → test y ≡ b → (1 ≤ times x ys → (z : ℕ) × (find test ys ≡ Some z)) → (z : ℕ) × (cond b (Some y) (find test ys) ≡ Some z)
    by_test true e rest = (y, refl)
    by_test false e rest = rest (later (y == x) refl e h)
