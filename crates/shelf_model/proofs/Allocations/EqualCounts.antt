-- Lists in which each number stands as often: their images, and their lengths.
use Rattle.std.proofs.Common.{◌≡◌, ℕ, ◌≤◌, Bool, true, false, ◌==◌, List, [], ◌∷◌, ◌++◌, length, map, refl, ap, sym, arith}
use Rattle.std.proofs.lemmas.Bool.{eqb-true}
use Rattle.std.proofs.lemmas.List.{length-append, map-append}
use Rattle.etagere_base.proofs.TimesLemmas.{times-append, times-here}
use Rattle.etagere_base.specs.Lists.{times}

-- where a number stands in a list
record StandsAt (x : ℕ) (ys : List ℕ) : Type 0 where
  pub front : List ℕ
  pub back : List ℕ
  pub whole : ys ≡ front ++ x ∷ back

-- a number that is counted in a list stands in it
stands_at : (x : ℕ) (ys : List ℕ) → 1 ≤ times x ys → StandsAt x ys
stands_at x [] counted = absurd (omega (arith, counted))
stands_at x (y ∷ ys) counted = by_test (y == x) refl (stands_at x ys)
  where
    by_test : (b : Bool) → (y == x) ≡ b → (1 ≤ times x ys → StandsAt x ys) → StandsAt x (y ∷ ys)
    by_test true e later = record { front = []; back = ys; whole = ap (λ (n : ℕ). n ∷ ys) (eqb-true y x e) }
    by_test false e later =
        let found = later (grind (arith, counted)) in
        record { front = y ∷ found.front; back = found.back; whole = ap (λ ns. y ∷ ns) found.whole }

-- a list in which no number stands is empty
no_members : (ys : List ℕ) → ((k : ℕ) → times k ys ≡ 0) → ys ≡ []
no_members [] none = refl
no_members (y ∷ ys) none = absurd (omega (arith, none y, times-here y ys))

-- the first of one list stands in the other
first_at : (x : ℕ) (xs ys : List ℕ) → ((k : ℕ) → times k (x ∷ xs) ≡ times k ys) → StandsAt x ys
first_at x xs ys same = stands_at x ys (omega (arith, same x, times-here x xs))

-- without it each number stands as often again
others-same : (x : ℕ) (xs ys : List ℕ) → ((k : ℕ) → times k (x ∷ xs) ≡ times k ys) → (at : StandsAt x ys)
    → (k : ℕ) → times k xs ≡ times k (at.front ++ at.back)
others-same x xs ys same at k =
    omega (
      arith,
      same k,
      ap (times k) at.whole,
      times-append k at.front (x ∷ at.back),
      times-append k at.front at.back,
    )

-- where two lists have each number as often, so have their images
pub times-map : (f : ℕ → ℕ) (xs ys : List ℕ) → ((k : ℕ) → times k xs ≡ times k ys) → (n : ℕ)
    → times n (map f xs) ≡ times n (map f ys)
times-map f [] ys same n = ap (λ zs. times n (map f zs)) (sym (no_members ys (λ k. sym (same k))))
times-map f (x ∷ xs) ys same n =
    let at = first_at x xs ys same in
    omega (
      arith,
      times-map f xs (at.front ++ at.back) (others-same x xs ys same at) n,
      ap (λ zs. times n (map f zs)) at.whole,
      ap (times n) (map-append f at.front (x ∷ at.back)),
      ap (times n) (map-append f at.front at.back),
      times-append n (map f at.front) (map f (x ∷ at.back)),
      times-append n (map f at.front) (map f at.back),
    )

-- and they are as long
pub times-length : (xs ys : List ℕ) → ((k : ℕ) → times k xs ≡ times k ys) → length xs ≡ length ys
times-length [] ys same = ap length (sym (no_members ys (λ k. sym (same k))))
times-length (x ∷ xs) ys same =
    let at = first_at x xs ys same in
    omega (
      arith,
      times-length xs (at.front ++ at.back) (others-same x xs ys same at),
      ap length at.whole,
      length-append at.front (x ∷ at.back),
      length-append at.front at.back,
    )
