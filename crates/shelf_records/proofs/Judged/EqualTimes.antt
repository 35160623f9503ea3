-- Lists in which each number stands as often: one with no number more often than another is no longer, and where it is
-- as long, each number stands as often.
use Rattle.std.proofs.Common.{◌≡◌, ◌≢◌, ℕ, ◌+◌, ◌≤◌, Bool, true, false, List, [], ◌∷◌, length, refl, arith}
use Rattle.std.specs.Prelude.{◌==◌, if◌then◌else◌}
use Rattle.etagere_base.specs.Lists.{times}
use Rattle.etagere_links.proofs.ListEnds.{times-here, times-other}

-- a list with the first of a number left out
abbrev one_less : ℕ → List ℕ → List ℕ
one_less n [] = []
one_less n (x ∷ xs) = if x == n then xs else x ∷ one_less n xs

-- how often each number stands where one was left out
times-one_less : (k n : ℕ) (xs : List ℕ) → 1 ≤ times n xs → times k (one_less n xs) + times k (n ∷ []) ≡ times k xs
times-one_less k n [] stands = absurd (omega arith)
times-one_less k n (x ∷ xs) stands = by_test (x == n) refl (times-one_less k n xs)
  where
    by_test : (b : Bool) → (x == n) ≡ b → (1 ≤ times n xs → times k (one_less n xs) + times k (n ∷ []) ≡ times k xs)
        → times k (if b then xs else x ∷ one_less n xs) + times k (n ∷ []) ≡ times k (x ∷ xs)
    by_test true e later =
        let same : x ≡ n = grind arith in
        rw same (omega arith)
    by_test false e later =
        let other : x ≢ n = grind arith in
        omega (arith, later (omega (arith, stands, times-other n x xs other)))

-- how long a list is where one was left out
length-one_less : (n : ℕ) (xs : List ℕ) → 1 ≤ times n xs → length (one_less n xs) + 1 ≡ length xs
length-one_less n [] stands = absurd (omega arith)
length-one_less n (x ∷ xs) stands = by_test (x == n) refl (length-one_less n xs)
  where
    by_test : (b : Bool) → (x == n) ≡ b → (1 ≤ times n xs → length (one_less n xs) + 1 ≡ length xs)
        → length (if b then xs else x ∷ one_less n xs) + 1 ≡ length (x ∷ xs)
    by_test true e later = omega arith
    by_test false e later =
        let other : x ≢ n = grind arith in
        omega (arith, later (omega (arith, stands, times-other n x xs other)))

-- what is left where the first was left out of both
fewer-rest : (x : ℕ) (xs ys : List ℕ) → ((k : ℕ) → times k (x ∷ xs) ≤ times k ys) → (k : ℕ) → times k xs ≤ times k (one_less x ys)
fewer-rest x xs ys fewer k =
    omega (arith, fewer k, times-one_less k x ys (omega (arith, fewer x, times-here x xs)))

-- a list with no number more often is no longer
pub length-fewer : (xs ys : List ℕ) → ((k : ℕ) → times k xs ≤ times k ys) → length xs ≤ length ys
length-fewer [] ys fewer = omega arith
length-fewer (x ∷ xs) ys fewer =
    omega (
      arith,
      length-one_less x ys (omega (arith, fewer x, times-here x xs)),
      length-fewer xs (one_less x ys) (fewer-rest x xs ys fewer),
    )

-- a list with no number more often that is as long has each number as often
pub times-as_long : (xs ys : List ℕ) → ((k : ℕ) → times k xs ≤ times k ys) → length xs ≡ length ys → (k : ℕ) → times k xs ≡ times k ys
times-as_long [] [] fewer long k = refl
times-as_long [] (y ∷ ys) fewer long k = absurd (omega (arith, long))
times-as_long (x ∷ xs) ys fewer long k =
    let stands : 1 ≤ times x ys = omega (arith, fewer x, times-here x xs) in
    omega (
      arith,
      times-one_less k x ys stands,
      times-as_long xs (one_less x ys) (fewer-rest x xs ys fewer) (omega (arith, long, length-one_less x ys stands)) k,
    )
