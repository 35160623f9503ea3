-- Numbers that differ and are below a length are no more than that length.
use Rattle.std.proofs.Common.{◌≡◌, ◌≢◌, ℕ, zero, suc, ◌+◌, ◌<◌, ◌≤◌, Bool, true, false, List, [], ◌∷◌, length, refl, arith}
use Rattle.std.specs.Prelude.{◌==◌}
use Rattle.etagere_base.specs.Lists.{times}
use Rattle.etagere_links.proofs.ListEnds.{times-here, times-other}

-- how many members of a list are below a number
abbrev tally : ℕ → List ℕ → ℕ
tally zero xs = 0
tally (suc n) xs = times n xs + tally n xs

-- none of no members
tally-none : (n : ℕ) → tally n [] ≡ 0
tally-none zero = refl
tally-none (suc n) = omega (arith, tally-none n)

-- a member that is not below the number does not count
tally-past : (n x : ℕ) (xs : List ℕ) → n ≤ x → tally n (x ∷ xs) ≡ tally n xs
tally-past zero x xs past = refl
tally-past (suc n) x xs past =
    let rest : tally n (x ∷ xs) ≡ tally n xs = tally-past n x xs (omega arith) in
    let other : times n (x ∷ xs) ≡ times n xs = times-other n x xs (λ e. omega (arith, past)) in
    omega (arith, rest, other)

-- a member below the number counts
tally-below : (n x : ℕ) (xs : List ℕ) → x < n → tally n (x ∷ xs) ≡ 1 + tally n xs
tally-below zero x xs below = absurd (omega arith)
tally-below (suc n) x xs below = by_test (x == n) refl (tally-below n x xs)
  where
    by_test : (b : Bool) → (x == n) ≡ b → (x < n → tally n (x ∷ xs) ≡ 1 + tally n xs) → tally (suc n) (x ∷ xs) ≡ 1 + tally (suc n) xs
    by_test true e later =
        let same : x ≡ n = grind arith in
        let rest : tally n (x ∷ xs) ≡ tally n xs = tally-past n x xs (omega arith) in
        let here : times n (x ∷ xs) ≡ 1 + times n xs = rw same (times-here n xs) in
        omega (arith, rest, here)
    by_test false e later =
        let other : x ≢ n = grind arith in
        let rest : tally n (x ∷ xs) ≡ 1 + tally n xs = later (omega (arith, below, other)) in
        omega (arith, rest, times-other n x xs other)

-- where all members are below the number, all count
tally-all : (n : ℕ) (xs : List ℕ) → ((k : ℕ) → 1 ≤ times k xs → k < n) → tally n xs ≡ length xs
tally-all n [] within = tally-none n
tally-all n (x ∷ xs) within =
    let here : tally n (x ∷ xs) ≡ 1 + tally n xs = tally-below n x xs (within x (omega (arith, times-here x xs))) in
    let rest : tally n xs ≡ length xs = tally-all n xs (λ k stands. within k (omega (arith, stands))) in
    omega (arith, here, rest)

-- where each stands once at most, the count is at most the number
tally-once : (n : ℕ) (xs : List ℕ) → ((k : ℕ) → times k xs ≤ 1) → tally n xs ≤ n
tally-once zero xs once = omega arith
tally-once (suc n) xs once = omega (arith, once n, tally-once n xs once)

-- where each below the number stands once, the count is the number
tally-each : (n : ℕ) (xs : List ℕ) → ((k : ℕ) → k < n → times k xs ≡ 1) → tally n xs ≡ n
tally-each zero xs each = refl
tally-each (suc n) xs each = omega (arith, each n, tally-each n xs (λ k below. each k (omega arith)))

-- numbers below n, each once at most, are at most n
pub length-once : (n : ℕ) (xs : List ℕ) → ((k : ℕ) → times k xs ≤ 1) → ((k : ℕ) → 1 ≤ times k xs → k < n) → length xs ≤ n
length-once n xs once within = rw (← tally-all n xs within) (tally-once n xs once)

-- the numbers below n, each once, and no others, are n
pub length-each : (n : ℕ) (xs : List ℕ) → ((k : ℕ) → k < n → times k xs ≡ 1) → ((k : ℕ) → 1 ≤ times k xs → k < n) → length xs ≡ n
length-each n xs each within = rw (← tally-all n xs within) (tally-each n xs each)
