-- How often a number stands in a list, and in the list with a number replaced or left out.
use Rattle.std.proofs.Common.{◌≡◌, ◌≢◌, ℕ, ◌+◌, ◌≤◌, Bool, true, false, cond, Some, List, [], ◌∷◌, ◌++◌, refl, ap, arith, ◌∙◌, sym, ◌||◌}
use Rattle.std.proofs.lemmas.Bool.{eq-eqb, eqb-true}
use Rattle.std.specs.List.{flat_map, list_any}
use Rattle.std.specs.Prelude.{find, not, ◌==◌, nat_lt}
use Rattle.etagere_base.specs.Lists.{times, total}
use Rattle.etagere_base.proofs.Totals.{total-append}
use Rattle.etagere_base.specs.Lists.{remove_number, replace_number}

-- a number stands in the list that it is put in front of
pub times-here : (n : ℕ) (xs : List ℕ) → times n (n ∷ xs) ≡ 1 + times n xs
times-here n xs = grind arith

-- another number stands in a list as often as in the list after it
pub times-other : (n x : ℕ) (xs : List ℕ) → x ≢ n → times n (x ∷ xs) ≡ times n xs
times-other n x xs other = grind arith

-- 1 where the two are equal, 0 where not
abbrev pub hit : ℕ → ℕ → ℕ
hit m n = cond (m == n) 1 0

-- how often a number stands in two lists
pub times-append : (n : ℕ) (xs ys : List ℕ) → times n (xs ++ ys) ≡ times n xs + times n ys
times-append n xs ys = total-append (λ m. hit m n) xs ys

-- how often a number stands in lists end to end
pub times-flat_map : {X : Type 0} (n : ℕ) (part : X → List ℕ) (xs : List X) → times n (flat_map part xs) ≡ total (λ x. times n (part x)) xs
times-flat_map n part [] = refl
times-flat_map n part (x ∷ xs) = omega (arith, times-append n (part x) (flat_map part xs), times-flat_map n part xs)

-- 1 is at most a count where the first one counts
counted-here : (y x k : ℕ) → y ≡ x → 1 ≤ hit y x + k
counted-here y x k h = grind arith

-- what is found passes the test and stands in the list
pub find-stands : (test : ℕ → Bool) (xs : List ℕ) (x : ℕ) → find test xs ≡ Some x → (test x ≡ true) × (1 ≤ times x xs)
find-stands test [] x h = cc
find-stands test (y ∷ ys) x h = by_test (test y) refl h (find-stands test ys x)
  where
    by_test : (b : Bool) → test y ≡ b → cond b (Some y) (find test ys) ≡ Some x → (find test ys ≡ Some x → (test x ≡ true) × (1 ≤ times x ys)) → (test x ≡ true) × (1 ≤ times x (y ∷ ys))
    by_test true e k later = let same : y ≡ x = cc in (cc, counted-here y x (times x ys) same)
    by_test false e k later = let found = later k in (found.0, omega (arith, found.1))

-- a number that does not stand in a list is not replaced
replace_number-absent : (n new : ℕ) (ns : List ℕ) → times n ns ≡ 0 → replace_number n new ns ≡ ns
replace_number-absent n new [] h = refl
replace_number-absent n new (m ∷ ms) h =
    let rest : replace_number n new ms ≡ ms = replace_number-absent n new ms (omega (arith, h)) in
    let other : (m == n) ≡ false = grind arith in
    simp (other, rest) refl

-- a number that does not stand in a list is not left out
remove_number-absent : (n : ℕ) (ns : List ℕ) → times n ns ≡ 0 → remove_number n ns ≡ ns
remove_number-absent n [] h = refl
remove_number-absent n (m ∷ ms) h =
    let rest : remove_number n ms ≡ ms = remove_number-absent n ms (omega (arith, h)) in
    let other : (m == n) ≡ false = grind arith in
    simp (other, rest) refl

-- how often a number stands in a list after one that stood there once was replaced
pub times-replace_number : (k n new : ℕ) (ns : List ℕ) → times n ns ≡ 1 → times k (replace_number n new ns) + hit n k ≡ times k ns + hit new k
times-replace_number k n new [] h = cc
times-replace_number k n new (m ∷ ms) h = by_test (m == n) refl (times-replace_number k n new ms)
  where
    by_test : (b : Bool) → (m == n) ≡ b → (times n ms ≡ 1 → times k (replace_number n new ms) + hit n k ≡ times k ms + hit new k) → times k (cond b new m ∷ replace_number n new ms) + hit n k ≡ times k (m ∷ ms) + hit new k
    by_test true e later =
        let same : m ≡ n = grind arith in
        let rest : replace_number n new ms ≡ ms = replace_number-absent n new ms (grind arith) in
        rw (same, rest) (omega arith)
    by_test false e later = omega (arith, later (grind arith))

-- how often a number stands in a list after one that stood there once was left out
pub times-remove_number : (k n : ℕ) (ns : List ℕ) → times n ns ≡ 1 → times k (remove_number n ns) + hit n k ≡ times k ns
times-remove_number k n [] h = cc
times-remove_number k n (m ∷ ms) h = by_test (m == n) refl (times-remove_number k n ms)
  where
    by_test : (b : Bool) → (m == n) ≡ b → (times n ms ≡ 1 → times k (remove_number n ms) + hit n k ≡ times k ms) → times k (cond (not b) (m ∷ remove_number n ms) (remove_number n ms)) + hit n k ≡ times k (m ∷ ms)
    by_test true e later =
        let same : m ≡ n = grind arith in
        let rest : remove_number n ms ≡ ms = remove_number-absent n ms (grind arith) in
        rw (same, rest) (omega arith)
    by_test false e later = omega (arith, later (grind arith))

-- a list in which no number stands is empty
times-nil : (ns : List ℕ) → ((n : ℕ) → times n ns ≡ 0) → ns ≡ []
times-nil [] h = refl
times-nil (m ∷ ms) h = absurd (some (m == m) (times m ms) (eq-eqb m m refl) (h m))
  where
    some : (b : Bool) (k : ℕ) → b ≡ true → cond b 1 0 + k ≡ 0 → ⊥
    some b k h e = grind arith

-- a list in which each number stands as often as in a list of one is that list
pub times-one : (c : ℕ) (ns : List ℕ) → ((n : ℕ) → times n ns ≡ times n (c ∷ [])) → ns ≡ c ∷ []
times-one c [] h = absurd (none (c == c) (eq-eqb c c refl) (h c))
  where
    none : (b : Bool) → b ≡ true → 0 ≡ cond b 1 0 + 0 → ⊥
    none b h e = grind arith
times-one c (m ∷ ms) h =
    let first = matched (m == m) (c == m) (times m ms) (eq-eqb m m refl) (h m) in
    let same : m ≡ c = sym (eqb-true c m first) in
    let none = times-nil ms (λ n. alike m c n (times n ms) same (h n)) in
    cc
  where
    matched : (a b : Bool) (k : ℕ) → a ≡ true → cond a 1 0 + k ≡ cond b 1 0 + 0 → b ≡ true
    matched a b k h e = grind arith

    alike : (m c n k : ℕ) → m ≡ c → cond (m == n) 1 0 + k ≡ cond (c == n) 1 0 + 0 → k ≡ 0
    alike m c n k e h = grind arith

-- an id stands in a list
abbrev pub stands_in : ℕ → List ℕ → Bool
stands_in id numbers = list_any (λ number. number == id) numbers

-- a test or a count behind it as one count
among_step : (b : Bool) (n : ℕ) → (b || nat_lt 0 n) ≡ nat_lt 0 (cond b 1 0 + n)
among_step true n = grind arith
among_step false n = grind arith

-- a number stands in a list where it does so at least once
stands_in-times : (n : ℕ) (ns : List ℕ) → stands_in n ns ≡ nat_lt 0 (times n ns)
stands_in-times n [] = refl
stands_in-times n (m ∷ ms) = ap (λ (b : Bool). (m == n) || b) (stands_in-times n ms) ∙ among_step (m == n) (times n ms)

-- a number that is not found in a list does not stand there
pub absent-times : (n : ℕ) (ns : List ℕ) → stands_in n ns ≡ false → times n ns ≡ 0
absent-times n ns h = none (stands_in n ns) (times n ns) (stands_in-times n ns) h
  where
    none : (b : Bool) (k : ℕ) → b ≡ nat_lt 0 k → b ≡ false → k ≡ 0
    none b k e h = grind arith

-- a number that does not stand in a list is not found there
pub times-absent : (n : ℕ) (ns : List ℕ) → times n ns ≡ 0 → stands_in n ns ≡ false
times-absent n ns h = none (stands_in n ns) (times n ns) (stands_in-times n ns) h
  where
    none : (b : Bool) (k : ℕ) → b ≡ nat_lt 0 k → k ≡ 0 → b ≡ false
    none b k e h = grind arith
