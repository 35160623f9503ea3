-- Among one number more than a list is long, one isn't in it.
use Rattle.std.proofs.Common.{◌≡◌, ℕ, zero, suc, ◌+◌, ◌<◌, ◌≤◌, ◌==◌, Bool, true, false, cond, Some, List, [], ◌∷◌, length, refl, arith}
use Rattle.std.proofs.lemmas.Bool.Decides.{nat_tests}
use Rattle.std.proofs.lemmas.List.{length-map}
use Rattle.std.specs.Map.{keys_of, lookup}
use Rattle.std.specs.Prelude.{is_some, nat_eq, option_map}
use Rattle.etagere_base.specs.Lists.{times}
use Rattle.etagere_base.specs.declared.ids.Allocation.{Allocation}

-- how many numbers below another are this one
hits : ℕ → ℕ → ℕ
hits zero x = 0
hits (suc n) x = cond (x == n) 1 0 + hits n x

hits-above : (n x : ℕ) → n ≤ x → hits n x ≡ 0
unfolding hits
hits-above zero x h = refl
hits-above (suc n) x h = let rest = hits-above n x (omega arith) in grind (arith, nat_tests)

hits-few : (n x : ℕ) → hits n x ≤ 1
unfolding hits
hits-few zero x = omega arith
hits-few (suc n) x = here (x == n) refl (hits-few n x)
  where
    here : (b : Bool) → (x == n) ≡ b → hits n x ≤ 1 → cond b 1 0 + hits n x ≤ 1
    here true h few = let above : n ≤ x = grind (arith, nat_tests) in let none = hits-above n x above in omega arith
    here false h few = omega arith

-- how many elements are below a number
below : ℕ → List ℕ → ℕ
below n [] = 0
below n (x ∷ xs) = hits n x + below n xs

below-few : (n : ℕ) (xs : List ℕ) → below n xs ≤ length xs
unfolding below
below-few n [] = omega arith
below-few n (x ∷ xs) = let one = hits-few n x in let rest = below-few n xs in omega arith

below-more : (n : ℕ) (xs : List ℕ) → below (suc n) xs ≡ times n xs + below n xs
unfolding below hits
below-more n [] = refl
below-more n (x ∷ xs) = let rest = below-more n xs in omega arith

-- a list in which each number below one stands is at least as long
all-below : (n : ℕ) (xs : List ℕ) → ((k : ℕ) → k < n → 1 ≤ times k xs) → n ≤ below n xs
all-below zero xs all = omega arith
all-below (suc n) xs all =
    let here = all n (omega arith) in
    let rest = all-below n xs (λ k h. all k (omega arith)) in
    let more = below-more n xs in
    omega arith

-- a key whose rectangle is there stands among the keys
pub known-stands : (key : ℕ) (es : List (ℕ × Allocation))
    → is_some (option_map (λ (a : Allocation). a.rectangle) (lookup (nat_eq key) es)) ≡ true → 1 ≤ times key (keys_of es)
known-stands key [] h = absurd (cc)
known-stands key (e ∷ es) h = here (nat_eq key e.0) refl h (known-stands key es)
  where
    here : (b : Bool) → nat_eq key e.0 ≡ b → is_some (option_map (λ (a : Allocation). a.rectangle) (cond b (Some e.1) (lookup (nat_eq key) es))) ≡ true
        → (is_some (option_map (λ (a : Allocation). a.rectangle) (lookup (nat_eq key) es)) ≡ true → 1 ≤ times key (keys_of es))
        → 1 ≤ cond (e.0 == key) 1 0 + times key (keys_of es)
    here true t h later = grind (arith, nat_tests)
    here false t h later = let rest = later h in omega arith

-- the keys of entries aren't all numbers up to their length
pub unused : (es : List (ℕ × Allocation)) (n : ℕ) → length es < n
    → ((key : ℕ) → key < n → is_some (option_map (λ (a : Allocation). a.rectangle) (lookup (nat_eq key) es)) ≡ true) → ⊥
unused es n long all =
    let few = below-few n (keys_of es) in
    let many = all-below n (keys_of es) (λ key h. known-stands key es (all key h)) in
    let same = length-map es (λ (e : ℕ × Allocation). e.0) in
    omega arith
