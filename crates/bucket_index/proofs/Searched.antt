-- Searches over shelves that pass over some of them.
use Rattle.std.proofs.Common.{◌≡◌, ℕ, zero, suc, ◌+◌, ◌<◌, ◌≤◌, Bool, true, false, Option, None, Some, option_map, List, [], ◌∷◌, length, map, take, drop, get_or, refl, ap, sym, ◌∙◌, arith}
use Rattle.std.proofs.lemmas.Bool.{ltb-true}
use Rattle.std.proofs.lemmas.List.{take_all}
use Rattle.std.proofs.lemmas.Option.{slice_get-get_or}
use Rattle.std.specs.Prelude.{nat_lt, slice_get}
use Rattle.etagere_base.specs.Least.{Found, better, first_least}
use Rattle.etagere_base.proofs.Least.{best-more}

-- an element of a list, where there is one
element : {X P : Type 0} (xs : List X) (n : ℕ) → ((x : X) → n < length xs → slice_get xs n ≡ Some x → P) → (length xs ≤ n → P) → P
element [] n here past = past (omega arith)
element (x ∷ xs) zero here past = here x (omega arith) refl
element (x ∷ xs) (suc n) here past = element xs n (λ y within at. here y (omega arith) at) (λ h. past (omega arith))

-- the best of more elements is the same where it stays against each of them
pub best-keeps : {X : Type 0} (rank : X → Option ℕ) (xs : List X) (best : Option Found) (n j : ℕ) → first_least (map rank (take n xs)) ≡ best
    → ((k : ℕ) (x : X) → n ≤ k → k < n + j → slice_get xs k ≡ Some x → better best (option_map (λ r. record { number = k; rank = r }) (rank x)) ≡ best)
    → first_least (map rank (take (n + j) xs)) ≡ best
best-keeps rank xs best n zero is stays =
    let same : n + 0 ≡ n = omega arith in
    ap (λ (k : ℕ). first_least (map rank (take k xs))) same ∙ is
best-keeps {X} rank xs best n (suc j) is stays =
    let sum : n + suc j ≡ suc (n + j) = omega arith in
    let before = best-keeps rank xs best n j is (λ k x low high at. stays k x low (omega arith) at) in
    ap (λ (k : ℕ). first_least (map rank (take k xs))) sum
    ∙ element xs (n + j)
    (λ x within at.
    best-more rank xs (n + j) x within
    ∙ ap (λ (y : X). better (first_least (map rank (take (n + j) xs))) (option_map (λ r. record { number = n + j; rank = r }) (rank y))) (read x within at)
    ∙ ap (λ (o : Option Found). better o (option_map (λ r. record { number = n + j; rank = r }) (rank x))) before
    ∙ stays (n + j) x (omega arith) (omega arith) at)
    (λ past. ap (λ (ys : List X). first_least (map rank ys)) (take_all (suc (n + j)) xs (omega arith) ∙ sym (take_all (n + j) xs past)) ∙ before)
  where
    read : (x : X) → n + j < length xs → slice_get xs (n + j) ≡ Some x → get_or xs (n + j) x ≡ x
    read x within at = let got = slice_get-get_or xs (n + j) x within in cc

-- what wastes nothing stays against any
pub better-none : (found : Found) (later : Option Found) → found.rank ≡ 0 → better (Some found) later ≡ Some found
better-none found None zero_ = refl
better-none found (Some later) zero_ = by_test (nat_lt later.rank found.rank) refl
  where
    by_test : (t : Bool) → nat_lt later.rank found.rank ≡ t → better (Some found) (Some later) ≡ Some found
    by_test true e = absurd (omega (arith, zero_, ltb-true later.rank found.rank e))
    by_test false e = rw e refl

-- what was found stays against nothing
pub better-same : (best : Option Found) → better best None ≡ best
better-same None = refl
better-same (Some found) = refl

-- past the end nothing is left
pub drop-past : {X : Type 0} (n : ℕ) (xs : List X) → length xs ≤ n → drop n xs ≡ []
drop-past zero [] past = refl
drop-past zero (x ∷ xs) past = absurd (omega arith)
drop-past (suc n) [] past = refl
drop-past (suc n) (x ∷ xs) past = drop-past n xs (omega arith)

-- a search from one place on is that from a later one where nothing is found between
pub search-skip : {X Y : Type 0} (search_ : ℕ → List X → Y) (xs : List X) (n j : ℕ) → ((m k : ℕ) → search_ m [] ≡ search_ k [])
    → ((k : ℕ) (x : X) → n ≤ k → k < n + j → slice_get xs k ≡ Some x → search_ k (drop k xs) ≡ search_ (suc k) (drop (suc k) xs))
    → search_ n (drop n xs) ≡ search_ (n + j) (drop (n + j) xs)
search-skip search_ xs n zero ends passes =
    let same : n ≡ n + 0 = omega arith in
    ap (λ (k : ℕ). search_ k (drop k xs)) same
search-skip {X} {Y} search_ xs n (suc j) ends passes =
    let sum : suc (n + j) ≡ n + suc j = omega arith in
    search-skip search_ xs n j ends (λ k x low high at. passes k x low (omega arith) at)
    ∙ element xs (n + j) (λ x within at. passes (n + j) x (omega arith) (omega arith) at)
    (λ past. ap (search_ (n + j)) (drop-past (n + j) xs past) ∙ ends (n + j) (suc (n + j)) ∙ ap (search_ (suc (n + j))) (sym (drop-past (suc (n + j)) xs (omega arith))))
    ∙ ap (λ (k : ℕ). search_ k (drop k xs)) sum
