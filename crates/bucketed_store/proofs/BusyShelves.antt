-- Shelves that hold something live or have no height, so that a search for some to be merged may pass over them.
use Rattle.std.proofs.Common.{◌≡◌, ℕ, zero, suc, ◌+◌, ◌-◌, ◌<◌, ◌≤◌, Bool, true, false, Some, List, [], ◌∷◌, length, take, drop, refl, sym, ap, arith, ◌∙◌, ◌==◌}
use Rattle.std.proofs.lemmas.Bool.{and_parts}
use Rattle.std.proofs.lemmas.Bool.Decides.{nat_tests}
use Rattle.std.proofs.lemmas.Option.{slice_get_within}
use Rattle.std.specs.List.{list_all}
use Rattle.std.specs.Prelude.{nat_le, nat_lt, slice_get, ◌&&◌}
use Rattle.etagere_base.specs.declared.sides.Sides.{Sides}
use Rattle.bucketed_records.specs.Private.Store.{is_kept_idle}
use Rattle.bucketed_records.specs.declared.records.KeptShelf.{KeptShelf}
use Rattle.bucket_index.proofs.Searched.{search-skip}
use Rattle.bucketed_store.specs.Private.Placing.{AreBusyBefore, is_kept_idle_in, kept_height, kept_mergeable, serves_at}

-- a shelf holds something live, if it has a height
abbrev pub IsFlatOrBusy : KeptShelf → Type 0
IsFlatOrBusy kept = 0 < kept.shelf.height → is_kept_idle kept ≡ false

-- the same of the shelf of a number, if it is there
abbrev pub IsSpent : List KeptShelf → ℕ → Type 0
IsSpent shelves number = (kept : KeptShelf) → slice_get shelves number ≡ Some kept → IsFlatOrBusy kept

-- such a shelf has no height where it is idle
flat-idle : (kept : KeptShelf) → IsFlatOrBusy kept → is_kept_idle kept ≡ true → kept.shelf.height ≡ 0
flat-idle kept spent idle = by_test (nat_lt 0 kept.shelf.height) refl
  where
    by_test : (t : Bool) → nat_lt 0 kept.shelf.height ≡ t → kept.shelf.height ≡ 0
    by_test true e = let busy = spent (grind (arith, nat_tests)) in absurd (cc)
    by_test false e = grind (arith, nat_tests)

-- such shelves have no height together where all are idle
flat-height : (place others : ℕ) (xs : List KeptShelf) → ((k : ℕ) → k < others → IsSpent xs k) → list_all (is_kept_idle_in place) (take others xs) ≡ true → kept_height (take others xs) ≡ 0
flat-height place zero xs spent idle = refl
flat-height place (suc others) [] spent idle = refl
flat-height place (suc others) (x ∷ xs) spent idle =
    let parts = and_parts (is_kept_idle_in place x) (list_all (is_kept_idle_in place) (take others xs)) idle in
    let own = and_parts (x.shelf.x == place) (is_kept_idle x) parts.0 in
    omega (
      arith,
      flat-idle x (spent 0 (omega arith) x refl) own.1,
      flat-height place others xs (λ k low kept at. spent (suc k) (omega (arith, low)) kept at) parts.1,
    )

-- such a shelf serves with no such ones after it
serves-none : (sides : Sides) → 0 < sides.across → (others : ℕ) (x : KeptShelf) (xs : List KeptShelf) → IsFlatOrBusy x → ((k : ℕ) → k < others → IsSpent xs k) → serves_at sides others (x ∷ xs) ≡ false
serves-none sides some others x xs own spent = by_idle (is_kept_idle x) refl
  where
    next : List KeptShelf
    next = take others xs

    one : (p s : Bool) → (p && (false && list_all (is_kept_idle_in x.shelf.x) next) && s) ≡ false
    one true s = refl
    one false s = refl

    all : (p s : Bool) → (p && (true && false) && s) ≡ false
    all true s = refl
    all false s = refl

    tall : (p q r : Bool) → r ≡ false → (p && (true && true) && (q && r)) ≡ false
    tall true true r h = h
    tall true false r h = refl
    tall false q r h = refl

    low : (height : ℕ) → height ≡ 0 → nat_le sides.across height ≡ false
    low height none = grind (arith, nat_tests)

    Serves : Bool → Bool → Type 0
    Serves idle same = (length next == others && (idle && same) && (nat_le sides.along x.shelf.bucket_width && nat_le sides.across (x.shelf.height + kept_height next))) ≡ false

    by_all : is_kept_idle x ≡ true → (t : Bool) → list_all (is_kept_idle_in x.shelf.x) next ≡ t → Serves true t
    by_all idle true e =
        tall (length next == others) (nat_le sides.along x.shelf.bucket_width) (nat_le sides.across (x.shelf.height + kept_height next))
        (low (x.shelf.height + kept_height next) (omega (arith, flat-idle x own idle, flat-height x.shelf.x others xs spent e)))
    by_all idle false e = all (length next == others) (nat_le sides.along x.shelf.bucket_width && nat_le sides.across (x.shelf.height + kept_height next))

    by_idle : (t : Bool) → is_kept_idle x ≡ t → serves_at sides others (x ∷ xs) ≡ false
    by_idle true e = rw e (by_all e (list_all (is_kept_idle_in x.shelf.x) next) refl)
    by_idle false e = rw e (one (length next == others) (nat_le sides.along x.shelf.bucket_width && nat_le sides.across (x.shelf.height + kept_height next)))

-- the same of the shelf of a number
serves-spent : (sides : Sides) → 0 < sides.across → (others n : ℕ) (xs : List KeptShelf) → others ≤ 2 → ((k : ℕ) → n ≤ k → k < n + 3 → IsSpent xs k) → serves_at sides others (drop n xs) ≡ false
serves-spent sides some others zero [] few spent = refl
serves-spent sides some others (suc n) [] few spent = refl
serves-spent sides some others zero (x ∷ xs) few spent =
    serves-none sides some others x xs (spent 0 (omega arith) (omega arith) x refl) (λ k low kept at. spent (suc k) (omega arith) (omega (arith, low, few)) kept at)
serves-spent sides some others (suc n) (x ∷ xs) few spent =
    serves-spent sides some others n xs few (λ k low high kept at. spent (suc k) (omega (arith, low)) (omega (arith, high)) kept at)

-- past a shelf that doesn't serve the search goes on
pub mergeable-past : (sides : Sides) (m n : ℕ) (xs : List KeptShelf) → n < length xs → serves_at sides 1 (drop n xs) ≡ false → serves_at sides 2 (drop n xs) ≡ false
    → kept_mergeable sides m (drop n xs) ≡ kept_mergeable sides (suc m) (drop (suc n) xs)
mergeable-past sides m n [] within one two = absurd (omega arith)
mergeable-past sides m zero (x ∷ xs) within one two = rw (one, two) refl
mergeable-past sides m (suc n) (x ∷ xs) within one two = mergeable-past sides m n xs (omega arith) one two

-- past such shelves the search goes on, where the two behind them are such too
pub mergeable-behind : (sides : Sides) → 0 < sides.across → (shelves : List KeptShelf) (from behind : ℕ) → from ≤ behind → (from < behind → (k : ℕ) → from ≤ k → k < behind + 2 → IsSpent shelves k)
    → kept_mergeable sides behind (drop behind shelves) ≡ kept_mergeable sides from (drop from shelves)
mergeable-behind sides some shelves from behind on spent =
    let end : behind ≡ from + (behind - from) = omega (arith, on) in
    ap (λ (k : ℕ). kept_mergeable sides k (drop k shelves)) end
    ∙ sym (search-skip (kept_mergeable sides) shelves from (behind - from) (λ m k. refl)
    (λ k x low high at.
    let each : (m : ℕ) → k ≤ m → m < k + 3 → IsSpent shelves m = λ m least most. spent (omega (arith, low, high, end)) m (omega (arith, low, least)) (omega (arith, high, end, most)) in
    mergeable-past sides k k shelves (slice_get_within shelves k x at) (serves-spent sides some 1 k shelves (omega arith) each) (serves-spent sides some 2 k shelves (omega arith) each)))

-- a shelf that holds something live doesn't serve
serves-busy : (sides : Sides) (others number : ℕ) (xs : List KeptShelf) (kept : KeptShelf) → slice_get xs number ≡ Some kept → is_kept_idle kept ≡ false → serves_at sides others (drop number xs) ≡ false
serves-busy sides others number [] kept at busy = absurd (cc)
serves-busy sides others zero (x ∷ xs) kept at busy =
    by_test (length (take others xs) == others) (is_kept_idle x) _ _ (let same : x ≡ kept = cc in rw same busy)
  where
    by_test : (t u a b : Bool) → u ≡ false → (t && (u && a) && b) ≡ false
    by_test true true a b h = absurd (cc)
    by_test true false a b h = refl
    by_test false u a b h = refl
serves-busy sides others (suc number) (x ∷ xs) kept at busy = serves-busy sides others number xs kept at busy

-- so that a search for some to be merged may begin behind those that do
pub mergeable-busy : (sides : Sides) (shelves : List KeptShelf) (behind : ℕ) → AreBusyBefore behind shelves → kept_mergeable sides behind (drop behind shelves) ≡ kept_mergeable sides 0 shelves
mergeable-busy sides shelves behind busy =
    let end : 0 + behind ≡ behind = omega arith in
    ap (λ (k : ℕ). kept_mergeable sides k (drop k shelves)) (sym end)
    ∙ sym (search-skip (kept_mergeable sides) shelves 0 behind (λ m k. refl)
    (λ k x low high at.
    let busy_at : is_kept_idle x ≡ false = busy k x (omega (arith, high)) at in
    mergeable-past sides k k shelves (slice_get_within shelves k x at) (serves-busy sides 1 k shelves x at busy_at) (serves-busy sides 2 k shelves x at busy_at)))
