-- Which fault of a walk is the first.
use Rattle.std.proofs.Common.{◌≡◌, ◌≢◌, ℕ, zero, suc, ◌+◌, ◌<◌, ◌≤◌, Bool, true, false, ◌&&◌, None, Some, List, [], ◌∷◌, ◌++◌, length, get_or, refl, arith}
use Rattle.std.proofs.lemmas.List.{get_or_past}
use Rattle.std.specs.List.{list_any}
use Rattle.std.specs.Prelude.{◌==◌, nat_lt, if◌then◌else◌}
use Rattle.etagere_base.specs.Lists.{times}
use Rattle.etagere_base.proofs.TimesLemmas.{times-append}
use Rattle.etagere_links.specs.declared.marking.WalkFault.TheVariants.{Marked, Circular}
use Rattle.etagere_links.specs.Links.{no_link}
use Rattle.etagere_links.specs.Marks.{HasTwice, IsMarkedBy}
use Rattle.etagere_links.specs.WalkFaults.{first_fault}
use Rattle.etagere_links.specs.Walks.{Walked}
use Rattle.etagere_links.proofs.ListEnds.{times-here, times-other}

-- the marked numbers below one
abbrev marked_below : ℕ → List Bool → List ℕ
marked_below zero marks = []
marked_below (suc n) marks = if get_or marks n false then n ∷ marked_below n marks else marked_below n marks

-- each of them stands there once
times-marked : (n : ℕ) (marks : List Bool) (k : ℕ) → times k (marked_below n marks) ≡ (if nat_lt k n && get_or marks k false then 1 else 0)
times-marked zero marks k = grind arith
times-marked (suc n) marks k = by_test (n == k) refl (get_or marks n false) refl (times-marked n marks k)
  where
    by_test : (same : Bool) → (n == k) ≡ same → (mark : Bool) → get_or marks n false ≡ mark
        → times k (marked_below n marks) ≡ (if nat_lt k n && get_or marks k false then 1 else 0)
        → times k (if mark then n ∷ marked_below n marks else marked_below n marks) ≡ (if nat_lt k (suc n) && get_or marks k false then 1 else 0)
    by_test true e true m before =
        let is : n ≡ k = grind arith in
        let now : get_or marks k false ≡ true = rw (← is) m in
        let none : times k (marked_below n marks) ≡ 0 = grind (arith, before) in
        let here : times k (n ∷ marked_below n marks) ≡ 1 + times k (marked_below n marks) = grind (arith, e) in
        let one : times k (n ∷ marked_below n marks) ≡ 1 = omega (arith, none, here) in
        rw one (grind (arith, now))
    by_test true e false m before =
        let is : n ≡ k = grind arith in
        let now : get_or marks k false ≡ false = rw (← is) m in
        grind (arith, before, now)
    by_test false e true m before =
        let other : n ≢ k = grind arith in
        rw (times-other k n (marked_below n marks) other) (grind (arith, before))
    by_test false e false m before = grind (arith, before)

-- marks are those of a list
marked-list : (marks : List Bool) → IsMarkedBy marks (marked_below (length marks) marks)
marked-list marks k = by_test (nat_lt k (length marks)) refl
  where
    by_test : (b : Bool) → nat_lt k (length marks) ≡ b → times k (marked_below (length marks) marks) ≡ (if get_or marks k false then 1 else 0)
    by_test true e = grind (arith, times-marked (length marks) marks k)
    by_test false e =
        let past : get_or marks k false ≡ false = get_or_past marks k false (grind arith) in
        grind (arith, times-marked (length marks) marks k, past)

-- a number of a list that is marked is found
found : (marks : List Bool) (met : List ℕ) (k : ℕ) → 1 ≤ times k met → get_or marks k false ≡ true → list_any (λ number. get_or marks number false) met ≡ true
found marks [] k stands marked = absurd (omega (arith, stands))
found marks (m ∷ ms) k stands marked = by_test (m == k) refl (found marks ms k)
  where
    by_test : (b : Bool) → (m == k) ≡ b → (1 ≤ times k ms → get_or marks k false ≡ true → list_any (λ number. get_or marks number false) ms ≡ true)
        → list_any (λ number. get_or marks number false) (m ∷ ms) ≡ true
    by_test true e later =
        let is : m ≡ k = grind arith in
        let here : get_or marks m false ≡ true = rw is marked in
        grind (arith, here)
    by_test false e later =
        let other : m ≢ k = grind arith in
        let rest : list_any (λ number. get_or marks number false) ms ≡ true = later (omega (arith, stands, times-other k m ms other)) marked in
        grind (arith, rest)

-- where no number of a list is marked, none is found
not-found : (marks : List Bool) (met : List ℕ) → ((k : ℕ) → 1 ≤ times k met → get_or marks k false ≡ false) → list_any (λ number. get_or marks number false) met ≡ false
not-found marks [] none = refl
not-found marks (m ∷ ms) none =
    let here : get_or marks m false ≡ false = none m (omega (arith, times-here m ms)) in
    let rest : list_any (λ number. get_or marks number false) ms ≡ false = not-found marks ms (λ k stands. none k (omega (arith, stands))) in
    grind (arith, here, rest)

-- a list of distinct numbers that has with each list of the marked ones a number twice has a marked one
meets-marked : (marks : List Bool) (met : List ℕ) → ((k : ℕ) → times k met ≤ 1) → ((numbers : List ℕ) → IsMarkedBy marks numbers → HasTwice (numbers ++ met))
    → list_any (λ number. get_or marks number false) met ≡ true
meets-marked marks met once twice =
    let both : HasTwice (marked_below (length marks) marks ++ met) = twice (marked_below (length marks) marks) (marked-list marks) in
    by_mark both.0 both.1 (get_or marks both.0 false) refl (marked-list marks both.0)
  where
    by_mark : (k : ℕ) → 2 ≤ times k (marked_below (length marks) marks ++ met) → (b : Bool) → get_or marks k false ≡ b
        → times k (marked_below (length marks) marks) ≡ (if b then 1 else 0) → list_any (λ number. get_or marks number false) met ≡ true
    by_mark k both true m before = found marks met k (omega (arith, both, before, times-append k (marked_below (length marks) marks) met)) m
    by_mark k both false m before = absurd (omega (arith, both, before, once k, times-append k (marked_below (length marks) marks) met))

-- where a list and the marked ones together have each number once, it has no marked one
meets-none : (marks marks_then : List Bool) (met : List ℕ) → ((numbers : List ℕ) → IsMarkedBy marks numbers → IsMarkedBy marks_then (numbers ++ met))
    → list_any (λ number. get_or marks number false) met ≡ false
meets-none marks marks_then met marked =
    let numbers = marked_below (length marks) marks in
    not-found marks met (λ k stands. unmarked k stands (get_or marks k false) refl (get_or marks_then k false) refl (marked-list marks k) (marked numbers (marked-list marks) k))
  where
    unmarked : (k : ℕ) → 1 ≤ times k met → (b : Bool) → get_or marks k false ≡ b → (later : Bool) → get_or marks_then k false ≡ later
        → times k (marked_below (length marks) marks) ≡ (if b then 1 else 0) → times k (marked_below (length marks) marks ++ met) ≡ (if later then 1 else 0)
        → get_or marks k false ≡ false
    unmarked k stands false e later l before after = e
    unmarked k stands true e true l before after = absurd (omega (arith, before, after, stands, times-append k (marked_below (length marks) marks) met))
    unmarked k stands true e false l before after = absurd (omega (arith, before, after, stands, times-append k (marked_below (length marks) marks) met))

-- the fault of one that stops elsewhere and meets a marked record
pub first-marked : (marks : List Bool) (count : ℕ) (walked : Walked) → (walked.end ≢ no_link → walked.end < count) → ((k : ℕ) → times k walked.met ≤ 1)
    → ((numbers : List ℕ) → IsMarkedBy marks numbers → HasTwice (numbers ++ walked.met)) → first_fault marks count walked ≡ Some Marked
first-marked marks count walked within once twice = grind (arith, meets-marked marks walked.met once twice, within)

-- the fault of one that meets none and does not end
pub first-circular : (marks marks_then : List Bool) (count : ℕ) (walked : Walked) → walked.end ≢ no_link → walked.end < count
    → ((numbers : List ℕ) → IsMarkedBy marks numbers → IsMarkedBy marks_then (numbers ++ walked.met)) → first_fault marks count walked ≡ Some Circular
first-circular marks marks_then count walked other within marked = grind (arith, meets-none marks marks_then walked.met marked)

-- one that meets none and ends has no fault
pub first-none : (marks marks_then : List Bool) (count : ℕ) (walked : Walked) → walked.end ≡ no_link
    → ((numbers : List ℕ) → IsMarkedBy marks numbers → IsMarkedBy marks_then (numbers ++ walked.met)) → first_fault marks count walked ≡ None
first-none marks marks_then count walked ends marked = grind (arith, meets-none marks marks_then walked.met marked)
