-- Marks after one more record was marked, and what it means that one was marked before.
use Rattle.std.proofs.Common.{◌≡◌, ◌≢◌, ℕ, zero, suc, ◌<◌, ◌≤◌, Bool, true, false, List, [], ◌∷◌, ◌++◌, length, get_or, refl, ap, arith, sym, ◌∙◌}
use Rattle.std.proofs.Math.ListN.{set}
use Rattle.std.proofs.lemmas.List.{get_or-set_same, get_or-set_other, get_or_past}
use Rattle.std.specs.Prelude.{◌==◌, ◌||◌, nat_lt, if◌then◌else◌}
use Rattle.etagere_base.proofs.TimesLemmas.{times-append}
use Rattle.std.specs.List.{AllByRecursion}
use Rattle.etagere_base.specs.Lists.{times}
use Rattle.etagere_links.specs.Marks.{IsMarkedBy}
use Rattle.etagere_links.proofs.ListEnds.{times-here, times-other}
use Rattle.etagere_links.proofs.Tallies.{length-once}
use Rattle.etagere_links.proofs.WalkSteps.{has}

-- what each number of a list keeps, the one at a place does
pub Each-at : (P : ℕ → Type 0) (xs : List ℕ) (i : ℕ) → i < length xs → AllByRecursion P xs → P (get_or xs i 0)
Each-at P [] i within each = absurd (omega arith)
Each-at P (x ∷ xs) zero within each = each.0
Each-at P (x ∷ xs) (suc i) within each = Each-at P xs i (omega arith) each.1

-- the marks once one more is marked, which was not
pub marked-more : (marks : List Bool) (numbers : List ℕ) (at : ℕ) → at < length marks → get_or marks at false ≡ false
    → IsMarkedBy marks numbers → IsMarkedBy (set marks at true) (numbers ++ at ∷ [])
marked-more marks numbers at within unmarked marked k = by_test (at == k) refl
  where
    by_test : (b : Bool) → (at == k) ≡ b
        → times k (numbers ++ at ∷ []) ≡ (if get_or (set marks at true) k false then 1 else 0)
    by_test true e =
        let same : at ≡ k = grind arith in
        let now : get_or (set marks at true) k false ≡ true = rw (← same) (get_or-set_same marks at true false within) in
        let before : get_or marks k false ≡ false = rw (← same) unmarked in
        let none : times k numbers ≡ 0 = marked k ∙ ap (λ (b : Bool). if b then 1 else 0) before in
        let here : times k (at ∷ []) ≡ 1 = rw same (times-here k []) in
        rw now (omega (arith, times-append k numbers (at ∷ []), none, here))
    by_test false e =
        let other : k ≢ at = grind arith in
        let stays : get_or (set marks at true) k false ≡ get_or marks k false = get_or-set_other marks at k true false other in
        let count : times k (numbers ++ at ∷ []) ≡ times k numbers = grind (arith, times-append k numbers (at ∷ []), times-other k at [] (λ e. other (sym e))) in
        rw stays (count ∙ marked k)

-- what is marked is no more than all
pub marked-length : (marks : List Bool) (numbers : List ℕ) → IsMarkedBy marks numbers → length numbers ≤ length marks
marked-length marks numbers marked = length-once (length marks) numbers once within
  where
    once : (k : ℕ) → times k numbers ≤ 1
    once k = at (get_or marks k false) (marked k)
      where
        at : (b : Bool) → times k numbers ≡ (if b then 1 else 0) → times k numbers ≤ 1
        at true e = omega arith
        at false e = omega arith

    within : (k : ℕ) → 1 ≤ times k numbers → k < length marks
    within k stands = by_test (nat_lt k (length marks)) refl
      where
        by_test : (b : Bool) → nat_lt k (length marks) ≡ b → k < length marks
        by_test true e = grind arith
        by_test false e =
            let none : times k numbers ≡ 0 = marked k ∙ ap (λ (b : Bool). if b then 1 else 0) (get_or_past marks k false (grind arith)) in
            absurd (omega (arith, none, stands))

-- a number stands in a list with one more, or is that
has-push : (number at : ℕ) (numbers : List ℕ) → has number (numbers ++ at ∷ []) ≡ (has number numbers || at == number)
has-push number at [] = grind arith
has-push number at (n ∷ numbers) = grind (arith, has-push number at numbers)

-- which are marked once one more is
pub seen-more : (marks marks_before : List Bool) (met : List ℕ) (at : ℕ) → at < length marks
    → ((k : ℕ) → get_or marks k false ≡ (get_or marks_before k false || has k met))
    → (k : ℕ) → get_or (set marks at true) k false ≡ (get_or marks_before k false || has k (met ++ at ∷ []))
seen-more marks marks_before met at within seen k = by_test (at == k) refl
  where
    by_test : (b : Bool) → (at == k) ≡ b → get_or (set marks at true) k false ≡ (get_or marks_before k false || has k (met ++ at ∷ []))
    by_test true e =
        let same : at ≡ k = grind arith in
        let now : get_or (set marks at true) k false ≡ true = rw (← same) (get_or-set_same marks at true false within) in
        rw now (grind (arith, e, has-push k at met))
    by_test false e =
        let other : k ≢ at = grind arith in
        let stays : get_or (set marks at true) k false ≡ get_or marks k false = get_or-set_other marks at k true false other in
        rw stays (grind (arith, e, seen k, has-push k at met))

-- some record is not marked
pub record HasUnmarked (marks : List Bool) : Type 0 where
  pub number : ℕ
  pub within : number < length marks
  pub not_marked : get_or marks number false ≡ false
