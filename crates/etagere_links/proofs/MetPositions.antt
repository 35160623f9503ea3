-- A record was met where the position noted for it is one of those that were met, and has it.
use Rattle.std.proofs.Common.{◌≡◌, ◌≢◌, ℕ, zero, suc, ◌+◌, ◌<◌, ◌≤◌, Bool, true, false, List, [], ◌∷◌, ◌++◌, length, drop, get_or, take, refl, ap, arith, sym, ◌∙◌}
use Rattle.std.proofs.Math.ListN.{set}
use Rattle.std.proofs.Math.Seq.{split_at}
use Rattle.etagere_base.proofs.TimesLemmas.{times-append}
use Rattle.etagere_base.specs.Lists.{times}
use Rattle.etagere_links.proofs.ListEnds.{times-here}
use Rattle.std.proofs.lemmas.List.{get_or-set_same, get_or-set_other, get_or_append_left, get_or_push, length-append}
use Rattle.std.proofs.lemmas.Bool.{eq-eqb, eqb-true}
use Rattle.std.specs.Prelude.{◌==◌, nat_lt}
use Rattle.etagere_links.specs.Private.Positions.{ArePositions}
use Rattle.etagere_links.proofs.WalkSteps.{has}

-- a number at a position stands in the list
pub has-at : (numbers : List ℕ) (position number : ℕ) → position < length numbers → get_or numbers position 0 ≡ number
    → has number numbers ≡ true
has-at [] position number within e = absurd (omega arith)
has-at (n ∷ ns) zero number within e = grind arith
has-at (n ∷ ns) (suc position) number within e = grind (arith, has-at ns position number (omega arith) e)

-- a number that stands in a list does so at a position
record IsAt (numbers : List ℕ) (number : ℕ) : Type 0 where
  position : ℕ
  within : position < length numbers
  is : get_or numbers position 0 ≡ number

has-position : (numbers : List ℕ) (number : ℕ) → has number numbers ≡ true → IsAt numbers number
has-position [] number h = absurd (cc)
has-position (n ∷ ns) number h = by_test (n == number) refl (has-position ns number)
  where
    by_test : (b : Bool) → (n == number) ≡ b → (has number ns ≡ true → IsAt ns number) → IsAt (n ∷ ns) number
    by_test true e later = record { position = 0; within = omega arith; is = grind arith }
    by_test false e later =
        let rest = later (grind arith) in
        record { position = suc rest.position; within = omega (arith, rest.within); is = rest.is }

-- the position noted for a number that stands in the list is one of the list's, and has it
pub has-noted : (positions met : List ℕ) (number : ℕ) → ArePositions positions met → has number met ≡ true
    → (get_or positions number 0 < length met) × (get_or met (get_or positions number 0) 0 ≡ number)
has-noted positions met number at_positions h =
    let found = has-position met number h in
    let noted : get_or positions number 0 ≡ found.position = ap (λ (n : ℕ). get_or positions n 0) (sym found.is) ∙ at_positions found.position found.within in
    (rw noted found.within, rw noted found.is)

-- the positions after one more was met that was not met before
pub at_positions-more : (positions met : List ℕ) (number position : ℕ) → number < length positions → position ≡ length met
    → has number met ≡ false → ArePositions positions met → ArePositions (set positions number position) (met ++ number ∷ [])
at_positions-more positions met number position within last fresh at_positions k below = by_test (k == length met) refl
  where
    by_test : (b : Bool) → (k == length met) ≡ b → get_or (set positions number position) (get_or (met ++ number ∷ []) k 0) 0 ≡ k
    by_test true e =
        let here : k ≡ length met = grind arith in
        let is : get_or (met ++ number ∷ []) k 0 ≡ number = get_or_push met number 0 k (sym here) in
        rw is (get_or-set_same positions number position 0 within ∙ last ∙ sym here)
    by_test false e =
        let before : k < length met = grind (arith, length-append met (number ∷ [])) in
        let is : get_or (met ++ number ∷ []) k 0 ≡ get_or met k 0 = get_or_append_left met (number ∷ []) 0 k before in
        let other : get_or met k 0 ≢ number = λ same. let found = has-at met k number before same in absurd (cc) in
        rw is (get_or-set_other positions number (get_or met k 0) position 0 other ∙ at_positions k before)

-- where the position noted is one of those that were met, it has the number exactly where that was met
pub noted-within : (positions met : List ℕ) (position number : ℕ) → position ≡ get_or positions number 0 → position < length met
    → ArePositions positions met → (get_or met position 0 == number) ≡ has number met
noted-within positions met position number noted within at_positions = by_test (has number met) refl
  where
    by_test : (b : Bool) → has number met ≡ b → (get_or met position 0 == number) ≡ b
    by_test true e =
        let at : get_or met (get_or positions number 0) 0 ≡ number = (has-noted positions met number at_positions e).1 in
        let here : get_or met position 0 ≡ number = ap (λ (n : ℕ). get_or met n 0) noted ∙ at in
        eq-eqb (get_or met position 0) number here
    by_test false e = other (get_or met position 0 == number) refl
      where
        other : (b : Bool) → (get_or met position 0 == number) ≡ b → b ≡ false
        other true same = let found = has-at met position number within (eqb-true (get_or met position 0) number same) in absurd (cc)
        other false same = refl

-- where it is none of those, the number was not met
pub noted-past : (positions met : List ℕ) (position number : ℕ) → position ≡ get_or positions number 0 → length met ≤ position
    → ArePositions positions met → nat_lt position (length met) ≡ has number met
noted-past positions met position number noted past at_positions = by_test (has number met) refl
  where
    by_test : (b : Bool) → has number met ≡ b → nat_lt position (length met) ≡ b
    by_test true e = absurd (omega (arith, noted, past, (has-noted positions met number at_positions e).0))
    by_test false e = grind arith

-- a number that stands nowhere in a list is not found
not-has : (number : ℕ) (numbers : List ℕ) → times number numbers ≡ 0 → has number numbers ≡ false
not-has number [] none = refl
not-has number (n ∷ ns) none = by_test (n == number) refl (not-has number ns)
  where
    by_test : (b : Bool) → (n == number) ≡ b → (times number ns ≡ 0 → has number ns ≡ false) → has number (n ∷ ns) ≡ false
    by_test true e later =
        let here : 1 ≤ times number (n ∷ ns) = grind (arith, e) in
        absurd (omega (arith, none, here))
    by_test false e later =
        let rest : times number ns ≡ 0 = grind (arith, e, none) in
        grind (arith, e, later rest)

-- the next of distinct numbers is none of those before it
pub fresh-next : (met : List ℕ) (i number : ℕ) → i < length met → number ≡ get_or met i 0 → ((k : ℕ) → times k met ≤ 1)
    → has number (take i met) ≡ false
fresh-next met i number below is once =
    let split : met ≡ take i met ++ number ∷ drop (suc i) met = split_at met i 0 below ∙ ap (λ (n : ℕ). take i met ++ n ∷ drop (suc i) met) (sym is) in
    let count : times number met ≡ times number (take i met) + times number (number ∷ drop (suc i) met) =
    ap (times number) split ∙ times-append number (take i met) (number ∷ drop (suc i) met) in
    not-has number (take i met) (omega (arith, once number, count, times-here number (drop (suc i) met)))
