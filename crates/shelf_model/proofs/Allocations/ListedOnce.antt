-- The listing by record numbers has everything that is allocated, each once, and the numbers rise.
use Rattle.std.proofs.Common.{◌≡◌, ◌≢◌, ℕ, zero, suc, ◌+◌, ◌<◌, ◌≤◌, Bool, true, false, cond, ◌==◌, Some, List, [], ◌∷◌, ◌++◌, map, filter, refl, ap, arith, sym, ◌∙◌, subst, append_assoc, inl, inr, ◌⊎◌}
use Rattle.std.proofs.lemmas.Bool.{eq-eqb, eqb-true, ne_eqb}
use Rattle.std.proofs.lemmas.List.{map-append}
use Rattle.std.specs.List.{AllByRecursion, flat_map, range_with_len}
use Rattle.std.specs.Prelude.{find}
use Rattle.etagere_base.specs.Lists.{times}
use Rattle.etagere_base.specs.declared.ids.Allocation.{Allocation}
use Rattle.etagere_base.proofs.EachLemmas.{Each-append, Each-filter}
use Rattle.etagere_base.proofs.TimesLemmas.{hit, times-append}
use Rattle.shelf_model.specs.Callers.{AreTied, IsFound}
use Rattle.shelf_model.specs.Listing.{RiseFrom, listed}
use Rattle.shelf_model.specs.Places.{allocations, record_number}
use Rattle.shelf_model.specs.State.{AtlasState}
use Rattle.shelf_model.specs.Valid.{IsValid}
use Rattle.shelf_model.proofs.Allocations.AllocatedIds.{id_of}
use Rattle.shelf_model.proofs.Allocations.RecordNumbers.{ids-once, numbers_of}

-- of some allocations those of one record number
abbrev at_number : List Allocation → ℕ → List Allocation
at_number all number = filter (λ a. record_number a.id == number) all

-- of some allocations those of so many record numbers from one on, number after number
abbrev by_numbers : List Allocation → ℕ → ℕ → List Allocation
by_numbers all from count = flat_map (at_number all) (range_with_len from count)

-- how often an id stands among allocations
abbrev id_times : ℕ → List Allocation → ℕ
id_times id all = times id (map id_of all)

-- an id stands in a front and a back
id_times-append : (id : ℕ) (front back : List Allocation) → id_times id (front ++ back) ≡ id_times id front + id_times id back
id_times-append id front back = ap (times id) (map-append id_of front back) ∙ times-append id (map id_of front) (map id_of back)

-- an allocation more among those of one number
at_number-cons : (id number : ℕ) (a : Allocation) (all : List Allocation) → id_times id (at_number (a ∷ all) number) ≡ cond (record_number a.id == number) (hit a.id id) 0 + id_times id (at_number all number)
at_number-cons id number a all = by_test (record_number a.id == number)
  where
    by_test : (b : Bool) → id_times id (cond b (a ∷ at_number all number) (at_number all number)) ≡ cond b (hit a.id id) 0 + id_times id (at_number all number)
    by_test true = refl
    by_test false = omega arith

-- an allocation of a number before these changes nothing
by_numbers-before : (id : ℕ) (a : Allocation) (all : List Allocation) (from count : ℕ) → record_number a.id < from → id_times id (by_numbers (a ∷ all) from count) ≡ id_times id (by_numbers all from count)
by_numbers-before id a all from zero before = refl
by_numbers-before id a all from (suc count) before =
    let other : (record_number a.id == from) ≡ false = ne_eqb (record_number a.id) from (λ e. omega (arith, before, e)) in
    let first : id_times id (at_number (a ∷ all) from) ≡ id_times id (at_number all from) =
    at_number-cons id from a all ∙ ap (λ b. cond b (hit a.id id) 0 + id_times id (at_number all from)) other ∙ omega arith in
    omega (
      arith,
      first,
      by_numbers-before id a all (from + 1) count (omega (arith, before)),
      id_times-append id (at_number (a ∷ all) from) (by_numbers (a ∷ all) (from + 1) count),
      id_times-append id (at_number all from) (by_numbers all (from + 1) count),
    )

-- an allocation of one of these numbers stands among them once more
by_numbers-within : (id : ℕ) (a : Allocation) (all : List Allocation) (from count : ℕ) → from ≤ record_number a.id → record_number a.id < from + count → id_times id (by_numbers (a ∷ all) from count) ≡ hit a.id id + id_times id (by_numbers all from count)
by_numbers-within id a all from zero after within = absurd (omega (arith, after, within))
by_numbers-within id a all from (suc count) after within = by_test (record_number a.id == from) refl (λ later. by_numbers-within id a all (from + 1) count later (omega (arith, within)))
  where
    by_test : (b : Bool) → (record_number a.id == from) ≡ b
        → (from + 1 ≤ record_number a.id → id_times id (by_numbers (a ∷ all) (from + 1) count) ≡ hit a.id id + id_times id (by_numbers all (from + 1) count))
        → id_times id (by_numbers (a ∷ all) from (suc count)) ≡ hit a.id id + id_times id (by_numbers all from (suc count))
    by_test true e later =
        let same : record_number a.id ≡ from = eqb-true (record_number a.id) from e in
        let first : id_times id (at_number (a ∷ all) from) ≡ hit a.id id + id_times id (at_number all from) =
        at_number-cons id from a all ∙ ap (λ b. cond b (hit a.id id) 0 + id_times id (at_number all from)) e in
        omega (
          arith,
          first,
          by_numbers-before id a all (from + 1) count (omega (arith, same)),
          id_times-append id (at_number (a ∷ all) from) (by_numbers (a ∷ all) (from + 1) count),
          id_times-append id (at_number all from) (by_numbers all (from + 1) count),
        )
    by_test false e later =
        let other : record_number a.id ≢ from = λ same. let contrary : (record_number a.id == from) ≡ true = eq-eqb (record_number a.id) from same in cc in
        let first : id_times id (at_number (a ∷ all) from) ≡ id_times id (at_number all from) =
        at_number-cons id from a all ∙ ap (λ b. cond b (hit a.id id) 0 + id_times id (at_number all from)) e ∙ omega arith in
        omega (
          arith,
          first,
          later (omega (arith, after, other)),
          id_times-append id (at_number (a ∷ all) from) (by_numbers (a ∷ all) (from + 1) count),
          id_times-append id (at_number all from) (by_numbers all (from + 1) count),
        )

-- of no allocations nothing is listed
by_numbers-none : (from count : ℕ) → by_numbers [] from count ≡ []
by_numbers-none from zero = refl
by_numbers-none from (suc count) = by_numbers-none (from + 1) count

-- each id stands in the listing as often as among all
listed-count : (id : ℕ) (all : List Allocation) (count : ℕ) → AllByRecursion (λ (a : Allocation). record_number a.id < count) all → id_times id (by_numbers all 0 count) ≡ id_times id all
listed-count id [] count below = ap (id_times id) (by_numbers-none 0 count)
listed-count id (a ∷ all) count below =
    let within : record_number a.id < 0 + count = omega (arith, below.0) in
    by_numbers-within id a all 0 count (omega arith) within ∙ ap (λ n. hit a.id id + n) (listed-count id all count below.1)

-- an allocation whose id stands once is found by it
find-once : (front : List Allocation) (a : Allocation) (back : List Allocation) → id_times a.id (front ++ a ∷ back) ≤ 1 → find (λ other. other.id == a.id) (front ++ a ∷ back) ≡ Some a
find-once [] a back once = ap (λ b. cond b (Some a) (find (λ other. other.id == a.id) back)) (eq-eqb a.id a.id refl)
find-once (y ∷ front) a back once = by_test (y.id == a.id) refl (λ less. find-once front a back less)
  where
    own : 1 ≤ id_times a.id (front ++ a ∷ back)
    own = let here : hit a.id a.id ≡ 1 = ap (λ (b : Bool). cond b 1 0) (eq-eqb a.id a.id refl) in omega (arith, here, id_times-append a.id front (a ∷ back))

    by_test : (b : Bool) → (y.id == a.id) ≡ b → (id_times a.id (front ++ a ∷ back) ≤ 1 → find (λ other. other.id == a.id) (front ++ a ∷ back) ≡ Some a)
        → cond b (Some y) (find (λ other. other.id == a.id) (front ++ a ∷ back)) ≡ Some a
    by_test true e later = let here : hit y.id a.id ≡ 1 = ap (λ (b : Bool). cond b 1 0) e in absurd (omega (arith, here, own, once))
    by_test false e later = later (omega (arith, once))

-- each of allocations whose ids stand once is found by its id
found-each : (front back : List Allocation) → ((id : ℕ) → id_times id (front ++ back) ≤ 1) → AllByRecursion (IsFound (front ++ back)) back
found-each front [] once = tt
found-each front (a ∷ back) once =
    let moved : (front ++ a ∷ []) ++ back ≡ front ++ a ∷ back = append_assoc front (a ∷ []) back in (
      find-once front a back (once a.id),
      subst (λ (l : List Allocation). AllByRecursion (IsFound l) back) moved
          (found-each (front ++ a ∷ []) back (λ id. subst (λ (l : List Allocation). id_times id l ≤ 1) (sym moved) (once id))),
    )

-- a fact of each allocation is one of each that is listed
Each-by_numbers : (P : Allocation → Type 0) (all : List Allocation) (from count : ℕ) → AllByRecursion P all → AllByRecursion P (by_numbers all from count)
Each-by_numbers P all from zero each = tt
Each-by_numbers P all from (suc count) each =
    Each-append P (at_number all from) (by_numbers all (from + 1) count)
    (Each-filter P (λ (a : Allocation). record_number a.id == from) all each) (Each-by_numbers P all (from + 1) count each)

-- in a valid state the listing is all that is allocated, each once
pub listed-tied : (state : AtlasState) → IsValid state → AreTied (listed state) (allocations state)
listed-tied state valid =
    record {
      found = Each-by_numbers (IsFound (allocations state)) (allocations state) 0 state.peak_items (found-each [] (allocations state) (ids-once state valid));
      counted = λ id. sym (listed-count id (allocations state) state.peak_items valid.below);
    }

-- none of allocations has a record number that does not stand among theirs
none-at : (number : ℕ) (all : List Allocation) → times number (numbers_of all) ≡ 0 → at_number all number ≡ []
none-at number [] none = refl
none-at number (a ∷ all) none = by_test (record_number a.id == number) refl (none-at number all (omega (arith, none)))
  where
    by_test : (b : Bool) → (record_number a.id == number) ≡ b → at_number all number ≡ [] → cond b (a ∷ at_number all number) (at_number all number) ≡ []
    by_test true e later = let here : hit (record_number a.id) number ≡ 1 = ap (λ (b : Bool). cond b 1 0) e in absurd (omega (arith, here, none))
    by_test false e later = later

-- what has a record number of one that stands once: nothing, or one allocation
IsOneAt : ℕ → List Allocation → Type 0
IsOneAt number all = (all ≡ []) ⊎ ((a : Allocation) × (all ≡ a ∷ []) × (record_number a.id ≡ number))

one-at : (number : ℕ) (all : List Allocation) → times number (numbers_of all) ≤ 1 → IsOneAt number (at_number all number)
unfolding IsOneAt
one-at number [] once = inl refl
one-at number (a ∷ all) once = by_test (record_number a.id == number) refl (λ less. one-at number all less)
  where
    by_test : (b : Bool) → (record_number a.id == number) ≡ b → (times number (numbers_of all) ≤ 1 → IsOneAt number (at_number all number)) → IsOneAt number (cond b (a ∷ at_number all number) (at_number all number))
    by_test true e later =
        let here : hit (record_number a.id) number ≡ 1 = ap (λ (b : Bool). cond b 1 0) e in
        let none : at_number all number ≡ [] = none-at number all (omega (arith, here, once)) in
        inr (a, ap (λ l. a ∷ l) none, eqb-true (record_number a.id) number e)
    by_test false e later = later (omega (arith, once))

-- numbers that rise from a number on rise from one below it
rise-lower : (low from : ℕ) (numbers : List ℕ) → low ≤ from → RiseFrom from numbers → RiseFrom low numbers
rise-lower low from [] less rise = tt
rise-lower low from (n ∷ ns) less rise = (omega (arith, less, rise.0), rise.1)

-- the record numbers of a listing rise
by_numbers-rise : (all : List Allocation) (from count : ℕ) → ((number : ℕ) → times number (numbers_of all) ≤ 1) → RiseFrom from (numbers_of (by_numbers all from count))
unfolding IsOneAt
by_numbers-rise all from zero once = tt
by_numbers-rise all from (suc count) once =
    let rest : List Allocation = by_numbers all (from + 1) count in
    let rise : RiseFrom (from + 1) (numbers_of rest) = by_numbers-rise all (from + 1) count once in
    let one : IsOneAt from (at_number all from) = one-at from all (once from) in
    elim one [
      | inl none ↦ subst (λ (l : List Allocation). RiseFrom from (numbers_of (l ++ rest))) (sym none) (rise-lower from (from + 1) (numbers_of rest) (omega arith) rise)
      | inr some ↦
          let next : RiseFrom (record_number some.0.id + 1) (numbers_of rest) = subst (λ (n : ℕ). RiseFrom (n + 1) (numbers_of rest)) (sym some.2) rise in
          let all_rise : RiseFrom from (numbers_of (some.0 ∷ rest)) = (omega (arith, some.2), next) in
          subst (λ (l : List Allocation). RiseFrom from (numbers_of (l ++ rest))) (sym some.1) all_rise
    ]

-- in a valid state the record numbers of the listing rise
pub listed-rise : (state : AtlasState) → IsValid state → RiseFrom 0 (numbers_of (listed state))
listed-rise state valid = by_numbers-rise (allocations state) 0 state.peak_items valid.numbers
