-- The record numbers of what is allocated: where they differ the ids do.
use Rattle.std.proofs.Common.{◌≡◌, ℕ, ◌+◌, ◌≤◌, Bool, true, false, cond, ◌==◌, List, [], ◌∷◌, ◌++◌, map, filter, refl, ap, arith}
use Rattle.std.proofs.lemmas.Bool.{eq-eqb, eqb-true}
use Rattle.std.proofs.lemmas.List.{map-append}
use Rattle.etagere_base.specs.declared.ids.Allocation.{Allocation}
use Rattle.etagere_base.specs.Lists.{times}
use Rattle.etagere_base.proofs.TimesLemmas.{hit, times-append}
use Rattle.shelf_model.specs.Places.{allocations, allocated_numbers, record_number}
use Rattle.shelf_model.specs.State.{AtlasState}
use Rattle.shelf_model.specs.Valid.{IsValid}
use Rattle.shelf_model.proofs.Allocations.AllocatedIds.{id_of, times-ids_of}
use Rattle.shelf_model.proofs.Allocations.IdLists.{ids}

-- the record numbers of allocations
abbrev pub numbers_of : List Allocation → List ℕ
numbers_of all = map (λ (allocation : Allocation). record_number allocation.id) all

-- ids that are one have one record number
hit-number : (m n : ℕ) → hit m n ≤ hit (record_number m) (record_number n)
hit-number m n = by_test (m == n) refl
  where
    by_test : (b : Bool) → (m == n) ≡ b → cond b 1 0 ≤ hit (record_number m) (record_number n)
    by_test true e = rw (eq-eqb (record_number m) (record_number n) (ap record_number (eqb-true m n e))) (omega arith)
    by_test false e = omega arith

-- an id stands among allocations no more often than its record number
times-number : (id : ℕ) (all : List Allocation) → times id (map id_of all) ≤ times (record_number id) (numbers_of all)
times-number id [] = omega arith
times-number id (a ∷ all) = omega (arith, hit-number a.id id, times-number id all)

-- in a valid state each id is allocated once
pub ids-once : (state : AtlasState) → IsValid state → (id : ℕ) → times id (map id_of (allocations state)) ≤ 1
ids-once state valid id = omega (arith, times-number id (allocations state), valid.numbers (record_number id))

-- in a valid state each id holds one item
pub item_ids-once : (state : AtlasState) → IsValid state → (id : ℕ) → times id (ids state.shelves) ≤ 1
item_ids-once state valid id = omega (arith, ids-once state valid id, times-ids_of state id)

-- an id whose record number isn't there isn't there
pub new_number-new_id : (state : AtlasState) (id : ℕ) → times (record_number id) (allocated_numbers state) ≡ 0
    → times id (ids state.shelves) ≡ 0
new_number-new_id state id none = omega (arith, times-number id (allocations state), times-ids_of state id)

-- of some of the allocations each record number stands no more often
pub numbers-filter : (number : ℕ) (test : Allocation → Bool) (all : List Allocation)
    → times number (numbers_of (filter test all)) ≤ times number (numbers_of all)
numbers-filter number test [] = omega arith
numbers-filter number test (a ∷ all) = by_test (test a) (numbers-filter number test all)
  where
    by_test : (b : Bool) → times number (numbers_of (filter test all)) ≤ times number (numbers_of all)
        → times number (numbers_of (cond b (a ∷ filter test all) (filter test all))) ≤ times number (numbers_of (a ∷ all))
    by_test true later = omega (arith, later)
    by_test false later = omega (arith, later)

-- with an allocation more its record number stands once more
pub numbers-inserted : (number : ℕ) (front : List Allocation) (new : Allocation) (back : List Allocation)
    → times number (numbers_of (front ++ new ∷ back)) ≡ times number (numbers_of (front ++ back)) + hit (record_number new.id) number
numbers-inserted number front new back =
    let g : Allocation → ℕ = λ a. record_number a.id in
    omega (
      arith,
      ap (times number) (map-append g front (new ∷ back)),
      ap (times number) (map-append g front back),
      times-append number (map g front) (map g (new ∷ back)),
      times-append number (map g front) (map g back),
    )

-- with an allocation more its id stands once more
pub ids-inserted : (id : ℕ) (front : List Allocation) (new : Allocation) (back : List Allocation)
    → times id (map id_of (front ++ new ∷ back)) ≡ times id (map id_of (front ++ back)) + hit new.id id
ids-inserted id front new back =
    omega (
      arith,
      ap (times id) (map-append id_of front (new ∷ back)),
      ap (times id) (map-append id_of front back),
      times-append id (map id_of front) (map id_of (new ∷ back)),
      times-append id (map id_of front) (map id_of back),
    )

-- a new number counted once more is counted once
pub counted-once : (count : ℕ → ℕ) (new number : ℕ) → count new ≡ 0 → count number ≤ 1 → count number + hit new number ≤ 1
counted-once count new number none once = by_test (new == number) refl
  where
    by_test : (b : Bool) → (new == number) ≡ b → count number + cond b 1 0 ≤ 1
    by_test true e = omega (arith, ap count (eqb-true new number e))
    by_test false e = omega arith
