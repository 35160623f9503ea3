-- Each place that is found can be taken: some record number is left for it.
use Rattle.std.proofs.Common.{◌≡◌, ℕ, zero, suc, ◌+◌, ◌<◌, ◌≤◌, ◌⊎◌, Bool, true, false, cond, ◌==◌, Option, None, Some, List, [], ◌∷◌, ◌++◌, length, refl, ap, ◌∙◌, inl, inr, ⊎_elim, arith}
use Rattle.std.proofs.lemmas.Bool.{cases_lt}
use Rattle.std.proofs.lemmas.Bool.Decides.{nat_tests}
use Rattle.std.proofs.lemmas.List.{length-append, length-map}
use Rattle.std.proofs.lemmas.Nat.{div-add-mod'}
use Rattle.etagere_base.specs.declared.geometry.Size.{Size}
use Rattle.etagere_base.specs.declared.ids.Allocation.{Allocation}
use Rattle.etagere_base.specs.Lists.{times}
use Rattle.shelf_model.specs.Choice.{Placement, placement_of, rectangle_of_placement}
use Rattle.shelf_model.specs.Places.{allocated_numbers, allocations, record_number}
use Rattle.shelf_model.specs.State.{AtlasState, Item, Shelf, items_in_use}
use Rattle.shelf_model.specs.Taking.{taken}
use Rattle.shelf_model.specs.Valid.{IsValid}
use Rattle.shelf_model.proofs.Allocations.AllocatedIds.{id_of, ids-allocations_after}
use Rattle.shelf_model.proofs.Allocations.IdLists.{id_list, ids, item_ids}
use Rattle.shelf_model.proofs.Chosen.Placed.{placement_of-placed}
use Rattle.shelf_model.proofs.Taken.Allocated.{Allocated, taken-allocated}
use Rattle.shelf_model.proofs.Taken.TakenAllocated.{taken-allocations}
use Rattle.shelf_model.proofs.Taken.TakenValid.{taken-items_in_use}

-- how often the numbers below a bound stand in a list, all together
abbrev times_below : ℕ → List ℕ → ℕ
times_below zero xs = 0
times_below (suc k) xs = times_below k xs + times k xs

-- whether a number is below a bound, as a count
abbrev hits_below : ℕ → ℕ → ℕ
hits_below zero x = 0
hits_below (suc k) x = hits_below k x + cond (x == k) 1 0

-- a number isn't below a bound that it reaches, and is counted once at most
hits-past : (k x : ℕ) → k ≤ x → hits_below k x ≡ 0
hits-past zero x past = refl
hits-past (suc k) x past =
    let other : (x == k) ≡ false = grind (arith, nat_tests) in
    rw other (omega (arith, hits-past k x (omega (arith, past))))

hits-once : (k x : ℕ) → hits_below k x ≤ 1
hits-once zero x = omega arith
hits-once (suc k) x = by_test (x == k) refl (hits-once k x)
  where
    by_test : (b : Bool) → (x == k) ≡ b → hits_below k x ≤ 1 → hits_below k x + cond b 1 0 ≤ 1
    by_test true same once =
        let is : x ≡ k = grind (arith, nat_tests) in
        omega (arith, hits-past k x (omega (arith, is)))
    by_test false other once = omega (arith, once)

-- a list has as many elements as are counted below a bound, or more
times_below-nil : (k : ℕ) → times_below k [] ≡ 0
times_below-nil zero = refl
times_below-nil (suc k) = omega (arith, times_below-nil k)

times_below-cons : (k x : ℕ) (xs : List ℕ) → times_below k (x ∷ xs) ≡ hits_below k x + times_below k xs
times_below-cons zero x xs = refl
times_below-cons (suc k) x xs = omega (arith, times_below-cons k x xs)

times_below-le : (k : ℕ) (xs : List ℕ) → times_below k xs ≤ length xs
times_below-le k [] = omega (arith, times_below-nil k)
times_below-le k (x ∷ xs) = omega (arith, times_below-cons k x xs, hits-once k x, times_below-le k xs)

-- a number below a bound that stands nowhere in a list
record IsLeft (bound : ℕ) (xs : List ℕ) : Type 0 where
  pub number : ℕ
  pub below : number < bound
  pub nowhere : times number xs ≡ 0

-- below a bound some number is left, or all of them stand there
left-or-all : (k : ℕ) (xs : List ℕ) → IsLeft k xs ⊎ (k ≤ times_below k xs)
left-or-all zero xs = inr (omega arith)
left-or-all (suc k) xs =
    ⊎_elim
    (λ (left : IsLeft k xs). inl (record { number = left.number; below = omega (arith, left.below); nowhere = left.nowhere }))
    (λ (all : k ≤ times_below k xs).
    ⊎_elim
    (λ (some : 0 < times k xs). inr (omega (arith, some, all)))
    (λ (none : times k xs ≤ 0). inl (record { number = k; below = omega arith; nowhere = omega (arith, none) }))
    (cases_lt 0 (times k xs)))
    (left-or-all k xs)

-- among one number more than a list has elements one is left
some-left : (xs : List ℕ) → IsLeft (suc (length xs)) xs
some-left xs =
    ⊎_elim (λ (left : IsLeft (suc (length xs)) xs). left)
    (λ (all : suc (length xs) ≤ times_below (suc (length xs)) xs). absurd (omega (arith, all, times_below-le (suc (length xs)) xs)))
    (left-or-all (suc (length xs)) xs)

-- no more is allocated than there are items
length-item_ids : (items : List Item) → length (item_ids items) ≤ length items
length-item_ids [] = omega arith
length-item_ids (item ∷ items) = of_owner item.id (length-item_ids items)
  where
    of_owner : (owner : Option ℕ) → length (item_ids items) ≤ length items → length (id_list owner ++ item_ids items) ≤ suc (length items)
    of_owner None few = omega (arith, few)
    of_owner (Some id) few = omega (arith, few)

length-ids : (shelves : List Shelf) → length (ids shelves) ≤ items_in_use shelves
length-ids [] = omega arith
length-ids (shelf ∷ shelves) =
    omega (arith, length-append (item_ids shelf.items) (ids shelves), length-item_ids shelf.items, length-ids shelves)

allocations-few : (state : AtlasState) → length (allocations state) ≤ items_in_use state.shelves
allocations-few state =
    omega (
      arith,
      length-map (allocations state) id_of,
      ap length (ids-allocations_after state.frame [] state.shelves),
      length-ids state.shelves,
    )

-- a small number is its own record number
small-number : (n : ℕ) → n < 65536 → record_number n ≡ n
small-number n small = omega (arith, div-add-mod' n 65536, small)

-- what an allocation of a size may give, and lead to
pub record CanAllocate (state : AtlasState) (size : Size) : Type 0 where
  pub allocation : Allocation
  pub new : AtlasState
  pub allocated : Allocated state size allocation new

-- a place that is found can be taken
pub placed-can_allocate : (state : AtlasState) (size : Size) (placement : Placement) → IsValid state
    → placement_of state size ≡ Some placement → CanAllocate state size
placed-can_allocate state size placement valid placed =
    let left = some-left (allocated_numbers state) in
    let id = left.number in
    let takes = taken-allocations state size placement id valid placed in
    let numbers : length (allocated_numbers state) ≡ length (allocations state) =
    length-map (allocations state) (λ (a : Allocation). record_number a.id) in
    let front = takes.front in
    let back = takes.back in
    let before = ap length takes.before ∙ length-append front back in
    let after = ap length takes.after ∙ length-append front (record { id = id; rectangle = rectangle_of_placement state.frame placement } ∷ back) in
    let few = allocations-few (taken state placement id) in
    let used = taken-items_in_use state size placement id valid placed in
    let room = (placement_of-placed state size placement placed).room in
    let within : id < items_in_use (taken state placement id).shelves = omega (arith, left.below, numbers, before, after, few) in
    let is = small-number id (omega (arith, within, used, room)) in
    record {
      allocation = record { id = id; rectangle = rectangle_of_placement state.frame placement };
      new = taken state placement id;
      allocated = taken-allocated state size placement id valid placed
          (ap (λ (n : ℕ). times n (allocated_numbers state)) is ∙ left.nowhere) (omega (arith, is, within));
    }
