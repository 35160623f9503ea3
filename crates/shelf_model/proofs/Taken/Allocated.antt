-- What an allocation leaves: what its clauses say of the state in which the place of a size was taken.
use Rattle.std.proofs.Common.{◌≡◌, ℕ, ◌<◌, Bool, false, ◌==◌, Some, List, ◌++◌, ap, sym, ◌∙◌, refl}
use Rattle.std.proofs.lemmas.Bool.{eq-eqb}
use Rattle.std.specs.List.{list_any}
use Rattle.std.specs.Prelude.{find, option_map}
use Rattle.etagere_base.specs.declared.geometry.Size.{Size}
use Rattle.etagere_base.specs.declared.ids.Allocation.{Allocation}
use Rattle.etagere_base.specs.Lists.{times}
use Rattle.etagere_base.specs.Rectangles.{IsLarge}
use Rattle.etagere_base.proofs.FirstFound.{find-new}
use Rattle.shelf_model.specs.Atlas.{Adds, Allocates, KeepsPromises}
use Rattle.shelf_model.specs.Choice.{Placement, placement_of, rectangle_of_placement}
use Rattle.shelf_model.specs.Places.{allocated_numbers, allocations, is_allocated, record_number, rectangle_of}
use Rattle.shelf_model.specs.State.{AtlasState}
use Rattle.shelf_model.specs.Taking.{taken}
use Rattle.shelf_model.specs.Valid.{IsValid}
use Rattle.shelf_model.proofs.Allocations.AllocatedIds.{is_allocated-any, is_allocated-shelves, not_allocated_in-times}
use Rattle.shelf_model.proofs.Allocations.RecordNumbers.{new_number-new_id}
use Rattle.shelf_model.proofs.Chosen.PlacedLarge.{given-is_large}
use Rattle.shelf_model.proofs.Promises.{promises}
use Rattle.shelf_model.proofs.Taken.TakenAllocated.{taken-allocations}
use Rattle.shelf_model.proofs.Taken.TakenValid.{taken-valid}

-- what is owed after an allocation
pub record Allocated (old : AtlasState) (size : Size) (allocation : Allocation) (new : AtlasState) : Type 0 where
  pub allocates : Allocates old size allocation new
  pub adds : Adds (allocations old) allocation (allocations new)
  pub found : rectangle_of new allocation.id ≡ Some allocation.rectangle
  pub large : IsLarge old.frame size allocation.rectangle
  pub promises_after : KeepsPromises new

-- an id whose record number is no allocated one's isn't allocated
pub new_number-not_allocated : (state : AtlasState) (id : ℕ) → times (record_number id) (allocated_numbers state) ≡ 0
    → is_allocated state id ≡ false
new_number-not_allocated state id none =
    is_allocated-shelves state id ∙ not_allocated_in-times id state.shelves (new_number-new_id state id none)

-- what is owed is so where a place is taken by an id whose record number is no allocated one's and is below the records
-- afterwards
pub taken-allocated : (old : AtlasState) (size : Size) (placement : Placement) (id : ℕ) → IsValid old
    → placement_of old size ≡ Some placement → times (record_number id) (allocated_numbers old) ≡ 0
    → record_number id < (taken old placement id).peak_items
    → Allocated old size (record { id = id; rectangle = rectangle_of_placement old.frame placement }) (taken old placement id)
taken-allocated old size placement id valid placed fresh low =
    let not_allocated = new_number-not_allocated old id fresh in
    let new : Allocation = record { id = id; rectangle = rectangle_of_placement old.frame placement } in
    let takes = taken-allocations old size placement id valid placed in
    let test : Allocation → Bool = λ a. a.id == id in
    let none : list_any test (takes.front ++ takes.back) ≡ false =
    ap (list_any test) (sym takes.before) ∙ (sym (is_allocated-any old id) ∙ not_allocated) in
    record {
      allocates = record { placement = placement; placed = placed; rectangle = refl; fresh_id = not_allocated; after = refl };
      adds = record { front = takes.front; back = takes.back; before = takes.before; after = takes.after };
      found = ap (λ (l : List Allocation). option_map (λ (a : Allocation). a.rectangle) (find test l)) takes.after
          ∙ ap (option_map (λ (a : Allocation). a.rectangle)) (find-new test takes.front new takes.back none (eq-eqb id id refl));
      large = given-is_large old size placement placed;
      promises_after = promises (taken old placement id) (taken-valid old size placement id valid placed fresh low);
    }
