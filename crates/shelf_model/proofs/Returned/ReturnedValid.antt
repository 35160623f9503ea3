-- The state after an id was returned is as a state must be.
use Rattle.std.proofs.Common.{◌≡◌, ℕ, ◌<◌, ◌≤◌, Bool, true, not, ◌==◌, List, length, refl, ap, ◌∙◌, sym, subst, arith}
use Rattle.std.specs.Prelude.{nat_lt}
use Rattle.etagere_base.specs.declared.frames.Frame.{Frame}
use Rattle.etagere_base.specs.declared.ids.Allocation.{Allocation}
use Rattle.shelf_model.specs.Merging.{merged_items, both_empty, combined_shelves, merged_shelves}
use Rattle.std.specs.List.{AllByRecursion}
use Rattle.etagere_base.specs.Lists.{times, at_first, NoNeighbours}
use Rattle.shelf_model.specs.Atlas.{without_id}
use Rattle.shelf_model.specs.Places.{allocations, column_height, record_number}
use Rattle.shelf_model.specs.Returning.{freed, returned}
use Rattle.shelf_model.specs.State.{Shelf, AtlasState, items_in_use}
use Rattle.shelf_model.proofs.Allocations.InShelves.{is_allocated_in, returned_near, returned_shelf}
use Rattle.shelf_model.specs.Valid.{IsShelf, IsValid, is_out_of_order}
use Rattle.etagere_base.proofs.FirstChanged.{Each-at_first, NoNeighbours-at_first}
use Rattle.etagere_base.proofs.ColumnTotals.{part}
use Rattle.etagere_base.proofs.EachLemmas.{Each-filter}
use Rattle.etagere_base.proofs.Totals.{total-at_first, total-at_first-le, total-merged-le}
use Rattle.shelf_model.proofs.Places.Heights.{column_of, height_of, same_column, column_height-merged}
use Rattle.shelf_model.proofs.Allocations.AllocatedItems.{not_free, returned_shelf-allocated, column-returned_shelf, height-returned_shelf, item_of_owner}
use Rattle.shelf_model.proofs.Allocations.RecordNumbers.{numbers-filter, numbers_of}
use Rattle.etagere_base.proofs.Merged.{apart-merged}
use Rattle.etagere_base.proofs.MergedKeeps.{Each-merged, NoNeighbours-merged}
use Rattle.shelf_model.proofs.Returned.MergedNear.{shelves-merge}
use Rattle.shelf_model.proofs.Places.ItemLemmas.{length-freed}
use Rattle.shelf_model.proofs.Returned.ReturnedShelf.{length-merged-le, freed_shelf-valid}
use Rattle.shelf_model.proofs.Returned.ReturnedAllocated.{returned-allocated}
use Rattle.shelf_model.proofs.Returned.ReturnedWhole.{returned-near}

-- how many items a shelf has
abbrev count_of : Shelf → ℕ
count_of shelf = length shelf.items

-- a merged shelf is as a shelf must be
pub combined-shelf : (frame : Frame) (x y : Shelf) → both_empty x y ≡ true → IsShelf frame x → IsShelf frame y → IsShelf frame (combined_shelves x y)
combined-shelf frame x y t h k = record {
  column = h.column;
  height = omega (arith, h.height);
  items = h.items;
  width = h.width;
  apart = h.apart;
  free_list = h.free_list;
}

-- merging shelves keeps the order of columns
pub ordered-merged : (shelves : List Shelf) → NoNeighbours is_out_of_order shelves → NoNeighbours is_out_of_order (merged_shelves shelves)
ordered-merged shelves h =
    NoNeighbours-merged both_empty combined_shelves is_out_of_order
    (λ x y z t. ap (λ (column : ℕ). nat_lt z.column column) (same_column x y t)) (λ w x y t. refl) shelves h

module _ (frame : Frame) (id : ℕ) where
  -- a shelf that an id was returned to is as a shelf must be
  returned_shelf-valid : (shelf : Shelf) → is_allocated_in id shelf ≡ true → IsShelf frame shelf → IsShelf frame (returned_shelf frame id shelf)
  returned_shelf-valid shelf h valid =
      let allocations = item_of_owner id shelf.items h in
      subst (IsShelf frame) (sym (returned_shelf-allocated frame id allocations.number shelf allocations.found))
      (freed_shelf-valid frame allocations.number shelf allocations.item valid allocations.at.get (not_free id allocations.item allocations.owner))

  -- returning an id to a shelf makes no items more
  pub length-returned_shelf : (shelf : Shelf) → is_allocated_in id shelf ≡ true → length (returned_shelf frame id shelf).items ≤ length shelf.items
  length-returned_shelf shelf h =
      let allocations = item_of_owner id shelf.items h in
      let n = allocations.number in
      let is : length (returned_shelf frame id shelf).items ≡ length (merged_items (freed n shelf.items)) =
      ap (λ (s : Shelf). length s.items) (returned_shelf-allocated frame id n shelf allocations.found) in
      let merged = length-merged-le (freed n shelf.items) in
      let kept = length-freed n shelf.items in
      omega arith

  -- each shelf is as a shelf must be after an id was returned
  returned-shelves : (shelves : List Shelf) → AllByRecursion (IsShelf frame) shelves
      → AllByRecursion (IsShelf frame) (merged_shelves (at_first (is_allocated_in id) (returned_shelf frame id) shelves))
  returned-shelves shelves h =
      Each-merged both_empty combined_shelves (IsShelf frame) (combined-shelf frame) _
      (Each-at_first (is_allocated_in id) (returned_shelf frame id) (IsShelf frame) returned_shelf-valid shelves h)

  -- the columns stand in order after an id was returned
  returned-ordered : (shelves : List Shelf) → NoNeighbours is_out_of_order shelves
      → NoNeighbours is_out_of_order (merged_shelves (at_first (is_allocated_in id) (returned_shelf frame id) shelves))
  returned-ordered shelves h =
      ordered-merged _
      (NoNeighbours-at_first (is_allocated_in id) (returned_shelf frame id) is_out_of_order
      (λ x y. ap (λ (column : ℕ). nat_lt y.column column) (column-returned_shelf frame id x))
      (λ w x. ap (λ (column : ℕ). nat_lt column w.column) (column-returned_shelf frame id x)) shelves h)

  -- returning an id changes the height of no column
  heights-returned : (column : ℕ) (shelves : List Shelf)
      → column_height column (merged_shelves (at_first (is_allocated_in id) (returned_shelf frame id) shelves)) ≡ column_height column shelves
  heights-returned column shelves =
      column_height-merged column _ ∙ total-at_first (part column_of height_of column) (is_allocated_in id) (returned_shelf frame id) same shelves
    where
      same : (x : Shelf) → part column_of height_of column (returned_shelf frame id x) ≡ part column_of height_of column x
      same x = rw (column-returned_shelf frame id x, height-returned_shelf frame id x) refl

  -- returning an id uses no more items
  items_in_use-returned-le : (shelves : List Shelf)
      → items_in_use (merged_shelves (at_first (is_allocated_in id) (returned_shelf frame id) shelves)) ≤ items_in_use shelves
  items_in_use-returned-le shelves =
      omega (
        arith,
        total-merged-le count_of both_empty combined_shelves (λ x y. omega arith) (at_first (is_allocated_in id) (returned_shelf frame id) shelves),
        total-at_first-le count_of (is_allocated_in id) (returned_shelf frame id) length-returned_shelf shelves,
      )

-- what is allocated after an id was returned where it stood is what was allocated by the others
near-allocated : (state : AtlasState) (id : ℕ) → IsValid state → allocations (returned_near state id) ≡ without_id id (allocations state)
near-allocated state id valid = ap allocations (sym (returned-near state id valid)) ∙ returned-allocated state id valid

-- the state after an id was returned is as a state must be
pub returned-valid : (state : AtlasState) (id : ℕ) → IsValid state → IsValid (returned state id)
returned-valid state id valid =
    let left = near-allocated state id valid in
    let others : Allocation → Bool = λ a. not (a.id == id) in
    let P : Allocation → Type 0 = λ a. record_number a.id < state.peak_items in
    rw (returned-near state id valid) record {
      frame = valid.frame;
      columns = valid.columns;
      shelves = returned-shelves state.frame id state.shelves valid.shelves;
      ordered = returned-ordered state.frame id state.shelves valid.ordered;
      heights = λ column h. heights-returned state.frame id column state.shelves ∙ valid.heights column h;
      apart = apart-merged both_empty combined_shelves shelves-merge (at_first (is_allocated_in id) (returned_shelf state.frame id) state.shelves);
      numbers = λ k. omega (arith, ap (λ all. times k (numbers_of all)) left, numbers-filter k others (allocations state), valid.numbers k);
      below = subst (AllByRecursion P) (sym left) (Each-filter P others (allocations state) valid.below);
      peak_items = (omega (arith, items_in_use-returned-le state.frame id state.shelves, valid.peak_items.0), valid.peak_items.1);
    }
