-- A valid state stays valid when a placement is taken by an id of a new record number.
use Rattle.std.proofs.Common.{◌≡◌, ℕ, ◌+◌, ◌<◌, ◌≤◌, cond, Some, List, ◌∷◌, length, sym, subst, ap, ◌∙◌, arith}
use Rattle.etagere_base.specs.declared.frames.Frame.{Frame}
use Rattle.etagere_base.specs.declared.geometry.Size.{Size}
use Rattle.etagere_base.specs.declared.ids.Allocation.{Allocation}
use Rattle.shelf_model.specs.Choice.{Placement, placement_of, rectangle_of_placement, splits}
use Rattle.std.specs.List.{AllByRecursion}
use Rattle.etagere_base.specs.Lists.{times}
use Rattle.shelf_model.specs.Places.{allocated_numbers, record_number}
use Rattle.shelf_model.specs.State.{Shelf, AtlasState, items_in_use}
use Rattle.shelf_model.specs.Taking.{shelf_pieces, taken}
use Rattle.shelf_model.specs.Valid.{IsValid}
use Rattle.etagere_base.proofs.EachLemmas.{Each-append, Each-back, Each-front, Each-weaken}
use Rattle.etagere_base.proofs.Totals.{total-replaced_at}
use Rattle.shelf_model.proofs.Allocations.RecordNumbers.{counted-once, numbers-inserted, numbers_of}
use Rattle.shelf_model.proofs.Chosen.Placed.{placement_of-placed}
use Rattle.shelf_model.proofs.Taken.TakenAllocated.{taken-allocations}
use Rattle.shelf_model.proofs.Taken.TakenPieces.{pieces-length}
use Rattle.shelf_model.proofs.Taken.TakenShelves.{IsTaking, shelf_pieces-cases, taken-items, taken_to, taking}
use Rattle.shelf_model.proofs.Taken.TakenTiling.{taken-apart, taken-heights, taken-ordered, taken-shelves}

-- how many items a shelf has
abbrev count_of : Shelf → ℕ
count_of shelf = length shelf.items

-- how many items the shelf has in which one is taken
taken_shelf-length : (frame : Frame) (placement : Placement) (id height : ℕ) (shelf : Shelf) → IsTaking frame placement shelf
    → length (taken_to placement id height shelf).items ≡ length shelf.items + cond placement.splits_item 1 0
taken_shelf-length frame placement id height shelf t =
    let f = t.found in
    rw (taken-items frame placement id shelf t) (pieces-length frame f.at.front f.item f.at.back placement id t.room ∙ ap (λ rs. length rs + cond placement.splits_item 1 0) (sym f.at.whole))

-- how many items the shelves have that stand for one in which a placement takes an item
pieces-items_in_use : (frame : Frame) (placement : Placement) (id : ℕ) (shelf : Shelf)
    → IsTaking frame placement shelf → items_in_use (shelf_pieces frame placement id shelf) ≡ length shelf.items + splits placement
pieces-items_in_use frame placement id shelf t =
    shelf_pieces-cases (λ b pieces. items_in_use pieces ≡ length shelf.items + (cond b 1 0 + cond placement.splits_item 1 0)) frame placement id shelf t
    (λ empty split. omega (arith, taken_shelf-length frame placement id placement.height shelf t))
    (λ _. omega (arith, taken_shelf-length frame placement id shelf.height shelf t))

-- taking a placement takes as many more items as it makes splits
pub taken-items_in_use : (state : AtlasState) (size : Size) (placement : Placement) (id : ℕ) → IsValid state → placement_of state size ≡ Some placement
    → items_in_use (taken state placement id).shelves ≡ items_in_use state.shelves + splits placement
taken-items_in_use state size placement id valid h =
    let placed = placement_of-placed state size placement h in
    let shelf = placed.chosen.shelf in
    let t = taking state size placement valid placed in
    omega (
      arith,
      total-replaced_at count_of (shelf_pieces state.frame placement id) placement.shelf state.shelves shelf placed.chosen.at,
      pieces-items_in_use state.frame placement id shelf t,
    )

-- taking a placement leaves items enough for the records
taken-room : (state : AtlasState) (size : Size) (placement : Placement) (id : ℕ) → IsValid state → placement_of state size ≡ Some placement
    → items_in_use (taken state placement id).shelves ≤ 65535
taken-room state size placement id valid h =
    let placed = placement_of-placed state size placement h in
    omega (arith, taken-items_in_use state size placement id valid h, placed.room)

-- a valid state stays valid when a placement is taken by an id whose record number is no allocated one's and is below
-- the records afterwards
pub taken-valid : (state : AtlasState) (size : Size) (placement : Placement) (id : ℕ)
    → IsValid state → placement_of state size ≡ Some placement → times (record_number id) (allocated_numbers state) ≡ 0
    → record_number id < (taken state placement id).peak_items → IsValid (taken state placement id)
taken-valid state size placement id valid h fresh low =
    let takes = taken-allocations state size placement id valid h in
    let new : Allocation = record { id = id; rectangle = rectangle_of_placement state.frame placement } in
    let P : ℕ → Allocation → Type 0 = λ peak_items a. record_number a.id < peak_items in
    let before = subst (AllByRecursion (P state.peak_items)) takes.before valid.below in
    let still : (all : List Allocation) → AllByRecursion (P state.peak_items) all → AllByRecursion (P (taken state placement id).peak_items) all =
    λ all. Each-weaken (P state.peak_items) (P (taken state placement id).peak_items) all (λ a l. omega (arith, l)) in
    record {
      frame = valid.frame;
      columns = valid.columns;
      shelves = taken-shelves state size placement id valid h;
      ordered = taken-ordered state size placement id valid h;
      heights = taken-heights state size placement id valid h;
      apart = taken-apart state size placement id valid h;
      numbers = λ k. omega (
        arith,
        ap (λ all. times k (numbers_of all)) takes.after,
        ap (λ all. times k (numbers_of all)) takes.before,
        numbers-inserted k takes.front new takes.back,
        counted-once (λ n. times n (allocated_numbers state)) (record_number id) k fresh (valid.numbers k),
      );
      below = subst (AllByRecursion (P (taken state placement id).peak_items)) (sym takes.after)
          (Each-append (P (taken state placement id).peak_items) takes.front (new ∷ takes.back)
          (still takes.front (Each-front (P state.peak_items) takes.front takes.back before))
          (low, still takes.back (Each-back (P state.peak_items) takes.front takes.back before)));
      peak_items = (omega arith, omega (arith, valid.peak_items, taken-room state size placement id valid h));
    }
