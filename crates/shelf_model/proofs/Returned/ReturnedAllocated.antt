-- Returning an id takes its allocation away and leaves the others.
use Rattle.std.proofs.Common.{◌≡◌, ℕ, zero, suc, ◌+◌, ◌≤◌, Bool, true, false, cond, ◌==◌, not, Option, None, Some, List, [], ◌∷◌, ◌++◌, map, refl, ap, ◌∙◌, sym, arith}
use Rattle.std.proofs.lemmas.Bool.{eq-eqb, cond_both, cond-true, cond-false}
use Rattle.std.proofs.lemmas.List.Elements.{filter-append}
use Rattle.std.specs.Prelude.{slice_get}
use Rattle.etagere_base.specs.declared.frames.Frame.{Frame}
use Rattle.etagere_base.specs.declared.geometry.Rectangle.{Rectangle}
use Rattle.etagere_base.specs.declared.ids.Allocation.{Allocation}
use Rattle.shelf_model.specs.Atlas.{without_id}
use Rattle.etagere_base.specs.Lists.{times, at_first}
use Rattle.etagere_base.specs.Places.{rectangle_at}
use Rattle.shelf_model.specs.Places.{column_place, column_height, allocation_of, allocations_along, allocations_after, allocations}
use Rattle.shelf_model.specs.Returning.{freed, returned}
use Rattle.shelf_model.specs.State.{Item, Shelf, AtlasState}
use Rattle.shelf_model.specs.Valid.{IsValid}
use Rattle.shelf_model.proofs.Allocations.InShelves.{is_allocated_in, returned_shelf}
use Rattle.shelf_model.proofs.Allocations.IdLists.{item_ids, ids, id_list}
use Rattle.shelf_model.proofs.Places.Heights.{column_height-append}
use Rattle.shelf_model.proofs.Allocations.AllocatedIds.{id_of, ids-allocations_after, ids-allocations_along, times-not_allocated_in}
use Rattle.shelf_model.proofs.Allocations.AllocatedLists.{allocations_after-heights}
use Rattle.shelf_model.proofs.Allocations.AllocatedItems.{column-returned_shelf, height-returned_shelf, returned_shelf-allocated, item_of_owner}
use Rattle.shelf_model.proofs.Allocations.RecordNumbers.{item_ids-once}
use Rattle.shelf_model.proofs.Allocations.ItemIds.{id_count, times-item_ids}
use Rattle.shelf_model.proofs.Returned.MergedAllocated.{merged_items-allocations_along, merged_shelves-allocated}
use Rattle.etagere_base.proofs.TimesLemmas.{times-append, times-flat_map}
use Rattle.etagere_base.proofs.Totals.{total-upto}
use Rattle.shelf_model.proofs.Returned.ReturnedWhole.{returned-near}

-- a count of nothing has no part
zero_parts : (b : Bool) (n : ℕ) → cond b 1 0 + n ≡ 0 → (not b ≡ true) × (n ≡ 0)
zero_parts true n h = absurd (omega arith)
zero_parts false n h = (refl, omega arith)

-- all allocations are others where the id holds none
without_id-none : (id : ℕ) (allocations : List Allocation) → times id (map id_of allocations) ≡ 0 → without_id id allocations ≡ allocations
without_id-none id [] h = refl
without_id-none id (allocation ∷ allocations) h =
    let parts = zero_parts (allocation.id == id) (times id (map id_of allocations)) h in
    cond-true _ _ _ parts.0 ∙ ap (λ (l : List Allocation). allocation ∷ l) (without_id-none id allocations parts.1)

-- the id of an allocated item stands among the ids
times-allocated : (id n : ℕ) (items : List Item) (item : Item) → slice_get items n ≡ Some item → item.id ≡ Some id → 1 ≤ times id (item_ids items)
times-allocated id n items item get owner =
    let one : id_count id item ≡ 1 = ap (λ (o : Option ℕ). times id (id_list o)) owner ∙ counted (id == id) (eq-eqb id id refl) in
    omega (arith, one, times-flat_map id (λ item. id_list item.id) items, total-upto (id_count id) n items item get)
  where
    counted : (b : Bool) → b ≡ true → cond b 1 0 + 0 ≡ 1
    counted b h = grind arith

-- what an item allocates has the id that holds it
times-allocation_of : (id width : ℕ) (owner : Option ℕ) (rectangle : Rectangle)
    → times id (map id_of (allocation_of owner rectangle)) ≡ times id (item_ids (record { width = width; id = owner } ∷ []))
times-allocation_of id width None rectangle = refl
times-allocation_of id width (Some owner) rectangle = refl

-- what an id holds is not another's
without_id-own : (id : ℕ) (owner : Option ℕ) (rectangle : Rectangle) → owner ≡ Some id → without_id id (allocation_of owner rectangle) ≡ []
without_id-own id owner rectangle h = rw h (cond-false _ _ _ (own (id == id) (eq-eqb id id refl)))
  where
    own : (b : Bool) → b ≡ true → not b ≡ false
    own b h = ap not h

-- the others of two lists
without_id-append : (id : ℕ) (xs ys : List Allocation) → without_id id (xs ++ ys) ≡ without_id id xs ++ without_id id ys
without_id-append id xs ys = filter-append (λ (allocation : Allocation). not (allocation.id == id)) xs ys

module _ (frame : Frame) (id : ℕ) where
  -- the items of others stay as they are
  without_id-allocations_along : (across height here : ℕ) (items : List Item) → times id (item_ids items) ≡ 0
      → without_id id (allocations_along frame across height here items) ≡ allocations_along frame across height here items
  without_id-allocations_along across height here items none =
      without_id-none id (allocations_along frame across height here items) (ap (times id) (ids-allocations_along frame across height here items) ∙ none)

  -- the shelves of others stay as they are
  without_id-allocations_after : (before shelves : List Shelf) → times id (ids shelves) ≡ 0
      → without_id id (allocations_after frame before shelves) ≡ allocations_after frame before shelves
  without_id-allocations_after before shelves none =
      without_id-none id (allocations_after frame before shelves) (ap (times id) (ids-allocations_after frame before shelves) ∙ none)

  -- freeing the one item of an id leaves the other allocations
  allocations_along-freed : (across height here n : ℕ) (items : List Item) (item : Item) → slice_get items n ≡ Some item → item.id ≡ Some id
      → times id (item_ids items) ≤ 1 → allocations_along frame across height here (freed n items) ≡ without_id id (allocations_along frame across height here items)
  allocations_along-freed across height here n [] item get owner once = refl
  allocations_along-freed across height here zero (x ∷ items) item get owner once =
      let rest = allocations_along frame across height (here + x.width) items in
      let rectangle = rectangle_at frame here across x.width height in
      let allocations : x.id ≡ Some id = ap (λ (r : Item). r.id) (let same : x ≡ item = cc in same) ∙ owner in
      let own = times-allocated id zero (x ∷ []) x refl allocations in
      let split = times-item_ids id (x ∷ []) items in
      sym (without_id-append id (allocation_of x.id rectangle) rest
      ∙ ap (λ (l : List Allocation). l ++ without_id id rest) (without_id-own id x.id rectangle allocations)
      ∙ without_id-allocations_along across height (here + x.width) items (omega arith))
  allocations_along-freed across height here (suc n) (x ∷ items) item get owner once =
      let rest = allocations_along frame across height (here + x.width) items in
      let rectangle = rectangle_at frame here across x.width height in
      let found = times-allocated id n items item get owner in
      let split = times-item_ids id (x ∷ []) items in
      let none : times id (item_ids (x ∷ [])) ≡ 0 = omega arith in
      ap (λ (l : List Allocation). allocation_of x.id rectangle ++ l)
      (allocations_along-freed across height (here + x.width) n items item get owner (omega arith))
      ∙ ap (λ (l : List Allocation). l ++ without_id id rest)
      (sym (without_id-none id (allocation_of x.id rectangle) (times-allocation_of id x.width x.id rectangle ∙ none)))
      ∙ sym (without_id-append id (allocation_of x.id rectangle) rest)

  -- returning an id to its shelf leaves the shelf's other allocations
  allocations_along-returned_shelf : (across : ℕ) (shelf : Shelf) → is_allocated_in id shelf ≡ true → times id (item_ids shelf.items) ≤ 1
      → allocations_along frame across (returned_shelf frame id shelf).height (column_place frame (returned_shelf frame id shelf)) (returned_shelf frame id shelf).items
      ≡ without_id id (allocations_along frame across shelf.height (column_place frame shelf) shelf.items)
  allocations_along-returned_shelf across shelf h once =
      let allocations = item_of_owner id shelf.items h in
      ap (λ (s : Shelf). allocations_along frame across s.height (column_place frame s) s.items) (returned_shelf-allocated frame id allocations.number shelf allocations.found)
      ∙ merged_items-allocations_along frame across shelf.height (column_place frame shelf) (freed allocations.number shelf.items)
      ∙ allocations_along-freed across shelf.height (column_place frame shelf) allocations.number shelf.items allocations.item allocations.at.get allocations.owner once

  -- returning an id to the first shelf leaves the other allocations of all
  allocations_after-here : (before : List Shelf) (shelf : Shelf) (shelves : List Shelf) → times id (ids (shelf ∷ shelves)) ≤ 1 → is_allocated_in id shelf ≡ true
      → allocations_after frame before (returned_shelf frame id shelf ∷ shelves) ≡ without_id id (allocations_after frame before (shelf ∷ shelves))
  allocations_after-here before shelf shelves once h =
      let changed = returned_shelf frame id shelf in
      let across = column_height shelf.column before in
      let along = allocations_along frame across shelf.height (column_place frame shelf) shelf.items in
      let rest = allocations_after frame (before ++ shelf ∷ []) shelves in
      let allocations = item_of_owner id shelf.items h in
      let found = times-allocated id allocations.number shelf.items allocations.item allocations.at.get allocations.owner in
      let split = times-append id (item_ids shelf.items) (ids shelves) in
      let none : times id (ids shelves) ≡ 0 = omega arith in
      let same : (column : ℕ) → column_height column (before ++ changed ∷ []) ≡ column_height column (before ++ shelf ∷ []) =
      λ column. column_height-append column before (changed ∷ [])
      ∙ ap (λ (c : ℕ). column_height column before + (cond (c == column) changed.height 0 + 0)) (column-returned_shelf frame id shelf)
      ∙ ap (λ (height : ℕ). column_height column before + (cond (shelf.column == column) height 0 + 0)) (height-returned_shelf frame id shelf)
      ∙ sym (column_height-append column before (shelf ∷ [])) in
      ap (λ (column : ℕ). allocations_along frame (column_height column before) changed.height (column_place frame changed) changed.items
      ++ allocations_after frame (before ++ changed ∷ []) shelves) (column-returned_shelf frame id shelf)
      ∙ ap (λ (l : List Allocation). l ++ allocations_after frame (before ++ changed ∷ []) shelves)
      (allocations_along-returned_shelf across shelf h (omega arith))
      ∙ ap (λ (l : List Allocation). without_id id along ++ l)
      (allocations_after-heights frame (before ++ changed ∷ []) (before ++ shelf ∷ []) shelves same
      ∙ sym (without_id-allocations_after (before ++ shelf ∷ []) shelves none))
      ∙ sym (without_id-append id along rest)

  -- returning an id leaves the other allocations of shelves
  allocations_after-returned : (before shelves : List Shelf) → times id (ids shelves) ≤ 1
      → allocations_after frame before (at_first (is_allocated_in id) (returned_shelf frame id) shelves) ≡ without_id id (allocations_after frame before shelves)
  allocations_after-returned before [] once = refl
  allocations_after-returned before (shelf ∷ shelves) once =
      let along = allocations_along frame (column_height shelf.column before) shelf.height (column_place frame shelf) shelf.items in
      let split = times-append id (item_ids shelf.items) (ids shelves) in
      let rest = allocations_after-returned (before ++ shelf ∷ []) shelves (omega arith) in
      cond_both (is_allocated_in id shelf) (returned_shelf frame id shelf ∷ shelves) (shelf ∷ at_first (is_allocated_in id) (returned_shelf frame id) shelves)
      (λ (l : List Shelf). allocations_after frame before l ≡ without_id id (allocations_after frame before (shelf ∷ shelves)))
      (allocations_after-here before shelf shelves once)
      (λ f. ap (λ (l : List Allocation). along ++ l) rest
      ∙ ap (λ (l : List Allocation). l ++ without_id id (allocations_after frame (before ++ shelf ∷ []) shelves))
      (sym (without_id-allocations_along (column_height shelf.column before) shelf.height (column_place frame shelf) shelf.items (times-not_allocated_in id shelf f)))
      ∙ sym (without_id-append id along (allocations_after frame (before ++ shelf ∷ []) shelves)))

-- what is allocated after an id was returned is what was allocated by the others
pub returned-allocated : (state : AtlasState) (id : ℕ) → IsValid state → allocations (returned state id) ≡ without_id id (allocations state)
returned-allocated state id valid =
    ap allocations (returned-near state id valid)
    ∙ merged_shelves-allocated state.frame [] (at_first (is_allocated_in id) (returned_shelf state.frame id) state.shelves)
    ∙ allocations_after-returned state.frame id [] state.shelves (item_ids-once state valid id)
