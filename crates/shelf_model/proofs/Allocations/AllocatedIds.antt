-- What is allocated, by the ids of the items.
use Rattle.std.proofs.Common.{◌≡◌, ℕ, Bool, false, ◌||◌, ◌==◌, Option, None, Some, List, [], ◌∷◌, map, refl, ap, ◌∙◌, sym}
use Rattle.etagere_base.proofs.GatheredLemmas.{map-gathered}
use Rattle.std.proofs.lemmas.List.Folds.{list_any-append}
use Rattle.std.specs.List.{list_any}
use Rattle.std.specs.Prelude.{find, option_map, position, is_some}
use Rattle.etagere_base.specs.declared.frames.Frame.{Frame}
use Rattle.etagere_base.specs.declared.ids.Allocation.{Allocation}
use Rattle.etagere_base.specs.declared.geometry.Rectangle.{Rectangle}
use Rattle.etagere_base.specs.Places.{rectangle_at}
use Rattle.etagere_base.specs.Lists.{times}
use Rattle.shelf_model.specs.Places.{allocation_of, column_place, column_height, allocations_along, allocations_after, allocations, is_allocated}
use Rattle.shelf_model.specs.Returning.{has_id}
use Rattle.shelf_model.specs.State.{Item, Shelf, AtlasState}
use Rattle.shelf_model.proofs.Allocations.InShelves.{is_allocated_in}
use Rattle.shelf_model.proofs.Allocations.IdLists.{item_ids, ids, id_list}
use Rattle.etagere_base.proofs.FirstFound.{is_some-find}
use Rattle.etagere_base.proofs.FirstPlace.{is_some-position}
use Rattle.etagere_base.proofs.TimesLemmas.{stands_in, absent-times, times-absent}

-- the id of an allocation
abbrev pub id_of : Allocation → ℕ
id_of allocation = allocation.id

-- the allocations of a shelf have the ids that hold its items
pub ids-allocations_along : (frame : Frame) (across height here : ℕ) (items : List Item)
    → map id_of (allocations_along frame across height here items) ≡ item_ids items
ids-allocations_along frame across height here items =
    map-gathered _ _ id_of (λ item. id_list item.id) (λ here item. of_owner item.id (rectangle_at frame here across item.width height)) here items
  where
    of_owner : (owner : Option ℕ) (rectangle : Rectangle) → map id_of (allocation_of owner rectangle) ≡ id_list owner
    of_owner None rectangle = refl
    of_owner (Some id) rectangle = refl

-- the allocations of shelves have the ids that hold their items
pub ids-allocations_after : (frame : Frame) (before shelves : List Shelf) → map id_of (allocations_after frame before shelves) ≡ ids shelves
ids-allocations_after frame before shelves =
    map-gathered _ _ id_of (λ shelf. item_ids shelf.items)
    (λ before shelf. ids-allocations_along frame (column_height shelf.column before) shelf.height (column_place frame shelf) shelf.items) before shelves

-- an id holds an allocation where it stands among the ids
stands_in-ids : (id : ℕ) (allocations : List Allocation)
    → list_any (λ (allocation : Allocation). allocation.id == id) allocations ≡ stands_in id (map id_of allocations)
stands_in-ids id [] = refl
stands_in-ids id (allocation ∷ allocations) = ap (λ (b : Bool). (allocation.id == id) || b) (stands_in-ids id allocations)

-- an id among the ids of a first item, free or allocated, and of the others
item_ids-step : (id width : ℕ) (owner : Option ℕ) (items : List Item)
    → stands_in id (item_ids items) ≡ list_any (λ (item : Item). has_id id item.id) items
    → stands_in id (item_ids (record { width = width; id = owner } ∷ items))
    ≡ list_any (λ (item : Item). has_id id item.id) (record { width = width; id = owner } ∷ items)
item_ids-step id width None items h = h
item_ids-step id width (Some owner) items h = ap (λ (b : Bool). (owner == id) || b) h

-- an id stands among the ids of items where it holds one
stands_in-item_ids : (id : ℕ) (items : List Item) → stands_in id (item_ids items) ≡ list_any (λ (item : Item). has_id id item.id) items
stands_in-item_ids id [] = refl
stands_in-item_ids id (item ∷ items) = item_ids-step id item.width item.id items (stands_in-item_ids id items)

-- an id holds an item of a shelf where it stands among the ids of the shelf's items
is_allocated_in-item_ids : (id : ℕ) (shelf : Shelf) → is_allocated_in id shelf ≡ stands_in id (item_ids shelf.items)
is_allocated_in-item_ids id shelf =
    is_some-position (λ (item : Item). has_id id item.id) shelf.items ∙ sym (stands_in-item_ids id shelf.items)

-- an id holds an item of a shelf where it stands among the ids of the shelves
is_allocated_in-ids : (id : ℕ) (shelves : List Shelf) → list_any (is_allocated_in id) shelves ≡ stands_in id (ids shelves)
is_allocated_in-ids id [] = refl
is_allocated_in-ids id (shelf ∷ shelves) =
    ap (λ (b : Bool). b || list_any (is_allocated_in id) shelves) (is_allocated_in-item_ids id shelf)
    ∙ ap (λ (b : Bool). stands_in id (item_ids shelf.items) || b) (is_allocated_in-ids id shelves)
    ∙ sym (list_any-append (λ number. number == id) (item_ids shelf.items) (ids shelves))

-- an id is allocated where an allocation has it
pub is_allocated-any : (state : AtlasState) (id : ℕ)
    → is_allocated state id ≡ list_any (λ (allocation : Allocation). allocation.id == id) (allocations state)
is_allocated-any state id =
    mapped (find (λ (allocation : Allocation). allocation.id == id) (allocations state))
    ∙ is_some-find (λ (allocation : Allocation). allocation.id == id) (allocations state)
  where
    mapped : (o : Option Allocation) → is_some (option_map (λ allocation. allocation.rectangle) o) ≡ is_some o
    mapped None = refl
    mapped (Some allocation) = refl

-- an id is allocated where it stands among the ids of the shelves
is_allocated-ids : (state : AtlasState) (id : ℕ) → is_allocated state id ≡ stands_in id (ids state.shelves)
is_allocated-ids state id = is_allocated-any state id ∙ stands_in-ids id (allocations state) ∙ ap (stands_in id) (ids-allocations_after state.frame [] state.shelves)

-- an id is allocated where it holds an item of a shelf
pub is_allocated-shelves : (state : AtlasState) (id : ℕ) → is_allocated state id ≡ list_any (is_allocated_in id) state.shelves
is_allocated-shelves state id = is_allocated-ids state id ∙ sym (is_allocated_in-ids id state.shelves)

-- an id that holds no item of a shelf is not among the ids
pub times-not_allocated_in : (id : ℕ) (shelf : Shelf) → is_allocated_in id shelf ≡ false → times id (item_ids shelf.items) ≡ 0
times-not_allocated_in id shelf h = absent-times id (item_ids shelf.items) (sym (is_allocated_in-item_ids id shelf) ∙ h)

-- an id that isn't among the ids of a shelf's items holds none of them
pub is_allocated_in-none : (id : ℕ) (shelf : Shelf) → times id (item_ids shelf.items) ≡ 0 → is_allocated_in id shelf ≡ false
is_allocated_in-none id shelf h = is_allocated_in-item_ids id shelf ∙ times-absent id (item_ids shelf.items) h

-- an id is among those of the allocations as often as it holds an item
pub times-ids_of : (state : AtlasState) (id : ℕ) → times id (map id_of (allocations state)) ≡ times id (ids state.shelves)
times-ids_of state id = ap (times id) (ids-allocations_after state.frame [] state.shelves)

-- an id that isn't allocated is nowhere among the ids
pub times-not_allocated : (state : AtlasState) (id : ℕ) → is_allocated state id ≡ false → times id (ids state.shelves) ≡ 0
times-not_allocated state id h = absent-times id (ids state.shelves) (sym (is_allocated-ids state id) ∙ h)

-- an id that isn't among the ids of shelves is allocated in none of them
pub not_allocated_in-times : (id : ℕ) (shelves : List Shelf) → times id (ids shelves) ≡ 0 → list_any (is_allocated_in id) shelves ≡ false
not_allocated_in-times id shelves h = is_allocated_in-ids id shelves ∙ times-absent id (ids shelves) h

-- an id holds something exactly where a shelf is found that it holds an item of
allocated_found : (state : AtlasState) (id : ℕ) → is_some (position (is_allocated_in id) state.shelves) ≡ is_allocated state id
allocated_found state id = is_some-position (is_allocated_in id) state.shelves ∙ sym (is_allocated-shelves state id)

-- an id that is found in no shelf holds nothing
pub not_found-not_allocated : (state : AtlasState) (id : ℕ) → position (is_allocated_in id) state.shelves ≡ None → is_allocated state id ≡ false
not_found-not_allocated state id h = sym (allocated_found state id) ∙ ap is_some h
