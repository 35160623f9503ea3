-- Where nothing is allocated, no space is.
use Rattle.std.proofs.Common.{◌≡◌, ℕ, zero, suc, ◌*◌, ◌≤◌, Option, None, Some, [], map, refl, ap, ◌∙◌, sym, arith}
use Rattle.shelf_model.specs.Places.{allocations}
use Rattle.shelf_model.specs.Space.{allocated_space, allocated_width}
use Rattle.shelf_model.specs.State.{Item, Shelf, AtlasState}
use Rattle.etagere_base.specs.declared.frames.Frame.{Frame}
use Rattle.shelf_model.specs.Valid.{IsItem, IsShelf, IsValid}
use Rattle.shelf_model.proofs.Allocations.IdLists.{id_list, item_ids}
use Rattle.etagere_base.proofs.EachLemmas.{Each-both, Each-weaken}
use Rattle.etagere_base.proofs.Totals.{flat_map-nothing, map-nothing, none-total, nothing-flat_map, total-none}
use Rattle.shelf_model.proofs.Allocations.AllocatedIds.{id_of, ids-allocations_after}
use Rattle.shelf_model.proofs.Spaces.SpaceLemmas.{space_of, no_width-no_area, width_allocated}

-- an item at least one pixel wide that allocates no width has no id
no_width-no_id : (frame : Frame) (item : Item) → IsItem frame item × (width_allocated item ≡ 0) → id_list item.id ≡ []
no_width-no_id frame item h = of_owner item.width item.id h.0.width h.1
  where
    of_owner : (width : ℕ) (owner : Option ℕ) → 1 ≤ width → width_allocated (record { width = width; id = owner }) ≡ 0 → id_list owner ≡ []
    of_owner width None wide none = refl
    of_owner width (Some id) wide none = absurd (omega arith)

-- a shelf that allocates no space has no ids
no_area-no_ids : (frame : Frame) (shelf : Shelf) → IsShelf frame shelf × (space_of shelf ≡ 0) → item_ids shelf.items ≡ []
no_area-no_ids frame shelf h =
    let none = none-total width_allocated shelf.items (no_area (allocated_width shelf.items) shelf.height h.0.height h.1) in
    flat_map-nothing (λ item. id_list item.id) shelf.items
    (Each-weaken _ _ shelf.items (no_width-no_id frame) (Each-both (IsItem frame) (λ (item : Item). width_allocated item ≡ 0) shelf.items h.0.items none))
  where
    no_area : (width height : ℕ) → 1 ≤ height → width * height ≡ 0 → width ≡ 0
    no_area zero height tall h = refl
    no_area (suc width) height tall h = absurd (omega arith)

-- where no space is allocated, nothing is
pub no_space-nothing_allocated : (state : AtlasState) → IsValid state → allocated_space state ≡ 0 → allocations state ≡ []
no_space-nothing_allocated state valid none =
    let empty = Each-both (IsShelf state.frame) (λ (shelf : Shelf). space_of shelf ≡ 0) state.shelves valid.shelves (none-total space_of state.shelves none) in
    let no_ids = flat_map-nothing (λ shelf. item_ids shelf.items) state.shelves (Each-weaken _ _ state.shelves (no_area-no_ids state.frame) empty) in
    map-nothing id_of (allocations state) (ids-allocations_after state.frame [] state.shelves ∙ no_ids)

-- an item without an id allocates no width
no_id-no_width : (item : Item) → id_list item.id ≡ [] → width_allocated item ≡ 0
no_id-no_width item h = of_owner item.id h
  where
    of_owner : (owner : Option ℕ) → id_list owner ≡ [] → width_allocated (record { width = item.width; id = owner }) ≡ 0
    of_owner None h = refl
    of_owner (Some id) h = absurd (cc)

-- a shelf without ids allocates no space
no_ids-no_area : (shelf : Shelf) → item_ids shelf.items ≡ [] → space_of shelf ≡ 0
no_ids-no_area shelf h =
    no_width-no_area shelf
    (total-none width_allocated shelf.items (Each-weaken _ _ shelf.items no_id-no_width (nothing-flat_map (λ item. id_list item.id) shelf.items h)))

-- where nothing is allocated, no space is
pub nothing_allocated-no_space : (state : AtlasState) → allocations state ≡ [] → allocated_space state ≡ 0
nothing_allocated-no_space state nothing =
    let none = sym (ids-allocations_after state.frame [] state.shelves) ∙ ap (map id_of) nothing in
    total-none space_of state.shelves (Each-weaken _ _ state.shelves no_ids-no_area (nothing-flat_map (λ shelf. item_ids shelf.items) state.shelves none))
