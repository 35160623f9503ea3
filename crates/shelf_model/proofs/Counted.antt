-- What is in use is what is allocated and what is free.
use Rattle.std.proofs.Common.{◌≡◌, ℕ, ◌+◌, Option, None, Some, List, [], ◌∷◌, length, filter, refl, ap, arith, sym, ◌∙◌}
use Rattle.std.proofs.lemmas.List.{length-append, length-map}
use Rattle.shelf_model.specs.Places.{allocations}
use Rattle.shelf_model.specs.State.{AtlasState, Item, Shelf, is_free, items_in_use}
use Rattle.shelf_model.specs.Usage.{free_items}
use Rattle.shelf_model.proofs.Allocations.AllocatedIds.{id_of, ids-allocations_after}
use Rattle.shelf_model.proofs.Allocations.IdLists.{item_ids, ids}

-- each item of a shelf is allocated or free
items-parted : (items : List Item) → length (item_ids items) + length (filter is_free items) ≡ length items
items-parted [] = refl
items-parted (item ∷ items) = by_id item.id item.width (items-parted items)
  where
    by_id : (id : Option ℕ) (width : ℕ) → length (item_ids items) + length (filter is_free items) ≡ length items
        → length (item_ids (record { width = width; id = id } ∷ items)) + length (filter is_free (record { width = width; id = id } ∷ items))
        ≡ length (record { width = width; id = id } ∷ items)
    by_id None width later = omega (arith, later)
    by_id (Some id) width later = omega (arith, later)

-- so it is with those of all shelves
shelves-parted : (shelves : List Shelf) → length (ids shelves) + free_items shelves ≡ items_in_use shelves
shelves-parted [] = refl
shelves-parted (shelf ∷ shelves) =
    omega (arith, length-append (item_ids shelf.items) (ids shelves), items-parted shelf.items, shelves-parted shelves)

pub items-counted : (state : AtlasState) → length (allocations state) + free_items state.shelves ≡ items_in_use state.shelves
items-counted state =
    let same : length (allocations state) ≡ length (ids state.shelves) =
    sym (length-map (allocations state) id_of) ∙ ap length (ids-allocations_after state.frame [] state.shelves) in
    omega (arith, same, shelves-parted state.shelves)
