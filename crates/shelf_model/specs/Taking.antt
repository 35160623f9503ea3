-- The state after a placement was taken: its shelf and its item are split where too much is left.
use Rattle.std.specs.Prelude.{ℕ, ◌+◌, ◌-◌, max, None, Some, List, [], ◌∷◌, if◌then◌else◌}
use Rattle.etagere_base.specs.declared.frames.Frame.{Frame}
use Rattle.shelf_model.specs.Choice.{Placement}
use Rattle.etagere_base.specs.Lists.{remove_number, replace_number, replaced_at}
use Rattle.shelf_model.specs.State.{Item, Shelf, AtlasState, empty_shelf, items_in_use}

-- what becomes of the item of a placement: what is given of it, and where it is split the rest,
-- which stays free
abbrev pub item_pieces : Placement → ℕ → Item → List Item
item_pieces placement id item =
    record { width = placement.width; id = Some id }
    ∷ (if placement.splits_item
    then record { width = item.width - placement.width; id = None } ∷ [] else [])

-- the free list after a placement was taken: the rest of its item stands where the item stood
abbrev pub taken_free_list : Placement → List ℕ → List ℕ
taken_free_list placement free_list =
    if placement.splits_item
    then replace_number placement.along (placement.along + placement.width) free_list
    else remove_number placement.along free_list

-- the shelf of a placement after it was taken
abbrev pub taken_shelf : Placement → ℕ → Shelf → Shelf
taken_shelf placement id shelf =
    record {
      column = shelf.column;
      height = placement.height;
      items = replaced_at placement.item (item_pieces placement id) shelf.items;
      free_list = taken_free_list placement shelf.free_list;
    }

-- what becomes of the shelf of a placement: the shelf, and where it is split an empty one of the
-- rest after it
abbrev pub shelf_pieces : Frame → Placement → ℕ → Shelf → List Shelf
shelf_pieces frame placement id shelf =
    taken_shelf placement id shelf
    ∷ (if placement.splits_shelf
    then empty_shelf frame shelf.column (shelf.height - placement.height) ∷ [] else [])

-- the state after a placement was taken by an id
abbrev pub taken : AtlasState → Placement → ℕ → AtlasState
taken state placement id =
    let shelves =
    replaced_at placement.shelf (shelf_pieces state.frame placement id) state.shelves in
    record {
      frame = state.frame;
      shelves = shelves;
      peak_items = max state.peak_items (items_in_use shelves);
    }
