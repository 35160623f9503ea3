-- A state whose ids have other numbers.
use Rattle.std.specs.Prelude.{ℕ, option_map, map}
use Rattle.etagere_base.specs.declared.ids.Allocation.{Allocation}
use Rattle.shelf_model.specs.State.{Item, Shelf, AtlasState}
use Rattle.etagere_run.specs.Answers.Live.{Entry}

-- the item, the shelf and the state with other numbers for ids
abbrev pub renamed_item : (ℕ → ℕ) → Item → Item
renamed_item name item = record { width = item.width; id = option_map name item.id }

abbrev pub renamed_shelf : (ℕ → ℕ) → Shelf → Shelf
renamed_shelf name shelf =
    record {
      column = shelf.column;
      height = shelf.height;
      items = map (renamed_item name) shelf.items;
      free_list = shelf.free_list;
    }

abbrev pub renamed : (ℕ → ℕ) → AtlasState → AtlasState
renamed name state =
    record {
      frame = state.frame;
      shelves = map (renamed_shelf name) state.shelves;
      peak_items = state.peak_items;
    }

-- the allocation under the other number
abbrev pub renamed_allocation : (ℕ → ℕ) → Allocation → Allocation
renamed_allocation name allocation =
    record { id = name allocation.id; rectangle = allocation.rectangle }

-- the entry whose allocation is under the other number
abbrev pub renamed_entry : (ℕ → ℕ) → Entry → Entry
renamed_entry name entry =
    record { position = entry.position; allocation = renamed_allocation name entry.allocation }
