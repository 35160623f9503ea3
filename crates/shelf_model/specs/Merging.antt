-- Merging free items and empty shelves: what touches, what becomes of the two, and all merged.
use Rattle.std.specs.Prelude.{◌+◌, Bool, ◌&&◌, None, List, map, ◌==◌}
use Rattle.etagere_base.specs.Merging.{merged_by}
use Rattle.shelf_model.specs.State.{Item, Shelf, AtlasState, is_free, is_empty}

abbrev pub both_free : Item → Item → Bool
both_free item next = is_free item && is_free next

abbrev pub combined_items : Item → Item → Item
combined_items item next = record { width = item.width + next.width; id = None }

-- free neighbours become one free item of the summed width
abbrev pub merged_items : List Item → List Item
merged_items items = merged_by both_free combined_items items

abbrev pub both_empty : Shelf → Shelf → Bool
both_empty shelf next = shelf.column == next.column && (is_empty shelf && is_empty next)

abbrev pub combined_shelves : Shelf → Shelf → Shelf
combined_shelves shelf next =
    record {
      column = shelf.column;
      height = shelf.height + next.height;
      items = shelf.items;
      free_list = shelf.free_list;
    }

-- empty neighbours of one column become one empty shelf of the summed height
abbrev pub merged_shelves : List Shelf → List Shelf
merged_shelves shelves = merged_by both_empty combined_shelves shelves

-- the shelf with each longest block of free neighbours made one item
abbrev pub merged_shelf : Shelf → Shelf
merged_shelf shelf =
    record {
      column = shelf.column;
      height = shelf.height;
      items = merged_items shelf.items;
      free_list = shelf.free_list;
    }

-- the state with all merged: in each shelf its free neighbours, then in each column its empty
-- shelves
abbrev pub merged : AtlasState → AtlasState
merged state =
    record {
      frame = state.frame;
      shelves = merged_shelves (map merged_shelf state.shelves);
      peak_items = state.peak_items;
    }
