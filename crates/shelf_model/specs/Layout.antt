-- What of a state can be seen: all but the order of free lists and the count of records.
use Rattle.std.specs.Prelude.{[], map}
use Rattle.shelf_model.specs.State.{Shelf, AtlasState}

-- a shelf but for its free list
abbrev pub without_free_list : Shelf → Shelf
without_free_list shelf =
    record { column = shelf.column; height = shelf.height; items = shelf.items; free_list = [] }

-- a state but for its free lists and its count of records
abbrev pub layout : AtlasState → AtlasState
layout state =
    record { frame = state.frame; shelves = map without_free_list state.shelves; peak_items = 0 }
