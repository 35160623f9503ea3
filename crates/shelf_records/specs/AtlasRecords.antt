-- The records of an atlas, and the state that they spell.
use Rattle.std.specs.Prelude.{ℕ, ◌+◌, ◌*◌, ◌/◌, ℤ, Bool, false, None, Some, List, length, map, if◌then◌else◌}
use Rattle.etagere_base.specs.Ids.{index_modulus}
use Rattle.etagere_base.specs.declared.frames.Frame.{Frame}
use Rattle.shelf_records.specs.declared.records.LinkedItem.{LinkedItem}
use Rattle.shelf_records.specs.declared.records.LinkedShelf.{LinkedShelf}
use Rattle.shelf_records.specs.RecordLists.{Records, Entry, shelf_walk, walked_entry}
use Rattle.etagere_links.specs.Edits.{field_at}
use Rattle.shelf_model.specs.State.{Item, Shelf, AtlasState}

-- an atlas: its frame, its records, and the area that it says is allocated
pub record AtlasRecords : Type 0 where
  pub frame : Frame
  pub records : Records
  pub allocated_space : ℤ

-- whether the item of this number is allocated
abbrev pub is_allocated_at : List LinkedItem → ℕ → Bool
is_allocated_at items number = field_at (λ (item : LinkedItem). item.allocated) false items number

-- where the item of this number begins
abbrev pub item_place_of : List LinkedItem → ℕ → ℕ
item_place_of items number = field_at (λ (item : LinkedItem). item.x) 0 items number

-- the shelf that the item of this number names
abbrev pub shelf_of : List LinkedItem → ℕ → ℕ
shelf_of items number = field_at (λ (item : LinkedItem). item.shelf) 0 items number

-- where the shelf of this number begins along
abbrev pub along_of : List LinkedShelf → ℕ → ℕ
along_of shelves number = field_at (λ (shelf : LinkedShelf). shelf.x) 0 shelves number

-- where the shelf of this number begins across
abbrev pub across_of : List LinkedShelf → ℕ → ℕ
across_of shelves number = field_at (λ (shelf : LinkedShelf). shelf.y) 0 shelves number

-- how tall the shelf of this number is
abbrev pub height_of : List LinkedShelf → ℕ → ℕ
height_of shelves number = field_at (λ (shelf : LinkedShelf). shelf.height) 0 shelves number

-- whether the shelf of this number says that it is empty
abbrev pub is_empty_at : List LinkedShelf → ℕ → Bool
is_empty_at shelves number = field_at (λ (shelf : LinkedShelf). shelf.is_empty) false shelves number

-- the item that a record spells: its id is its number plus 65536 times its generation
abbrev pub spelled_item : ℕ → LinkedItem → Item
spelled_item number item =
    record {
      width = item.width;
      id = if item.allocated
          then Some (number + index_modulus * item.generation) else None;
    }

-- the item of this number
abbrev pub item_at : List LinkedItem → ℕ → Item
item_at items number = field_at (spelled_item number) (record { width = 0; id = None }) items number

-- the width of the item of a number
abbrev pub width_of : List LinkedItem → ℕ → ℕ
width_of items number = (item_at items number).width

-- the shelf that these lists of records spell
abbrev pub spelled_shelf : AtlasRecords → Entry → Shelf
spelled_shelf atlas entry =
    record {
      column = along_of atlas.records.shelves entry.number / atlas.frame.column_width;
      height = height_of atlas.records.shelves entry.number;
      items = map (item_at atlas.records.items) entry.items;
      free_list = map (item_place_of atlas.records.items) entry.free_list;
    }

-- the state that these lists of records spell
abbrev pub spelled_state : AtlasRecords → List Entry → AtlasState
spelled_state atlas entries =
    record {
      frame = atlas.frame;
      shelves = map (spelled_shelf atlas) entries;
      peak_items = length atlas.records.items;
    }

-- the lists of each shelf that walks meet
abbrev pub walked_entries : AtlasRecords → List Entry
walked_entries atlas = map (walked_entry atlas.records) (shelf_walk atlas.records).met

-- the state that records spell, whether they keep the rules or not
abbrev pub state_spelled : AtlasRecords → AtlasState
state_spelled atlas = spelled_state atlas (walked_entries atlas)
