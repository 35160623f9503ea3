-- The records of a new atlas: a shelf and an item for each column, numbered as the columns are.
use Rattle.std.specs.Prelude.{ℕ, zero, suc, ◌*◌, true, false, Option, None, Some, List, [], ◌∷◌, nat_lt, if◌then◌else◌}
use Rattle.etagere_base.specs.declared.frames.Frame.{Frame}
use Rattle.etagere_base.specs.Frames.{across_side}
use Rattle.shelf_records.specs.declared.records.LinkedItem.{LinkedItem}
use Rattle.shelf_records.specs.declared.records.LinkedShelf.{LinkedShelf}
use Rattle.shelf_records.specs.RecordLists.{Records}

-- what a function makes of so many numbers from this one on
abbrev pub numbered : {T : Type 0} → (ℕ → T) → ℕ → ℕ → List T
numbered make from zero = []
numbered make from (suc n) = make from ∷ numbered make (suc from) n

-- the column before this one
abbrev pub column_before : ℕ → Option ℕ
column_before zero = None
column_before (suc column) = Some column

-- the column after this one, of so many
abbrev pub column_after : ℕ → ℕ → Option ℕ
column_after columns column = if nat_lt (suc column) columns then Some (suc column) else None

-- the item of a column
abbrev pub fresh_item : Frame → ℕ → LinkedItem
fresh_item frame column =
    record {
      x = column * frame.column_width;
      width = frame.column_width;
      prev = None;
      next = None;
      prev_unallocated = None;
      next_unallocated = None;
      shelf = column;
      allocated = false;
      generation = 1;
    }

-- the shelf of a column
abbrev pub fresh_shelf : Frame → ℕ → LinkedShelf
fresh_shelf frame column =
    record {
      x = column * frame.column_width;
      y = 0;
      height = across_side frame;
      prev = column_before column;
      next = column_after frame.columns column;
      first_item = Some column;
      first_unallocated = Some column;
      is_empty = true;
    }

-- the records of a new atlas
abbrev pub fresh_records : Frame → Records
fresh_records frame =
    record {
      shelves = numbered (fresh_shelf frame) 0 frame.columns;
      items = numbered (fresh_item frame) 0 frame.columns;
      first_shelf = Some 0;
      unused_items = None;
      unused_shelves = None;
    }
