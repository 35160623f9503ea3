-- Records that are made ahead, and records that begin anew.
use Rattle.std.specs.Prelude.{ℕ, zero, suc, false, None, is_some, List, [], ◌∷◌, ◌++◌}
use Rattle.shelf_records.specs.declared.records.LinkedItem.{LinkedItem}
use Rattle.shelf_records.specs.declared.records.LinkedShelf.{LinkedShelf}
use Rattle.shelf_records.specs.RecordLists.{Records}
use Rattle.shelf_records.specs.RecordUses.{item_used, new_item, new_shelf, shelf_used}

-- so many new item records after all others
abbrev pub with_new_items : ℕ → List LinkedItem → List LinkedItem
with_new_items zero items = items
with_new_items (suc count) items = with_new_items count (items ++ new_item ∷ [])

-- so many new shelf records after all others
abbrev pub with_new_shelves : ℕ → List LinkedShelf → List LinkedShelf
with_new_shelves zero shelves = shelves
with_new_shelves (suc count) shelves = with_new_shelves count (shelves ++ new_shelf ∷ [])

-- the records with so many new ones of each kind, which stand in no list
abbrev pub records_made : ℕ → ℕ → Records → Records
records_made items shelves records =
    record records {
      items = with_new_items items records.items;
      shelves = with_new_shelves shelves records.shelves;
    }

-- the records once the item record was put to use again that became unused last, where one was
abbrev pub item_used_again : Records → Records
item_used_again records = item_used (is_some records.unused_items) records

-- the records once the shelf record was put to use again that became unused last, where one was
abbrev pub shelf_used_again : Records → Records
shelf_used_again records = shelf_used (is_some records.unused_shelves) records

-- an item record that begins anew: free, in no list, with this place, width and shelf
abbrev pub started : ℕ → ℕ → ℕ → LinkedItem → LinkedItem
started x width shelf item =
    record {
      x = x;
      width = width;
      prev = None;
      next = None;
      prev_unallocated = None;
      next_unallocated = None;
      shelf = shelf;
      allocated = false;
      generation = item.generation;
    }
