-- Lists and steps on small records, by computing.
use Rattle.std.proofs.Common.{◌≡◌, true, false, None, Some, [], ◌∷◌, refl}
use Rattle.shelf_records.specs.RecordLists.{Records, walked_lists}
use Rattle.shelf_records.specs.RecordMerges.{free_absorbed, item_freed}

-- an allocated item of 8 and a free one of 12 after it, in a shelf of 20
abbrev pub two_items : Records
two_items =
    record {
      shelves =
          record {
            x = 0;
            y = 0;
            height = 8;
            prev = None;
            next = None;
            first_item = Some 0;
            first_unallocated = Some 1;
            is_empty = false;
          } ∷ [];
      items =
          record {
            x = 0;
            width = 8;
            prev = None;
            next = Some 1;
            prev_unallocated = None;
            next_unallocated = None;
            shelf = 0;
            allocated = true;
            generation = 1;
          }
          ∷ record {
            x = 8;
            width = 12;
            prev = Some 0;
            next = None;
            prev_unallocated = None;
            next_unallocated = None;
            shelf = 0;
            allocated = false;
            generation = 1;
          } ∷ [];
      first_shelf = Some 0;
      unused_items = None;
      unused_shelves = None;
    }

-- its lists
row_lists : walked_lists two_items ≡ record { entries = record { number = 0; items = 0 ∷ 1 ∷ []; free_list = 1 ∷ [] } ∷ []; unused_items = []; unused_shelves = [] }
row_lists = refl

-- its lists after the first item took the place of the second, and became free
row_returned : walked_lists (item_freed 0 0 (free_absorbed 0 0 1 20 two_items)) ≡ record { entries = record { number = 0; items = 0 ∷ []; free_list = 0 ∷ [] } ∷ []; unused_items = 1 ∷ []; unused_shelves = [] }
row_returned = refl
