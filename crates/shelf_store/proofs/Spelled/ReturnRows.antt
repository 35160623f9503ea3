-- Returns on the records of small atlases, by computing: which records are unused, in which order.
use Rattle.std.proofs.Common.{◌≡◌, ℕ, Bool, true, false, Option, None, Some, [], ◌∷◌, refl}
use Rattle.shelf_records.specs.declared.records.LinkedItem.{LinkedItem}
use Rattle.shelf_records.specs.declared.records.LinkedShelf.{LinkedShelf}
use Rattle.shelf_records.specs.RecordLists.{Records, walked_lists}
use Rattle.shelf_records.specs.AtlasRecords.{height_of, is_empty_at, width_of}
use Rattle.shelf_store.specs.Private.ItemReturned.{item_returned, unused_by}

-- a shelf of 8 that begins there across, between two others
abbrev shelf_at : ℕ → Option ℕ → Option ℕ → ℕ → Option ℕ → Bool → LinkedShelf
shelf_at across previous next first free is_empty =
    record {
      x = 0;
      y = across;
      height = 8;
      prev = previous;
      next = next;
      first_item = Some first;
      first_unallocated = free;
      is_empty = is_empty;
    }

-- an allocated item of 10 that begins there along, between two others of a shelf
abbrev allocated_at : ℕ → ℕ → Option ℕ → Option ℕ → LinkedItem
allocated_at along shelf previous next =
    record {
      x = along;
      width = 10;
      prev = previous;
      next = next;
      prev_unallocated = None;
      next_unallocated = None;
      shelf = shelf;
      allocated = true;
      generation = 1;
    }

-- a free item of this width, between two others of a shelf and two of its free list
abbrev free_at : ℕ → ℕ → ℕ → Option ℕ → Option ℕ → Option ℕ → Option ℕ → LinkedItem
free_at along width shelf previous next free_previous free_next =
    record {
      x = along;
      width = width;
      prev = previous;
      next = next;
      prev_unallocated = free_previous;
      next_unallocated = free_next;
      shelf = shelf;
      allocated = false;
      generation = 1;
    }

-- item 2 is allocated between two free ones; its shelf stands between two empty ones
abbrev between_free : Records
between_free =
    record {
      shelves = shelf_at 0 None (Some 1) 0 (Some 0) true ∷ shelf_at 8 (Some 0) (Some 2) 1 (Some 3) false ∷ shelf_at 16 (Some 1) None 4 (Some 4) true ∷ [];
      items =
          free_at 0 30 0 None None None None
          ∷ free_at 0 10 1 None (Some 2) (Some 3) None
          ∷ allocated_at 10 1 (Some 1) (Some 3)
          ∷ free_at 20 10 1 (Some 2) None None (Some 1)
          ∷ free_at 0 30 2 None None None None ∷ [];
      first_shelf = Some 0;
      unused_items = None;
      unused_shelves = None;
    }

row_before : walked_lists between_free ≡ record { entries = record { number = 0; items = 0 ∷ []; free_list = 0 ∷ [] } ∷ record { number = 1; items = 1 ∷ 2 ∷ 3 ∷ []; free_list = 3 ∷ 1 ∷ [] } ∷ record { number = 2; items = 4 ∷ []; free_list = 4 ∷ [] } ∷ []; unused_items = []; unused_shelves = [] }
row_before = refl

-- after its return the first shelf is the whole column, and its item is the first: unused are, the last first, the own
-- shelf's item, the next shelf's, the item's own and the next item's
row_between_free : walked_lists (item_returned 2 between_free) ≡ record { entries = record { number = 0; items = 0 ∷ []; free_list = 0 ∷ [] } ∷ []; unused_items = 1 ∷ 4 ∷ 2 ∷ 3 ∷ []; unused_shelves = 1 ∷ 2 ∷ [] }
row_between_free = refl

row_height : height_of (item_returned 2 between_free).shelves 0 ≡ 24
row_height = refl

row_made_unused : unused_by 2 between_free ≡ 4
row_made_unused = refl

-- item 1 is allocated between two allocated ones; item 3 is free
abbrev between_allocated : Records
between_allocated =
    record {
      shelves = shelf_at 0 None None 0 (Some 3) false ∷ [];
      items =
          allocated_at 0 0 None (Some 1)
          ∷ allocated_at 10 0 (Some 0) (Some 2)
          ∷ allocated_at 20 0 (Some 1) (Some 3)
          ∷ free_at 30 10 0 (Some 2) None None None ∷ [];
      first_shelf = Some 0;
      unused_items = None;
      unused_shelves = None;
    }

-- after its return it stands in front of the free list, and nothing is unused
row_between_allocated : walked_lists (item_returned 1 between_allocated) ≡ record { entries = record { number = 0; items = 0 ∷ 1 ∷ 2 ∷ 3 ∷ []; free_list = 1 ∷ 3 ∷ [] } ∷ []; unused_items = []; unused_shelves = [] }
row_between_allocated = refl

-- after the return of the item before the free one, that is absorbed, and the shelf is not empty
row_before_free : walked_lists (item_returned 2 between_allocated) ≡ record { entries = record { number = 0; items = 0 ∷ 1 ∷ 2 ∷ []; free_list = 2 ∷ [] } ∷ []; unused_items = 3 ∷ []; unused_shelves = [] }
row_before_free = refl

row_width : width_of (item_returned 2 between_allocated).items 2 ≡ 20
row_width = refl

row_not_empty : is_empty_at (item_returned 2 between_allocated).shelves 0 ≡ false
row_not_empty = refl
