-- Which states an atlas can be in.
use Rattle.std.specs.Prelude.{◌≡◌, ℕ, ◌%◌, ◌<◌, ◌≤◌, Bool, nat_lt}
use Rattle.etagere_base.specs.declared.frames.Frame.{Frame}
use Rattle.etagere_base.specs.declared.ids.Allocation.{Allocation}
use Rattle.etagere_base.specs.Frames.{HasAllColumns, IsFrame, across_side, alignment_along, longest_side}
use Rattle.shelf_model.specs.Choice.{most_items}
use Rattle.shelf_model.specs.Merging.{both_free, both_empty}
use Rattle.std.specs.List.{AllByRecursion}
use Rattle.etagere_base.specs.Lists.{NoNeighbours, times}
use Rattle.shelf_model.specs.Places.{allocations, allocated_numbers, column_place, column_height, free_places, record_number}
use Rattle.shelf_model.specs.State.{Item, Shelf, AtlasState, total_width, items_in_use}

-- an item is at least one pixel wide, and aligned
pub record IsItem (frame : Frame) (item : Item) : Type 0 where
  pub width : 1 ≤ item.width
  pub aligned : item.width % alignment_along frame ≡ 0

-- the items of a shelf fill its column, no two free ones side by side, and the free list has the
-- place of each free one once
pub record IsShelf (frame : Frame) (shelf : Shelf) : Type 0 where
  pub column : shelf.column < frame.columns
  pub height : 1 ≤ shelf.height
  pub items : AllByRecursion (IsItem frame) shelf.items
  pub width : total_width shelf.items ≡ frame.column_width
  pub apart : NoNeighbours both_free shelf.items
  pub free_list : (place : ℕ) → times place shelf.free_list
      ≡ times place (free_places (column_place frame shelf) shelf.items)

-- a later shelf stands in an earlier column
abbrev pub is_out_of_order : Shelf → Shelf → Bool
is_out_of_order shelf next = nat_lt next.column shelf.column

-- the shelves fill each column, column after column, no two empty ones side by side; the record
-- numbers of what is allocated differ and are below the records; and the items are no more than the
-- records, which are at most the most items
pub record IsValid (state : AtlasState) : Type 0 where
  pub frame : IsFrame longest_side state.frame
  pub columns : HasAllColumns state.frame
  pub shelves : AllByRecursion (IsShelf state.frame) state.shelves
  pub ordered : NoNeighbours is_out_of_order state.shelves
  pub heights : (column : ℕ) → column < state.frame.columns
      → column_height column state.shelves ≡ across_side state.frame
  pub apart : NoNeighbours both_empty state.shelves
  pub numbers : (number : ℕ) → times number (allocated_numbers state) ≤ 1
  pub below : AllByRecursion (λ (allocation : Allocation). record_number allocation.id < state.peak_items)
      (allocations state)
  pub peak_items : (items_in_use state.shelves ≤ state.peak_items) × (state.peak_items ≤ most_items)
