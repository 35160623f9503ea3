-- Growing: the first fault of a new size, and the state after a grow: something is added at the end
-- of each shelf and of each column, and then all is merged.
use Rattle.std.specs.Prelude.{ℕ, ◌+◌, ◌-◌, max, Bool, true, false, ◌&&◌, not, Option, None, Some, option_map, List, [], ◌∷◌, ◌++◌, map, nat_lt, ◌==◌, if◌then◌else◌}
use Rattle.etagere_base.specs.declared.faults.ResizeFault.{ResizeFault}
use Rattle.etagere_base.specs.declared.faults.ResizeFault.TheVariants as resizes
use Rattle.etagere_base.specs.declared.frames.Frame.{Frame}
use Rattle.etagere_base.specs.declared.geometry.Size.{Size}
use Rattle.etagere_base.specs.Frames.{across_side, longest_side}
use Rattle.etagere_base.specs.Growing.{resize_fault}
pub use Rattle.etagere_base.specs.Growing.{grown_column_width, grown_frame, resized}
use Rattle.etagere_base.specs.Lists.{total}
use Rattle.shelf_model.specs.declared.faults.AtlasGrowFault.{AtlasGrowFault}
use Rattle.shelf_model.specs.declared.faults.AtlasGrowFault.TheVariants as faults
use Rattle.shelf_model.specs.Choice.{most_items}
use Rattle.shelf_model.specs.Fresh.{empty_columns}
use Rattle.shelf_model.specs.Merging.{merged}
use Rattle.shelf_model.specs.Places.{column_place}
use Rattle.shelf_model.specs.State.{Item, Shelf, AtlasState, empty_shelf, is_empty, is_free, items_in_use}

-- the width that each column gains
abbrev pub added_width : Frame → Size → ℕ
added_width frame size = grown_column_width frame size - frame.column_width

-- the height that each column gains
abbrev pub added_height : Frame → Size → ℕ
added_height frame size = across_side (resized frame size) - across_side frame

-- how many columns the atlas gains
abbrev pub added_columns : Frame → Size → ℕ
added_columns frame size = (grown_frame frame size).columns - frame.columns

-- the last item is free
abbrev pub ends_free : List Item → Bool
ends_free [] = false
ends_free (item ∷ []) = is_free item
ends_free (item ∷ next ∷ items) = ends_free (next ∷ items)

-- a shelf is the last of its column, where these come after it
abbrev pub ends_column : Shelf → List Shelf → Bool
ends_column shelf [] = true
ends_column shelf (next ∷ shelves) = not (shelf.column == next.column)

-- how many records the shelves need for a width that is added: one for each that ends with an
-- allocated item
abbrev pub needed_for_width : ℕ → List Shelf → ℕ
needed_for_width width shelves =
    if width == 0 then 0 else total (λ shelf. if ends_free shelf.items then 0 else 1) shelves

-- how many columns end with a shelf that isn't empty
abbrev pub filled_ends : List Shelf → ℕ
filled_ends [] = 0
filled_ends (shelf ∷ shelves) =
    (if ends_column shelf shelves && not (is_empty shelf) then 1 else 0) + filled_ends shelves

-- how many records the columns need for a height that is added
abbrev pub needed_for_height : ℕ → List Shelf → ℕ
needed_for_height height shelves = if height == 0 then 0 else filled_ends shelves

-- how many item records a grow needs: for the width, for the height and for new columns
abbrev pub records_needed : AtlasState → Size → ℕ
records_needed state size =
    needed_for_width (added_width state.frame size) state.shelves
    + needed_for_height (added_height state.frame size) state.shelves
    + added_columns state.frame size

-- a fault of a size, as one of a grow
abbrev pub of_resize : ResizeFault → AtlasGrowFault
of_resize resizes.Size = faults.Size
of_resize resizes.Smaller = faults.Smaller
of_resize resizes.Area = faults.Area

-- the first fault of a grow to a size, records and memory aside
abbrev pub size_fault : Frame → Size → Option AtlasGrowFault
size_fault frame size = option_map of_resize (resize_fault longest_side frame size)

-- the first of these faults, and then that of more items than an atlas can have
abbrev pub or_records_fault : ℕ → Option AtlasGrowFault → Option AtlasGrowFault
or_records_fault items None = if nat_lt most_items items then Some faults.Records else None
or_records_fault items (Some fault) = Some fault

-- the first fault of a grow to a size, memory aside
abbrev pub grow_fault : AtlasState → Size → Option AtlasGrowFault
grow_fault state size =
    or_records_fault (items_in_use state.shelves + records_needed state size)
    (size_fault state.frame size)

-- the shelf with a free item of this width at its end, and the free list that it has once all is
-- merged: its place comes first, unless the item before it is free
abbrev pub widened_shelf : Frame → ℕ → Shelf → Shelf
widened_shelf frame width shelf =
    record {
      column = shelf.column;
      height = shelf.height;
      items = shelf.items ++ record { width = width; id = None } ∷ [];
      free_list = if ends_free shelf.items then shelf.free_list
          else (column_place frame shelf + frame.column_width) ∷ shelf.free_list;
    }

-- the shelves, each with a width added at its end
abbrev pub widened : Frame → ℕ → List Shelf → List Shelf
widened frame width shelves =
    if width == 0 then shelves else map (widened_shelf frame width) shelves

-- the shelves with an empty one of this height after the last of each column
abbrev pub with_ends : Frame → ℕ → List Shelf → List Shelf
with_ends frame height [] = []
with_ends frame height (shelf ∷ shelves) =
    shelf
    ∷ ((if ends_column shelf shelves then empty_shelf frame shelf.column height ∷ [] else [])
    ++ with_ends frame height shelves)

-- the shelves, with a height added at the end of each column
abbrev pub heightened : Frame → ℕ → List Shelf → List Shelf
heightened frame height shelves = if height == 0 then shelves else with_ends frame height shelves

-- the state with all that a grow adds
abbrev pub extended : AtlasState → Size → AtlasState
extended state size =
    let frame = grown_frame state.frame size in
    record {
      frame = frame;
      shelves =
          heightened frame (added_height state.frame size)
          (widened state.frame (added_width state.frame size) state.shelves)
          ++ empty_columns frame state.frame.columns (added_columns state.frame size);
      peak_items = state.peak_items;
    }

-- the state after a grow: what is added is merged with what is free before it
abbrev pub atlas_grown : AtlasState → Size → AtlasState
atlas_grown state size =
    let shelves = (merged (extended state size)).shelves in
    record {
      frame = grown_frame state.frame size;
      shelves = shelves;
      peak_items = max state.peak_items (items_in_use shelves);
    }
