-- What an id holds and what its return does, shelf by shelf: the forms in which lemmas speak of it.
use Rattle.std.specs.Prelude.{Bool, ℕ, zero, suc, Option, None, Some, is_some, option_map, List, [], ◌∷◌}
use Rattle.etagere_base.specs.declared.frames.Frame.{Frame}
use Rattle.etagere_base.specs.declared.geometry.Rectangle.{Rectangle}
use Rattle.shelf_model.specs.Merging.{merged_shelf, merged_shelves}
use Rattle.etagere_base.specs.Lists.{at_first}
use Rattle.etagere_base.specs.Places.{rectangle_at}
use Rattle.shelf_model.specs.Places.{column_place}
use Rattle.shelf_model.specs.Returning.{freed_shelf, number_of, place_at}
use Rattle.shelf_model.specs.State.{Item, Shelf, AtlasState}

-- the width of the item of a number, 0 where there is none
abbrev pub width_of : List Item → ℕ → ℕ
width_of [] n = 0
width_of (item ∷ items) zero = item.width
width_of (item ∷ items) (suc n) = width_of items n

-- the state of shelves in a frame, but for its records
abbrev pub state_of : Frame → List Shelf → AtlasState
state_of frame shelves = record { frame = frame; shelves = shelves; peak_items = 0 }

-- the rectangle that is allocated under an id in a shelf at a place across
abbrev pub allocated_rectangle : Frame → ℕ → ℕ → Shelf → Option Rectangle
allocated_rectangle frame across id shelf =
    option_map
    (λ n. rectangle_at frame (place_at (column_place frame shelf) shelf.items n) across (width_of shelf.items n) shelf.height)
    (number_of id shelf.items)

-- an item of the shelf is allocated under an id
abbrev pub is_allocated_in : ℕ → Shelf → Bool
is_allocated_in id shelf = is_some (number_of id shelf.items)

-- the shelf with the item of an id returned: freed, and merged with its free neighbours
abbrev pub returned_shelf : Frame → ℕ → Shelf → Shelf
returned_shelf frame id shelf = returned_or (number_of id shelf.items)
  where
    returned_or : Option ℕ → Shelf
    returned_or None = shelf
    returned_or (Some n) = merged_shelf (freed_shelf frame n shelf)

-- the state after the item of an id was returned, merged only where it stood
abbrev pub returned_near : AtlasState → ℕ → AtlasState
returned_near state id =
    record {
      frame = state.frame;
      shelves = merged_shelves (at_first (is_allocated_in id) (returned_shelf state.frame id) state.shelves);
      peak_items = state.peak_items;
    }
