-- The state after a return: the item is freed, and then all is merged.
use Rattle.std.specs.Prelude.{ℕ, zero, suc, ◌+◌, Bool, false, Option, None, Some, List, [], ◌∷◌, map, position, take, ◌==◌, if◌then◌else◌}
use Rattle.etagere_base.specs.declared.frames.Frame.{Frame}
use Rattle.shelf_model.specs.Merging.{merged}
use Rattle.shelf_model.specs.Places.{column_place}
use Rattle.shelf_model.specs.State.{Item, Shelf, AtlasState, is_free, total_width}
use Rattle.etagere_base.specs.Lists.{remove_number}

-- the item is allocated by this id
abbrev pub has_id : ℕ → Option ℕ → Bool
has_id id None = false
has_id id (Some owner) = owner == id

-- the number of the item that is allocated under an id
abbrev pub number_of : ℕ → List Item → Option ℕ
number_of id items = position (λ (item : Item). has_id id item.id) items

-- the item of this number is free
abbrev pub is_free_at : ℕ → List Item → Bool
is_free_at n [] = false
is_free_at zero (item ∷ items) = is_free item
is_free_at (suc n) (item ∷ items) = is_free_at n items

-- the item before the one of this number is free
abbrev pub is_free_before : ℕ → List Item → Bool
is_free_before zero items = false
is_free_before (suc n) items = is_free_at n items

-- where the item of this number begins, the first one here
abbrev pub place_at : ℕ → List Item → ℕ → ℕ
place_at here items n = here + total_width (take n items)

-- the items with the one of this number free
abbrev pub freed : ℕ → List Item → List Item
freed n [] = []
freed zero (item ∷ items) = record { width = item.width; id = None } ∷ items
freed (suc n) (item ∷ items) = item ∷ freed n items

-- the free list after the item of this number was freed: the place of a free next item goes out,
-- and the item's own goes to the front unless the item before it is free
abbrev pub returned_free_list : ℕ → List Item → ℕ → List ℕ → List ℕ
returned_free_list here items n free_list =
    let others = if is_free_at (suc n) items
    then remove_number (place_at here items (suc n)) free_list else free_list in
    if is_free_before n items then others else place_at here items n ∷ others

-- the shelf with the item of this number free, and the free list that it has once its neighbours
-- are merged
abbrev pub freed_shelf : Frame → ℕ → Shelf → Shelf
freed_shelf frame n shelf =
    record {
      column = shelf.column;
      height = shelf.height;
      items = freed n shelf.items;
      free_list = returned_free_list (column_place frame shelf) shelf.items n shelf.free_list;
    }

-- the shelf with the item of an id free, where it has one
abbrev pub freed_in : Frame → ℕ → Shelf → Shelf
freed_in frame id shelf = freed_or (number_of id shelf.items)
  where
    freed_or : Option ℕ → Shelf
    freed_or None = shelf
    freed_or (Some n) = freed_shelf frame n shelf

-- the state after the item of an id was returned: it is freed, and then all is merged
abbrev pub returned : AtlasState → ℕ → AtlasState
returned state id =
    merged
    (record {
      frame = state.frame;
      shelves = map (freed_in state.frame id) state.shelves;
      peak_items = state.peak_items;
    })
