-- The ids that hold items, item by item.
use Rattle.std.specs.Prelude.{ℕ, Option, None, Some, List, [], ◌∷◌}
use Rattle.std.specs.List.{flat_map}
use Rattle.shelf_model.specs.State.{Item, Shelf}

-- the id of an item that is allocated, as a list of at most one
abbrev pub id_list : Option ℕ → List ℕ
id_list None = []
id_list (Some id) = id ∷ []

-- the ids that hold items
abbrev pub item_ids : List Item → List ℕ
item_ids items = flat_map (λ item. id_list item.id) items

-- the ids that hold items of shelves
abbrev pub ids : List Shelf → List ℕ
ids shelves = flat_map (λ shelf. item_ids shelf.items) shelves
