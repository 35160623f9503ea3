-- The area that is allocated.
use Rattle.std.specs.Prelude.{ℕ, ◌*◌, List, if◌then◌else◌}
use Rattle.etagere_base.specs.Lists.{total}
use Rattle.shelf_model.specs.State.{Item, Shelf, AtlasState, is_free}

-- the widths of the allocated items, added up
abbrev pub allocated_width : List Item → ℕ
allocated_width items = total (λ item. if is_free item then 0 else item.width) items

-- the areas of the allocated items of shelves, added up
abbrev pub space_in : List Shelf → ℕ
space_in shelves = total (λ shelf. allocated_width shelf.items * shelf.height) shelves

-- the areas of everything that is allocated, added up
abbrev pub allocated_space : AtlasState → ℕ
allocated_space state = space_in state.shelves
