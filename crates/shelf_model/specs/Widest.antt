-- The widest of what is free.
use Rattle.std.specs.Prelude.{ℕ, max, List, [], ◌∷◌, filter, nat_le, if◌then◌else◌}
use Rattle.shelf_model.specs.State.{Item, Shelf, is_free}

-- the greatest of a measure of the elements; 0 where there are none
abbrev pub greatest : {X : Type 0} → (X → ℕ) → List X → ℕ
greatest measure [] = 0
greatest measure (x ∷ xs) = max (measure x) (greatest measure xs)

-- the width of an item that is free; 0 where it is allocated
abbrev pub free_width : Item → ℕ
free_width item = if is_free item then item.width else 0

-- the width of the widest free item of a shelf; 0 where none is free
abbrev pub widest_in : Shelf → ℕ
widest_in shelf = greatest free_width shelf.items

-- the width of the widest free item of the shelves that are at least this tall; 0 where there is none
abbrev pub widest_free : ℕ → List Shelf → ℕ
widest_free height shelves =
    greatest widest_in (filter (λ (shelf : Shelf). nat_le height shelf.height) shelves)
