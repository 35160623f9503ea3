-- What is allocated, and where: items with their rectangles, by ids and by record numbers.
use Rattle.std.specs.Prelude.{ℕ, ◌+◌, ◌*◌, ◌%◌, Bool, Option, None, Some, is_some, option_map, List, [], ◌∷◌, ◌++◌, find, map, ◌==◌, if◌then◌else◌}
use Rattle.etagere_base.specs.declared.frames.Frame.{Frame}
use Rattle.etagere_base.specs.declared.geometry.Rectangle.{Rectangle}
use Rattle.etagere_base.specs.declared.ids.Allocation.{Allocation}
use Rattle.etagere_base.specs.Ids.{index_modulus}
use Rattle.etagere_base.specs.Lists.{column_total, gathered}
use Rattle.etagere_base.specs.Places.{rectangle_at}
use Rattle.shelf_model.specs.State.{Item, Shelf, AtlasState, is_free}

-- where a column begins
abbrev pub column_place : Frame → Shelf → ℕ
column_place frame shelf = shelf.column * frame.column_width

-- the heights of the shelves of one column, added up
abbrev pub column_height : ℕ → List Shelf → ℕ
column_height column shelves =
    column_total (λ shelf. shelf.column) (λ shelf. shelf.height) column shelves

-- where the free ones begin of items that lie side by side, the first one here: each after the
-- widths before it
abbrev pub free_places : ℕ → List Item → List ℕ
free_places here items =
    gathered (λ here item. here + item.width) (λ here item. if is_free item then here ∷ [] else [])
    here items

-- what an item allocates: its rectangle, where it is allocated
abbrev pub allocation_of : Option ℕ → Rectangle → List Allocation
allocation_of None rectangle = []
allocation_of (Some id) rectangle = record { id = id; rectangle = rectangle } ∷ []

-- what the items of a shelf allocate, the first one here
abbrev pub allocations_along : Frame → ℕ → ℕ → ℕ → List Item → List Allocation
allocations_along frame across height here items =
    gathered (λ here item. here + item.width)
    (λ here item. allocation_of item.id (rectangle_at frame here across item.width height))
    here items

-- what shelves allocate that stand after others: each lies across after the heights before it in
-- its column
abbrev pub allocations_after : Frame → List Shelf → List Shelf → List Allocation
allocations_after frame before shelves =
    gathered (λ before shelf. before ++ shelf ∷ [])
    (λ before shelf.
    allocations_along frame (column_height shelf.column before) shelf.height
    (column_place frame shelf) shelf.items)
    before shelves

-- everything that is allocated: the allocated items, each with its rectangle
abbrev pub allocations : AtlasState → List Allocation
allocations state = allocations_after state.frame [] state.shelves

-- the rectangle that is allocated under an id
abbrev pub rectangle_of : AtlasState → ℕ → Option Rectangle
rectangle_of state id =
    option_map (λ allocation. allocation.rectangle)
    (find (λ allocation. allocation.id == id) (allocations state))

-- the id is allocated: there is a rectangle under it
abbrev pub is_allocated : AtlasState → ℕ → Bool
is_allocated state id = is_some (rectangle_of state id)

-- the number of the record that an id names
abbrev pub record_number : ℕ → ℕ
record_number id = id % index_modulus

-- the record numbers of everything that is allocated
abbrev pub allocated_numbers : AtlasState → List ℕ
allocated_numbers state =
    map (λ (allocation : Allocation). record_number allocation.id) (allocations state)

-- the number of the record that is allocated under an id
abbrev pub index_of : AtlasState → ℕ → Option ℕ
index_of state id = if is_allocated state id then Some (record_number id) else None
