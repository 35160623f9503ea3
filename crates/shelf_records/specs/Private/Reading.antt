-- What one look at the records of an atlas tells.
use Rattle.std.specs.List.{flat_map, range_with_len}
use Rattle.std.specs.Prelude.{ℕ, ◌+◌, ◌-◌, ◌*◌, ◌%◌, Option, None, Some, List, find, length, if◌then◌else◌}
use Rattle.etagere_base.specs.Ids.{index_modulus}
use Rattle.etagere_base.specs.Places.{rectangle_at}
use Rattle.etagere_base.specs.declared.frames.Frame.{Frame}
use Rattle.etagere_base.specs.declared.geometry.Rectangle.{Rectangle}
use Rattle.etagere_base.specs.declared.ids.Allocation.{Allocation}
use Rattle.shelf_records.specs.declared.records.LinkedItem.{LinkedItem}
use Rattle.shelf_records.specs.RecordLists.{Records}
use Rattle.etagere_links.specs.Edits.{field_at}
use Rattle.shelf_records.specs.AtlasRecords.{across_of, height_of, is_allocated_at, item_at, item_place_of, shelf_of}
use Rattle.shelf_model.specs.Places.{allocation_of}
use Rattle.shelf_model.specs.Returning.{has_id}

-- the number of the record that is allocated under an id: the id modulo 65536, where that record
-- has the id
abbrev pub record_of : List LinkedItem → ℕ → Option ℕ
record_of items id =
    if has_id id (item_at items (id % index_modulus)).id then Some (id % index_modulus) else None

-- where the item of this number lies
abbrev pub recorded_rectangle : Frame → Records → ℕ → Rectangle
recorded_rectangle frame records number =
    rectangle_at frame (item_place_of records.items number)
    (across_of records.shelves (shelf_of records.items number))
    (item_at records.items number).width (height_of records.shelves (shelf_of records.items number))

-- what the item of this number allocates
abbrev pub recorded_allocation : Frame → Records → ℕ → List Allocation
recorded_allocation frame records number =
    allocation_of (item_at records.items number).id (recorded_rectangle frame records number)

-- what the items of this number and those after it allocate
abbrev pub recorded_from : Frame → Records → ℕ → List Allocation
recorded_from frame records number =
    flat_map (recorded_allocation frame records)
    (range_with_len number (length records.items - number))

-- the first item from this number on that is allocated
abbrev pub next_allocated : List LinkedItem → ℕ → Option ℕ
next_allocated items number =
    find (is_allocated_at items) (range_with_len number (length items - number))

-- the id of the item of this number, where it is allocated
abbrev pub recorded_id : List LinkedItem → ℕ → ℕ
recorded_id items number =
    number + index_modulus * field_at (λ (item : LinkedItem). item.generation) 0 items number

-- how large the item of this number is
abbrev pub recorded_area : Records → ℕ → ℕ
recorded_area records number =
    (item_at records.items number).width * height_of records.shelves (shelf_of records.items number)
