-- What a picture of an atlas shows, by its records.
use Rattle.std.specs.List.{flat_map}
use Rattle.std.specs.Prelude.{ℕ, Bool, List, if◌then◌else◌}
use Rattle.etagere_base.specs.Drawing.{drawn_at, drawn_line}
use Rattle.etagere_base.specs.declared.drawing.Colour.{Colour}
use Rattle.etagere_base.specs.declared.drawing.Colour.TheVariants.{Allocated, Free}
use Rattle.etagere_base.specs.declared.drawing.Drawn.{Drawn}
use Rattle.etagere_base.specs.declared.frames.Frame.{Frame}
use Rattle.shelf_records.specs.RecordLists.{Records, item_walk, shelf_walk}
use Rattle.shelf_records.specs.AtlasRecords.{across_of, height_of, is_allocated_at, item_at, item_place_of}

-- the colour of an item, by whether it is allocated
abbrev pub recorded_colour : Bool → Colour
recorded_colour allocated = if allocated then Allocated else Free

-- the item of this number, in the shelf of this number
abbrev pub recorded_drawn : Frame → Records → ℕ → ℕ → Drawn
recorded_drawn frame records shelf number =
    drawn_at frame (recorded_colour (is_allocated_at records.items number))
    (item_place_of records.items number) (across_of records.shelves shelf)
    (item_at records.items number).width (height_of records.shelves shelf)

-- the line of an item
abbrev pub item_line : Frame → Records → ℕ → ℕ → List ℕ
item_line frame records shelf number = drawn_line (recorded_drawn frame records shelf number)

-- the lines of the items of the shelf of this number
abbrev pub shelf_lines : Frame → Records → ℕ → List ℕ
shelf_lines frame records shelf =
    flat_map (item_line frame records shelf) (item_walk records shelf).met

-- the lines of every item
abbrev pub recorded_lines : Frame → Records → List ℕ
recorded_lines frame records = flat_map (shelf_lines frame records) (shelf_walk records).met
