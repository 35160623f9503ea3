-- The definition of a grow alone, with no program, gives the rectangles and faults of worked examples.
use Rattle.std.specs.Prelude.{◌≡◌, false, true, None, Some, refl}
use Rattle.shelf_model.specs.declared.faults.AtlasGrowFault.TheVariants as faults
use Rattle.shelf_model.specs.Choice.{IsRefused}
use Rattle.shelf_model.specs.Growing.{atlas_grown, grow_fault, records_needed}
use Rattle.shelf_model.specs.Places.{rectangle_of}
use Rattle.shelf_model.specs.Returning.{returned}
use Rattle.shelf_model.specs.State.{AtlasState}
use Rattle.shelf_model.proofs.WorkedRows.{allocated, new_atlas, options, plain_atlas, rectangle, size}

-- a free item at the end of a shelf grows, and needs no record
abbrev free_end : AtlasState
free_end = allocated (plain_atlas 100 50) (size 40 10) 1

pub a_free_end_grows-first : rectangle_of free_end 1 ≡ Some (rectangle 0 0 40 16)
a_free_end_grows-first = refl

pub a_free_end_grows-needed : records_needed free_end (size 200 50) ≡ 0
a_free_end_grows-needed = refl

pub a_free_end_grows-second : rectangle_of (allocated (atlas_grown free_end (size 200 50)) (size 150 10) 2) 2 ≡ Some (rectangle 40 0 190 16)
a_free_end_grows-second = refl

-- an allocated end gets a free item beside it, and both merge once they are returned
abbrev allocated_end : AtlasState
allocated_end = allocated (plain_atlas 40 16) (size 40 16) 1

abbrev beside : AtlasState
beside = allocated (atlas_grown allocated_end (size 64 16)) (size 24 16) 2

pub an_allocated_end_is_extended-needed : records_needed allocated_end (size 64 16) ≡ 1
an_allocated_end_is_extended-needed = refl

pub an_allocated_end_is_extended-second : rectangle_of beside 2 ≡ Some (rectangle 40 0 64 16)
an_allocated_end_is_extended-second = refl

pub an_allocated_end_is_extended-third : rectangle_of (allocated (returned (returned beside 1) 2) (size 64 16) 3) 3 ≡ Some (rectangle 0 0 64 16)
an_allocated_end_is_extended-third = refl

-- both sides at once: a free item in the shelf, and an empty shelf after it
abbrev both_sides : AtlasState
both_sides = allocated (atlas_grown allocated_end (size 64 40)) (size 64 24) 2

pub both_sides_grow-second : rectangle_of both_sides 2 ≡ Some (rectangle 0 16 64 40)
both_sides_grow-second = refl

pub both_sides_grow-third : rectangle_of (allocated both_sides (size 24 16) 3) 3 ≡ Some (rectangle 40 0 64 16)
both_sides_grow-third = refl

-- with more columns there are as many as fit, and each gets a shelf at its end
abbrev two_columns : AtlasState
two_columns = allocated (allocated (new_atlas (size 8 8) (options 1 1 false 2)) (size 4 8) 1) (size 4 8) 2

pub columns_are_added-full : IsRefused two_columns (size 4 8)
columns_are_added-full = refl

abbrev three_columns : AtlasState
three_columns = allocated (atlas_grown two_columns (size 13 8)) (size 4 8) 3

pub columns_are_added-third : rectangle_of three_columns 3 ≡ Some (rectangle 8 0 12 8)
columns_are_added-third = refl

pub columns_are_added-full_again : IsRefused three_columns (size 4 8)
columns_are_added-full_again = refl

pub columns_are_added-needed : records_needed three_columns (size 13 16) ≡ 3
columns_are_added-needed = refl

pub columns_are_added-fourth : rectangle_of (allocated (atlas_grown three_columns (size 13 16)) (size 4 8) 4) 4 ≡ Some (rectangle 0 8 4 16)
columns_are_added-fourth = refl

-- the faults in their order
pub faults_in_order-size : grow_fault (plain_atlas 32 32) (size 70000 40) ≡ Some faults.Size
faults_in_order-size = refl

pub faults_in_order-smaller : grow_fault (plain_atlas 32 32) (size 31 40) ≡ Some faults.Smaller
faults_in_order-smaller = refl

pub faults_in_order-area : grow_fault (plain_atlas 32 32) (size 65535 65535) ≡ Some faults.Area
faults_in_order-area = refl

pub faults_in_order-none : grow_fault (plain_atlas 32 32) (size 32 32) ≡ None
faults_in_order-none = refl

-- an empty shelf at the end of a column becomes taller
abbrev empty_end : AtlasState
empty_end = atlas_grown (allocated (plain_atlas 32 32) (size 32 8) 1) (size 32 64)

pub an_empty_end_is_taller-refused : IsRefused empty_end (size 32 56)
an_empty_end_is_taller-refused = refl

pub an_empty_end_is_taller-second : rectangle_of (allocated empty_end (size 32 48) 2) 2 ≡ Some (rectangle 0 8 32 64)
an_empty_end_is_taller-second = refl

-- vertical shelves grow in the other direction
abbrev vertical_end : AtlasState
vertical_end = allocated (new_atlas (size 16 40) (options 1 1 true 1)) (size 16 40) 1

pub vertical_shelves_grow-first : rectangle_of vertical_end 1 ≡ Some (rectangle 0 0 16 40)
vertical_shelves_grow-first = refl

pub vertical_shelves_grow-second : rectangle_of (allocated (atlas_grown vertical_end (size 16 64)) (size 16 24) 2) 2 ≡ Some (rectangle 0 40 16 64)
vertical_shelves_grow-second = refl
