-- The definitions alone, with no program, give the rectangles of worked examples.
use Rattle.std.specs.Prelude.{◌≡◌, ℕ, zero, suc, Bool, true, false, pos, None, Some, [], ◌∷◌, refl}
use Rattle.std.specs.Option.{option_map_or}
use Rattle.etagere_base.specs.declared.drawing.Colour.{Colour}
use Rattle.etagere_base.specs.declared.drawing.Colour.TheVariants.{Allocated, Background, Free}
use Rattle.etagere_base.specs.declared.drawing.Drawn.{Drawn}
use Rattle.etagere_base.specs.declared.geometry.Rectangle.{Rectangle}
use Rattle.etagere_base.specs.declared.geometry.Size.{Size}
use Rattle.etagere_base.specs.declared.options.AllocatorOptions.{AllocatorOptions}
use Rattle.etagere_base.specs.Frames.{atlas_frame}
use Rattle.shelf_model.specs.Choice.{placement_of, IsRefused}
use Rattle.shelf_model.specs.Fresh.{fresh}
use Rattle.shelf_model.specs.Places.{rectangle_of}
use Rattle.shelf_model.specs.Returning.{returned}
use Rattle.shelf_model.specs.State.{AtlasState}
use Rattle.shelf_model.specs.Svg.{picture}
use Rattle.shelf_model.specs.Taking.{taken}

abbrev pub size : ℕ → ℕ → Size
size width height = record { width = pos width; height = pos height }

abbrev pub rectangle : ℕ → ℕ → ℕ → ℕ → Rectangle
rectangle x0 y0 x1 y1 = record { min = record { x = pos x0; y = pos y0 }; max = record { x = pos x1; y = pos y1 } }

abbrev pub options : ℕ → ℕ → Bool → ℕ → AllocatorOptions
options width height vertical columns =
    record { alignment = size width height; vertical_shelves = vertical; num_columns = pos columns }

abbrev pub new_atlas : Size → AllocatorOptions → AtlasState
new_atlas size options = fresh (atlas_frame size options)

abbrev pub plain_atlas : ℕ → ℕ → AtlasState
plain_atlas width height = new_atlas (size width height) (options 1 1 false 1)

-- the state after a size was asked for, under an id
abbrev pub allocated : AtlasState → Size → ℕ → AtlasState
allocated state size id = option_map_or (λ placement. taken state placement id) (placement_of state size) state

-- the rectangles of the README's example
abbrev readme_one : AtlasState
readme_one = allocated (plain_atlas 1000 1000) (size 100 100) 1

abbrev readme_two : AtlasState
readme_two = allocated readme_one (size 900 200) 2

abbrev readme_three : AtlasState
readme_three = allocated (returned readme_two 1) (size 300 200) 3

abbrev readme_four : AtlasState
readme_four = allocated readme_three (size 1000 200) 4

pub readme_example-first : rectangle_of readme_one 1 ≡ Some (rectangle 0 0 100 112)
readme_example-first = refl

pub readme_example-second : rectangle_of readme_two 2 ≡ Some (rectangle 0 112 900 336)
readme_example-second = refl

pub readme_example-returned : rectangle_of readme_three 1 ≡ None
readme_example-returned = refl

pub readme_example-third : rectangle_of readme_three 3 ≡ Some (rectangle 0 336 300 560)
readme_example-third = refl

pub readme_example-fourth : rectangle_of readme_four 4 ≡ Some (rectangle 0 560 1000 784)
readme_example-fourth = refl

-- a returned item stands first in the free list: passed over where it is too narrow, used where it is wide enough
abbrev reused_one : AtlasState
reused_one = allocated (plain_atlas 1024 1024) (size 100 300) 1

abbrev reused_two : AtlasState
reused_two = allocated reused_one (size 500 200) 2

abbrev reused_three : AtlasState
reused_three = allocated (returned reused_two 1) (size 300 200) 3

pub returned_items_are_free_list_first-first : rectangle_of reused_one 1 ≡ Some (rectangle 0 0 100 320)
returned_items_are_free_list_first-first = refl

pub returned_items_are_free_list_first-second : rectangle_of reused_two 2 ≡ Some (rectangle 100 0 600 320)
returned_items_are_free_list_first-second = refl

pub returned_items_are_free_list_first-third : rectangle_of reused_three 3 ≡ Some (rectangle 600 0 900 320)
returned_items_are_free_list_first-third = refl

abbrev reused_four : AtlasState
reused_four = allocated reused_three (size 100 200) 4

pub returned_items_are_free_list_first-fourth : rectangle_of reused_four 4 ≡ Some (rectangle 0 0 100 320)
returned_items_are_free_list_first-fourth = refl

-- a bad fit is used where there is no other
abbrev bad_fit_one : AtlasState
bad_fit_one = allocated (plain_atlas 1000 1000) (size 100 1000) 1

pub bad_fits_are_used-first : rectangle_of bad_fit_one 1 ≡ Some (rectangle 0 0 100 1000)
bad_fits_are_used-first = refl

pub bad_fits_are_used-second : rectangle_of (allocated bad_fit_one (size 900 200) 2) 2 ≡ Some (rectangle 100 0 1000 1000)
bad_fits_are_used-second = refl

pub longest_side : rectangle_of (allocated (plain_atlas 64 65535) (size 64 65535) 1) 1 ≡ Some (rectangle 0 0 64 65535)
longest_side = refl

abbrev step_one : AtlasState
step_one = allocated (plain_atlas 10 89) (size 10 80) 1

pub shelves_of_the_rest-first : rectangle_of step_one 1 ≡ Some (rectangle 0 0 10 80)
shelves_of_the_rest-first = refl

pub shelves_of_the_rest-refused : IsRefused step_one (size 10 9)
shelves_of_the_rest-refused = refl

pub shelves_of_the_rest-second : rectangle_of (allocated step_one (size 10 8) 2) 2 ≡ Some (rectangle 0 80 10 89)
shelves_of_the_rest-second = refl

-- a shelf that is much too tall is not used while another fits
abbrev least_one : AtlasState
least_one = allocated (plain_atlas 1000 1000) (size 100 300) 1

abbrev least_two : AtlasState
least_two = allocated least_one (size 100 100) 2

pub least_height_first-first : rectangle_of least_one 1 ≡ Some (rectangle 0 0 100 320)
least_height_first-first = refl

pub least_height_first-second : rectangle_of least_two 2 ≡ Some (rectangle 0 320 100 432)
least_height_first-second = refl

pub least_height_first-third : rectangle_of (allocated least_two (size 100 30) 3) 3 ≡ Some (rectangle 0 432 100 464)
least_height_first-third = refl

pub too_tall : IsRefused (plain_atlas 1000 1000) (size 100 1001)
too_tall = refl

pub too_wide : IsRefused (plain_atlas 1000 1000) (size 1001 1000)
too_wide = refl

-- seven columns come from four asked for
abbrev columns_atlas : ℕ → AtlasState
columns_atlas zero = new_atlas (size 7 8) (options 1 1 false 4)
columns_atlas (suc n) = allocated (columns_atlas n) (size 1 8) n

pub all_columns_are_used-seventh : rectangle_of (columns_atlas 7) 6 ≡ Some (rectangle 6 0 7 8)
all_columns_are_used-seventh = refl

pub all_columns_are_used-eighth : IsRefused (columns_atlas 7) (size 1 8)
all_columns_are_used-eighth = refl

pub all_columns_are_used-wide : IsRefused (columns_atlas 0) (size 2 1)
all_columns_are_used-wide = refl

pub vertical_shelves : rectangle_of (allocated (new_atlas (size 30 20) (options 1 1 true 1)) (size 8 6) 1) 1 ≡ Some (rectangle 0 0 8 6)
vertical_shelves = refl

-- alignment and two columns
abbrev aligned_one : AtlasState
aligned_one = allocated (new_atlas (size 2048 2048) (options 4 8 false 2)) (size 20 30) 1

abbrev aligned_two : AtlasState
aligned_two = allocated aligned_one (size 30 40) 2

pub aligned_columns-first : rectangle_of aligned_one 1 ≡ Some (rectangle 0 0 20 32)
aligned_columns-first = refl

pub aligned_columns-second : rectangle_of aligned_two 2 ≡ Some (rectangle 0 32 32 80)
aligned_columns-second = refl

pub aligned_columns-third : rectangle_of (allocated aligned_two (size 20 30) 3) 3 ≡ Some (rectangle 20 0 40 32)
aligned_columns-third = refl

-- what pictures show: the whole atlas, and then every item
abbrev drawn : Colour → ℕ → ℕ → ℕ → ℕ → Drawn
drawn colour x y width height = record { colour = colour; x = x; y = y; width = width; height = height }

pub picture_of_an_atlas : picture (allocated (plain_atlas 20 30) (size 6 8) 1)
    ≡ drawn Background 0 0 20 30 ∷ drawn Allocated 0 0 6 8 ∷ drawn Free 6 0 14 8 ∷ drawn Free 0 8 20 22 ∷ []
picture_of_an_atlas = refl

pub picture_of_vertical_shelves : picture (allocated (new_atlas (size 30 20) (options 1 1 true 1)) (size 8 6) 1)
    ≡ drawn Background 0 0 30 20 ∷ drawn Allocated 0 0 8 6 ∷ drawn Free 0 6 8 14 ∷ drawn Free 8 0 22 20 ∷ []
picture_of_vertical_shelves = refl
