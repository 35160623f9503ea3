-- The definitions alone, with no program, give the answers of worked scripts.
use Rattle.std.proofs.Common.{◌≡◌, ℕ, List, [], ◌∷◌, ◌++◌, Ok, Err, refl, pos, negsuc, false, true}
use Rattle.std.specs.Prelude.{codes, Bool}
use Rattle.std.specs.List.{flat_map}
use Rattle.etagere_base.specs.declared.geometry.Size.{Size}
use Rattle.run_scripts.specs.declared.commands.AtlasCommand.{AtlasCommand}
use Rattle.run_scripts.specs.declared.commands.AtlasCommand.TheVariants.{Allocate, Return, Look, Grow, Clear}
use Rattle.run_scripts.specs.declared.commands.BucketedCommand.TheVariants as bucketed
use Rattle.run_scripts.specs.Script.{Commands, OfBuckets, OfShelves, Request, script_of}

-- each line with its line feed
abbrev text : List (List ℕ) → List ℕ
text = flat_map (λ line. line ++ 10 ∷ [])

-- a request whose alignment is (1,1)
abbrev request_to : ℕ → ℕ → ℕ → Bool → Commands → Request
request_to width height columns vertical commands = record {
  size = record { width = pos width; height = pos height };
  options = record {
    alignment = record { width = pos 1; height = pos 1 };
    vertical_shelves = vertical;
    num_columns = pos columns;
  };
  commands = commands;
}

-- a request to an atlas of shelves
abbrev request : ℕ → ℕ → ℕ → Bool → List AtlasCommand → Request
request width height columns vertical commands = request_to width height columns vertical (OfShelves commands)

abbrev size : ℕ → ℕ → Size
size width height = record { width = pos width; height = pos height }

abbrev allocate : ℕ → ℕ → AtlasCommand
allocate width height = Allocate (size width height)

-- six good lines, and the beginning of a seventh
abbrev readme_lines : List ℕ
readme_lines = text (codes "atlas 1000 1000 1 1 1 h" ∷ codes "a 100 100" ∷ codes "a 900 200" ∷ codes "r 0" ∷ codes "a 300 200" ∷ codes "l 3" ∷ [])

readme_example : script_of (readme_lines ++ text (codes "r 2" ∷ []))
    ≡ Ok (request 1000 1000 1 false (allocate 100 100 ∷ allocate 900 200 ∷ Return 0 ∷ allocate 300 200 ∷ Look 3 ∷ Return 2 ∷ []))
readme_example = refl

readme_example_cut : script_of (readme_lines ++ codes "r") ≡ Err 7
readme_example_cut = refl

no_bytes : script_of [] ≡ Err 1
no_bytes = refl

too_many_columns : script_of (text (codes "atlas 4 4 1 1 5 h" ∷ [])) ≡ Ok (request 4 4 5 false [])
too_many_columns = refl

a_look_at_a_bucketed_atlas : script_of (text (codes "bucketed 8 8 1 1 1 h" ∷ codes "a 8 8" ∷ codes "l 0" ∷ [])) ≡ Err 3
a_look_at_a_bucketed_atlas = refl

bucketed_commands : script_of (text (codes "bucketed 16 8 1 1 2 v" ∷ codes "a 8 8" ∷ codes "r 0" ∷ codes "g 16 16" ∷ codes "c" ∷ []))
    ≡ Ok (request_to 16 8 2 true (OfBuckets (bucketed.Allocate (size 8 8) ∷ bucketed.Return 0 ∷ bucketed.Grow (size 16 16) ∷ bucketed.Clear ∷ [])))
bucketed_commands = refl

a_grow_of_an_atlas_of_shelves : script_of (text (codes "atlas 8 8 1 1 1 h" ∷ codes "g 16 16" ∷ [])) ≡ Ok (request 8 8 1 false (Grow (size 16 16) ∷ []))
a_grow_of_an_atlas_of_shelves = refl

a_grow_to_one_side : script_of (text (codes "atlas 8 8 1 1 1 h" ∷ codes "g 16" ∷ [])) ≡ Err 2
a_grow_to_one_side = refl

header_alone : script_of (text (codes "atlas 8 8 1 1 1 h" ∷ [])) ≡ Ok (request 8 8 1 false [])
header_alone = refl

header_without_direction : script_of (text (codes "atlas 1000 1000 1 1 1" ∷ [])) ≡ Err 1
header_without_direction = refl

last_line_without_line_feed : script_of (codes "atlas 1000 1000 1 1 1 h" ++ 10 ∷ codes "a 100 10")
    ≡ Ok (request 1000 1000 1 false (allocate 100 10 ∷ []))
last_line_without_line_feed = refl

empty_lines_are_counted : script_of (text ([] ∷ codes "atlas 8 8 1 1 1 v" ∷ [] ∷ codes "c" ∷ codes "x" ∷ [])) ≡ Err 5
empty_lines_are_counted = refl

empty_lines_alone : script_of (text ([] ∷ [] ∷ [])) ≡ Err 3
empty_lines_alone = refl

empty_lines_are_passed_over : script_of (text ([] ∷ codes "atlas 8 8 1 1 1 v" ∷ [] ∷ codes "c" ∷ [])) ≡ Ok (request 8 8 1 true (Clear ∷ []))
empty_lines_are_passed_over = refl

a_command_before_the_header : script_of (text (codes "c" ∷ codes "atlas 8 8 1 1 1 h" ∷ [])) ≡ Err 1
a_command_before_the_header = refl

a_second_header : script_of (text (codes "atlas 8 8 1 1 1 h" ∷ codes "atlas 8 8 1 1 1 h" ∷ [])) ≡ Err 2
a_second_header = refl

-- a script with this line after its header
abbrev with_line : List ℕ → List ℕ
with_line line = text (codes "atlas 8 8 1 1 1 h" ∷ line ∷ [])

numbers_with_zeros_and_signs : script_of (with_line (codes "a -2147483648 -000")) ≡ Ok (request 8 8 1 false (Allocate (record { width = negsuc 2147483647; height = pos 0 }) ∷ []))
numbers_with_zeros_and_signs = refl

greatest_values : script_of (text (codes "atlas 8 8 1 1 1 h" ∷ codes "a 2147483647 007" ∷ codes "r 04294967295" ∷ []))
    ≡ Ok (request 8 8 1 false (allocate 2147483647 7 ∷ Return 4294967295 ∷ []))
greatest_values = refl

number_too_large : script_of (with_line (codes "a 2147483648 1")) ≡ Err 2
number_too_large = refl

number_too_small : script_of (with_line (codes "a -2147483649 1")) ≡ Err 2
number_too_small = refl

number_with_plus : script_of (with_line (codes "a +5 1")) ≡ Err 2
number_with_plus = refl

position_too_large : script_of (with_line (codes "r 4294967296")) ≡ Err 2
position_too_large = refl

position_with_minus : script_of (with_line (codes "r -0")) ≡ Err 2
position_with_minus = refl

two_spaces : script_of (with_line (codes "a  1 1")) ≡ Err 2
two_spaces = refl

space_at_the_end : script_of (with_line (codes "c ")) ≡ Err 2
space_at_the_end = refl

tab_for_a_space : script_of (with_line (codes "r" ++ 9 ∷ codes "0")) ≡ Err 2
tab_for_a_space = refl

carriage_return : script_of (with_line (codes "c" ++ 13 ∷ [])) ≡ Err 2
carriage_return = refl
