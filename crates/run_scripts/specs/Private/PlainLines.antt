-- Lines that are read in one pass, of which the contracts of private functions speak.
use Rattle.std.specs.Prelude.{◌≡◌, ℕ, ◌≤◌, ◌<◌, ◌-◌, ◌^◌, List, ◌∷◌, ◌++◌, Option, Some, length}
use Rattle.run_scripts.specs.Lines.{lines_of, words_of}
use Rattle.run_scripts.specs.Numbers.{natural_of}
use Rattle.run_scripts.specs.Words.{command_of}

-- bytes begin with digits of this value, which fits an `i32`, and these come after them
pub record BeginsWithNumber (bytes : List ℕ) (value : ℕ) (after : List ℕ) : Type 0 where
  pub digits : List ℕ
  pub whole : bytes ≡ digits ++ after
  pub natural : (greatest : ℕ) → 2 ^ 31 - 1 ≤ greatest → natural_of greatest digits ≡ Some value

-- bytes begin with a line that has bytes and spells this command, and these come after it
pub record BeginsWithCommand {C : Type 0} (clear : C) (named : List ℕ → List (List ℕ) → Option C)
    (bytes : List ℕ) (command : C) (after : List ℕ) : Type 0 where
  pub first : ℕ
  pub others : List ℕ
  pub lines : lines_of bytes ≡ (first ∷ others) ∷ lines_of after
  pub spells : command_of clear named (words_of (first ∷ others)) ≡ Some command
  pub shorter : length after < length bytes
