-- What stands behind the letter of a command, of which the contracts of the table speak.
use Rattle.std.specs.Prelude.{◌≡◌, ◌≢◌, ℕ, ◌-◌, ◌^◌, List, [], ◌∷◌, length, Option, Some, None, option_map, nat_le, if◌then◌else◌}
use Rattle.etagere_base.specs.declared.geometry.Size.{Size}
use Rattle.run_scripts.specs.Numbers.{natural_of}
use Rattle.run_scripts.specs.Words.{command_of, size_of, ◌>>=◌}

-- no word, digits whose value fits a `u64`, two words that are a size, or such digits and two such words
pub data Arguments : Type 0 where
  Nothing : Arguments
  Number : ℕ → Arguments
  Sized : Size → Arguments
  NumberAndSize : ℕ → Size → Arguments

-- which of these words are
abbrev pub arguments_in : List (List ℕ) → Option Arguments
arguments_in [] = Some Nothing
arguments_in (word ∷ []) = option_map Number (natural_of (2 ^ 64 - 1) word)
arguments_in (width ∷ height ∷ []) = option_map Sized (size_of width height)
arguments_in (word ∷ width ∷ height ∷ []) = do
  number ← natural_of (2 ^ 64 - 1) word
  size ← size_of width height
  Some (NumberAndSize number size)
arguments_in words = None

-- a letter and words that are these arguments spell this command, or none
abbrev pub IsSpelled : {C : Type 0} → C → (List ℕ → List (List ℕ) → Option C) → ℕ → Arguments → Option C → Type 0
IsSpelled clear named letter arguments result =
    (words : List (List ℕ)) → arguments_in words ≡ Some arguments
    → command_of clear named ((letter ∷ []) ∷ words) ≡ result

-- the position that a number is, where it fits a `u32`
abbrev pub within_position : ℕ → Option ℕ
within_position number = if nat_le number (2 ^ 32 - 1) then Some number else None

-- each command is a letter, and what may stand behind one
pub record AreLettered {C : Type 0} (clear : C) (named : List ℕ → List (List ℕ) → Option C) : Type 0 where
  pub letter : (name : List ℕ) (words : List (List ℕ)) → length name ≢ 1
      → command_of clear named (name ∷ words) ≡ None
  pub arguments : (name : List ℕ) (words : List (List ℕ)) → arguments_in words ≡ None
      → command_of clear named (name ∷ words) ≡ None
