-- What a script stands for: a request, or the number of its first bad line.
use Rattle.std.specs.Prelude.{ℕ, ◌+◌, List, [], ◌∷◌, length, Option, Result, Ok, Err, ok_or}
use Rattle.etagere_base.specs.declared.geometry.Size.{Size}
use Rattle.etagere_base.specs.declared.options.AllocatorOptions.{AllocatorOptions}
use Rattle.run_scripts.specs.declared.commands.AtlasCommand.{AtlasCommand}
use Rattle.run_scripts.specs.declared.commands.BucketedCommand.{BucketedCommand}
use Rattle.run_scripts.specs.declared.words.AtlasKind.{AtlasKind}
use Rattle.run_scripts.specs.declared.words.AtlasKind.TheVariants.{Shelves, Buckets}
use Rattle.run_scripts.specs.Lines.{lines_of, words_of, filled_from}
use Rattle.run_scripts.specs.Words.{atlas_command_of, bucketed_command_of, header_of}

-- what is asked of an atlas of shelves or of one of buckets
pub data Commands : Type 0 where
  OfShelves : List AtlasCommand → Commands
  OfBuckets : List BucketedCommand → Commands

-- an atlas, and what is asked of it
pub record Request : Type 0 where
  pub size : Size
  pub options : AllocatorOptions
  pub commands : Commands

-- the first bad line is the answer
infixl 10 ◌>>=◌
abbrev pub ◌>>=◌ : {A B : Type 0} → Result A ℕ → (A → Result B ℕ) → Result B ℕ
(Ok x) >>= f = f x
(Err number) >>= f = Err number

-- the commands of lines with their numbers, by what words stand for, or the number of the first
-- that is none
abbrev pub commands_of : {C : Type 0} → (List (List ℕ) → Option C) → List (ℕ × List ℕ)
    → Result (List C) ℕ
commands_of meaning [] = Ok []
commands_of meaning (line ∷ lines) = do
  command ← ok_or (meaning (words_of line.1)) line.0
  commands ← commands_of meaning lines
  Ok (command ∷ commands)

-- the commands of lines to an atlas of a kind
abbrev pub commands_to : AtlasKind → List (ℕ × List ℕ) → Result Commands ℕ
commands_to Shelves lines = do
  commands ← commands_of atlas_command_of lines
  Ok (OfShelves commands)
commands_to Buckets lines = do
  commands ← commands_of bucketed_command_of lines
  Ok (OfBuckets commands)

-- the first of the lines with bytes is the header; where there is none, the number after the last
-- line is bad
abbrev pub request_of : ℕ → List (ℕ × List ℕ) → Result Request ℕ
request_of after [] = Err after
request_of after (line ∷ lines) = do
  header ← ok_or (header_of (words_of line.1)) line.0
  commands ← commands_to header.kind lines
  Ok (record { size = header.size; options = header.options; commands = commands })

-- The request that a script spells, or else the number, from 1, of its first bad line. A function
-- has one answer, so each input is exactly one of the two.
abbrev pub script_of : List ℕ → Result Request ℕ
script_of input = request_of (length (lines_of input) + 1) (filled_from 1 (lines_of input))
