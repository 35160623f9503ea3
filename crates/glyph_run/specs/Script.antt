-- What a script stands for: a request, or the number of its first bad line.
use Rattle.std.specs.Prelude.{ℕ, ◌+◌, List, [], ◌∷◌, length, Result, Ok, Err, ok_or}
use Rattle.run_scripts.specs.Lines.{lines_of, words_of, filled_from}
use Rattle.run_scripts.specs.Script.{commands_of, ◌>>=◌}
use Rattle.glyph_run.specs.declared.commands.GlyphCommand.{GlyphCommand}
use Rattle.glyph_run.specs.Words.{Setup, glyph_command_of, header_of}

-- a cache, and what is asked of it
pub record Request : Type 0 where
  pub setup : Setup
  pub commands : List GlyphCommand

-- the first of the lines with bytes is the header; where there is none, the number after the last line is bad
abbrev pub request_of : ℕ → List (ℕ × List ℕ) → Result Request ℕ
request_of after [] = Err after
request_of after (line ∷ lines) = do
  setup ← ok_or (header_of (words_of line.1)) line.0
  commands ← commands_of glyph_command_of lines
  Ok (record { setup = setup; commands = commands })

-- The request that a script spells, or else the number, from 1, of its first bad line. A function has one answer, so each
-- input is exactly one of the two.
abbrev pub script_of : List ℕ → Result Request ℕ
script_of input = request_of (length (lines_of input) + 1) (filled_from 1 (lines_of input))
