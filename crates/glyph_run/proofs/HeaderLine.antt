-- The header of a script, found behind the lines without bytes that stand first.
use Rattle.std.proofs.Common.{◌≡◌, ◌≢◌, ℕ, ◌+◌, ◌<◌, ◌≤◌, List, [], ◌∷◌, length, take, drop, get_or, Option, Some, None, Result, Ok, Err, arith, refl, ap, ◌∙◌, subst}
use Rattle.std.specs.Prelude.{All, option_map}
use Rattle.run_scripts.specs.declared.script.ScriptFault.{ScriptFault}
use Rattle.run_scripts.specs.declared.script.ScriptFault.TheVariants as faults
use Rattle.run_scripts.specs.Lines.{lines_of, words_of, filled_from}
use Rattle.run_scripts.specs.Script.{commands_of, ◌>>=◌}
use Rattle.run_scripts.specs.ScriptReading.{Fails}
use Rattle.run_scripts.proofs.HeaderLine.{read-empty, read-first}
use Rattle.glyph_run.specs.declared.commands.GlyphCommand.{GlyphCommand}
use Rattle.glyph_run.specs.declared.words.Header.{Header}
use Rattle.glyph_run.specs.Script.{Request, request_of, script_of}
use Rattle.glyph_run.specs.Setups.{setup_in}
use Rattle.glyph_run.specs.Words.{Setup, glyph_command_of, header_of}

-- the request of a cache and a reading of commands
abbrev pub headed : Setup → Result (List GlyphCommand) ℕ → Result Request ℕ
headed setup read = read >>= λ commands. Ok (record { setup = setup; commands = commands })

-- the request of a cache and the lines after its header
abbrev pub with_header : Setup → ℕ → List ℕ → Result Request ℕ
with_header setup number bytes = headed setup (commands_of glyph_command_of (filled_from number (lines_of bytes)))

-- a first line that is no header
first-bad : (after number : ℕ) (line : List ℕ) (lines : List (ℕ × List ℕ)) → header_of (words_of line) ≡ None → request_of after ((number, line) ∷ lines) ≡ Err number
first-bad after number line lines bad = rw bad refl

-- a first line that is a header
first-good : (last number : ℕ) (line after : List ℕ) (setup : Setup) → header_of (words_of line) ≡ Some setup
    → request_of last ((number, line) ∷ filled_from (number + 1) (lines_of after)) ≡ with_header setup (number + 1) after
first-good last number line after setup good = rw good refl

-- What a script stands for whose first line with bytes, behind some without, is this one, if there is one.
pub script-bad : (blanks : ℕ) (bytes rest line after : List ℕ) → blanks ≤ length bytes → All (λ byte. byte ≡ 10) (take blanks bytes)
    → (blanks < length bytes → get_or bytes blanks 0 ≢ 10) → drop blanks bytes ≡ rest → (0 < length rest → lines_of rest ≡ line ∷ lines_of after)
    → header_of (words_of line) ≡ None → script_of bytes ≡ Err (blanks + 1)
script-bad blanks bytes [] line after short feeds next is lines bad = read-empty request_of blanks bytes short feeds is
script-bad blanks bytes (byte ∷ rest) line after short feeds next is lines bad =
    read-first request_of blanks byte bytes rest line after short feeds next is (lines (omega arith))
    ∙ first-bad (length (line ∷ lines_of after) + (blanks + 1)) (blanks + 1) line (filled_from (blanks + 1 + 1) (lines_of after)) bad

-- the same where that line is a header
pub script-good : (blanks : ℕ) (bytes rest line after : List ℕ) (setup : Setup) → blanks ≤ length bytes → All (λ byte. byte ≡ 10) (take blanks bytes)
    → (blanks < length bytes → get_or bytes blanks 0 ≢ 10) → drop blanks bytes ≡ rest → (0 < length rest → lines_of rest ≡ line ∷ lines_of after)
    → (length rest ≡ 0 → line ≡ []) → header_of (words_of line) ≡ Some setup → script_of bytes ≡ with_header setup (blanks + 1 + 1) after
script-good blanks bytes [] line after setup short feeds next is lines none good =
    let bad : header_of (words_of []) ≡ Some setup = subst (λ l. header_of (words_of l) ≡ Some setup) (none refl) good in cc
script-good blanks bytes (byte ∷ rest) line after setup short feeds next is lines none good =
    read-first request_of blanks byte bytes rest line after short feeds next is (lines (omega arith))
    ∙ first-good (length (line ∷ lines_of after) + (blanks + 1)) (blanks + 1) line after setup good

-- a fault of the commands is one of the script
pub script-fails : (input : Result Request ℕ) (setup : Setup) (number : ℕ) (bytes : List ℕ) (fault : ScriptFault) → input ≡ with_header setup number bytes
    → Fails fault (commands_of glyph_command_of (filled_from number (lines_of bytes))) → Fails fault input
script-fails input setup number bytes (faults.BadLine bad) is fails = is ∙ ap (headed setup) fails
script-fails input setup number bytes faults.Memory is fails = tt

-- what a reading of a header says
pub no-header : (read : Option Header) (words : List (List ℕ)) → option_map setup_in read ≡ header_of words → read ≡ None → header_of words ≡ None
no-header read words is none = let same : option_map setup_in read ≡ None = ap (option_map setup_in) none in cc

pub some-header : (read : Option Header) (header : Header) (words : List (List ℕ)) → option_map setup_in read ≡ header_of words → read ≡ Some header
    → header_of words ≡ Some (setup_in header)
some-header read header words is some = let same : option_map setup_in read ≡ Some (setup_in header) = ap (option_map setup_in) some in cc
