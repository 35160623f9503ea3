-- The header of a script, found behind the lines without bytes that stand first.
use Rattle.std.proofs.Common.{◌≡◌, ◌≢◌, ℕ, ◌+◌, ◌-◌, ◌<◌, ◌≤◌, suc, zero, cond, List, [], ◌∷◌, length, take, drop, get_or, Some, None, Result, Ok, Err, arith, refl, ap, ◌∙◌, sym, subst}
use Rattle.std.specs.Prelude.{All}
use Rattle.std.specs.List.{onto_first}
use Rattle.std.proofs.Math.Seq.{take-length}
use Rattle.std.proofs.lemmas.List.{length-drop}
use Rattle.std.proofs.lemmas.List.Elements.{All-head, All-tail}
use Rattle.run_scripts.specs.declared.script.ScriptFault.{ScriptFault}
use Rattle.run_scripts.specs.declared.script.ScriptFault.TheVariants as faults
use Rattle.run_scripts.specs.Lines.{lines_of, words_of, filled_from}
use Rattle.run_scripts.specs.Words.{Header, header_of}
use Rattle.run_scripts.specs.Script.{Commands, Request, script_of, request_of, commands_to, ◌>>=◌}
use Rattle.run_scripts.specs.ScriptReading.{Fails}
use Rattle.run_scripts.proofs.Pieces.{before_pieces-separator, other_byte}

-- what lines from this number on stand for, by what the number after the last one and the lines with bytes do
abbrev pub read_from : {R : Type 0} → (ℕ → List (ℕ × List ℕ) → R) → ℕ → List (List ℕ) → R
read_from request number lines = request (length lines + number) (filled_from number lines)

-- the request of a header and a reading of commands
abbrev pub headed : Header → Result Commands ℕ → Result Request ℕ
headed header read = read >>= λ commands. Ok (record { size = header.size; options = header.options; commands = commands })

-- the request of a header and the lines after it
abbrev pub with_header : Header → ℕ → List ℕ → Result Request ℕ
with_header header number bytes = headed header (commands_to header.kind (filled_from number (lines_of bytes)))

module _ {R : Type 0} (request : ℕ → List (ℕ × List ℕ) → R) where
  -- a first line without bytes is passed over
  read_from-blank : (number : ℕ) (lines : List (List ℕ)) → read_from request number ([] ∷ lines) ≡ read_from request (number + 1) lines
  read_from-blank number lines = ap (λ n. request n (filled_from (number + 1) lines)) (omega arith)

  -- a line feed that stands first
  read_from-feed : (number byte : ℕ) (bytes : List ℕ) → byte ≡ 10 → read_from request number (lines_of (byte ∷ bytes)) ≡ read_from request (number + 1) (lines_of bytes)
  read_from-feed number byte bytes feed =
      ap (λ b. read_from request number (lines_of (b ∷ bytes))) feed
      ∙ ap (read_from request number) (before_pieces-separator 10 (lines_of bytes))
      ∙ read_from-blank number (lines_of bytes)

  -- line feeds that stand first
  read_from-feeds : (number blanks : ℕ) (bytes : List ℕ) → blanks ≤ length bytes → All (λ byte. byte ≡ 10) (take blanks bytes) → read_from request number (lines_of bytes) ≡ read_from request (number + blanks) (lines_of (drop blanks bytes))
  read_from-feeds number zero bytes short feeds = ap (λ n. read_from request n (lines_of bytes)) (omega arith)
  read_from-feeds number (suc blanks) [] short feeds = absurd (omega arith)
  read_from-feeds number (suc blanks) (byte ∷ bytes) short feeds =
      read_from-feed number byte bytes (All-head (λ byte. byte ≡ 10) byte (take blanks bytes) feeds)
      ∙ read_from-feeds (number + 1) blanks bytes (omega arith) (All-tail (λ byte. byte ≡ 10) byte (take blanks bytes) feeds)
      ∙ ap (λ n. read_from request n (lines_of (drop blanks bytes))) (omega arith)

  -- no line with bytes
  pub read-empty : (blanks : ℕ) (bytes : List ℕ) → blanks ≤ length bytes → All (λ byte. byte ≡ 10) (take blanks bytes) → drop blanks bytes ≡ [] → read_from request 1 (lines_of bytes) ≡ request (blanks + 1) []
  read-empty blanks bytes short feeds none =
      read_from-feeds 1 blanks bytes short feeds
      ∙ ap (λ l. read_from request (1 + blanks) (lines_of l)) none
      ∙ ap (λ n. request n []) (omega arith)

  -- a first line with bytes
  read-line : (blanks byte : ℕ) (bytes rest line after : List ℕ) → blanks ≤ length bytes → All (λ byte. byte ≡ 10) (take blanks bytes) → drop blanks bytes ≡ byte ∷ rest → lines_of (byte ∷ rest) ≡ line ∷ lines_of after → read_from request 1 (lines_of bytes) ≡ read_from request (blanks + 1) (line ∷ lines_of after)
  read-line blanks byte bytes rest line after short feeds some lines =
      read_from-feeds 1 blanks bytes short feeds
      ∙ ap (λ l. read_from request (1 + blanks) (lines_of l)) some
      ∙ ap (read_from request (1 + blanks)) lines
      ∙ ap (λ n. read_from request n (line ∷ lines_of after)) (omega arith)

-- a piece that a byte was put onto has bytes
onto_first-filled : (byte : ℕ) (pieces lines : List (List ℕ)) (line : List ℕ) → onto_first byte pieces ≡ line ∷ lines → 0 < length line
onto_first-filled byte [] lines line is = let same : byte ∷ [] ≡ line = cc in subst (λ l. 0 < length l) same (omega arith)
onto_first-filled byte (piece ∷ pieces) lines line is = let same : byte ∷ piece ≡ line = cc in subst (λ l. 0 < length l) same (omega arith)

-- a first line that begins with no line feed has bytes
first-filled : (byte : ℕ) (bytes line : List ℕ) (lines : List (List ℕ)) → byte ≢ 10 → lines_of (byte ∷ bytes) ≡ line ∷ lines → 0 < length line
first-filled byte bytes line lines other is =
    onto_first-filled byte (lines_of bytes) lines line
    (sym (ap (λ t. cond t ([] ∷ lines_of bytes) (onto_first byte (lines_of bytes))) (other_byte byte 10 other)) ∙ is)

-- a first line with bytes is the first of those
filled_from-line : (number : ℕ) (line : List ℕ) (lines : List (List ℕ)) → 0 < length line → filled_from number (line ∷ lines) ≡ (number, line) ∷ filled_from (number + 1) lines
filled_from-line number [] lines some = absurd (omega arith)
filled_from-line number (byte ∷ bytes) lines some = refl

-- what stands behind the lines without bytes begins with no line feed
head-other : (blanks byte : ℕ) (bytes rest : List ℕ) → drop blanks bytes ≡ byte ∷ rest → (blanks < length bytes → get_or bytes blanks 0 ≢ 10) → byte ≢ 10
head-other zero byte [] rest is next = cc
head-other zero byte (x ∷ xs) rest is next = let same : x ≡ byte = cc in subst (λ y. y ≢ 10) same (next (omega arith))
head-other (suc blanks) byte [] rest is next = cc
head-other (suc blanks) byte (x ∷ xs) rest is next = head-other blanks byte xs rest is (λ h. next (omega arith))

-- the first line with bytes, behind some without, and the lines after it
pub read-first : {R : Type 0} (request : ℕ → List (ℕ × List ℕ) → R) (blanks byte : ℕ) (bytes rest line after : List ℕ) → blanks ≤ length bytes → All (λ byte. byte ≡ 10) (take blanks bytes) → (blanks < length bytes → get_or bytes blanks 0 ≢ 10) → drop blanks bytes ≡ byte ∷ rest → lines_of (byte ∷ rest) ≡ line ∷ lines_of after
    → read_from request 1 (lines_of bytes) ≡ request (length (line ∷ lines_of after) + (blanks + 1)) ((blanks + 1, line) ∷ filled_from (blanks + 1 + 1) (lines_of after))
read-first request blanks byte bytes rest line after short feeds next is lines =
    read-line request blanks byte bytes rest line after short feeds is lines
    ∙ ap (request (length (line ∷ lines_of after) + (blanks + 1)))
    (filled_from-line (blanks + 1) line (lines_of after) (first-filled byte rest line (lines_of after) (head-other blanks byte bytes rest is next) lines))

-- a first line that is no header
first-bad : (after number : ℕ) (line : List ℕ) (lines : List (ℕ × List ℕ)) → header_of (words_of line) ≡ None → request_of after ((number, line) ∷ lines) ≡ Err number
first-bad after number line lines bad = rw bad refl

-- a first line that is a header
first-good : (last number : ℕ) (line after : List ℕ) (header : Header) → header_of (words_of line) ≡ Some header → request_of last ((number, line) ∷ filled_from (number + 1) (lines_of after)) ≡ with_header header (number + 1) after
first-good last number line after header good = rw good refl

-- What a script stands for whose first line with bytes, behind some without, is this one, if there is one.
pub script-bad : (blanks : ℕ) (bytes rest line after : List ℕ) → blanks ≤ length bytes → All (λ byte. byte ≡ 10) (take blanks bytes) → (blanks < length bytes → get_or bytes blanks 0 ≢ 10) → drop blanks bytes ≡ rest → (0 < length rest → lines_of rest ≡ line ∷ lines_of after) → header_of (words_of line) ≡ None → script_of bytes ≡ Err (blanks + 1)
script-bad blanks bytes [] line after short feeds next is lines bad = read-empty request_of blanks bytes short feeds is
script-bad blanks bytes (byte ∷ rest) line after short feeds next is lines bad =
    read-first request_of blanks byte bytes rest line after short feeds next is (lines (omega arith))
    ∙ first-bad (length (line ∷ lines_of after) + (blanks + 1)) (blanks + 1) line (filled_from (blanks + 1 + 1) (lines_of after)) bad

-- the same where that line is a header
pub script-good : (blanks : ℕ) (bytes rest line after : List ℕ) (header : Header) → blanks ≤ length bytes → All (λ byte. byte ≡ 10) (take blanks bytes) → (blanks < length bytes → get_or bytes blanks 0 ≢ 10) → drop blanks bytes ≡ rest → (0 < length rest → lines_of rest ≡ line ∷ lines_of after) → (length rest ≡ 0 → line ≡ []) → header_of (words_of line) ≡ Some header → script_of bytes ≡ with_header header (blanks + 1 + 1) after
script-good blanks bytes [] line after header short feeds next is lines none good =
    let bad : header_of (words_of []) ≡ Some header = subst (λ l. header_of (words_of l) ≡ Some header) (none refl) good in cc
script-good blanks bytes (byte ∷ rest) line after header short feeds next is lines none good =
    read-first request_of blanks byte bytes rest line after short feeds next is (lines (omega arith))
    ∙ first-good (length (line ∷ lines_of after) + (blanks + 1)) (blanks + 1) line after header good

-- the rest of a list, as a slice to its end
pub rest_is : (start : ℕ) (bytes : List ℕ) → drop start bytes ≡ take (length bytes - start) (drop start bytes)
rest_is start bytes = sym (ap (λ n. take n (drop start bytes)) (sym (length-drop start bytes)) ∙ take-length (drop start bytes))

-- a fault of the commands is one of the script
pub script-fails : (input : Result Request ℕ) (header : Header) (number : ℕ) (bytes : List ℕ) (fault : ScriptFault) → input ≡ with_header header number bytes → Fails fault (commands_to header.kind (filled_from number (lines_of bytes))) → Fails fault input
script-fails input header number bytes (faults.BadLine bad) is fails = is ∙ ap (headed header) fails
script-fails input header number bytes faults.Memory is fails = tt
