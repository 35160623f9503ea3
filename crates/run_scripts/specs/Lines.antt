-- How the bytes of a script make lines, and those of a line words.
use Rattle.std.specs.Prelude.{ℕ, ◌+◌, ◌≢◌, List, [], ◌∷◌, All, ◌==◌, if◌then◌else◌}
use Rattle.std.specs.List.{onto_first}

-- the byte that ends a line, and the one that parts words
abbrev pub line_feed : ℕ
line_feed = 10

abbrev pub space : ℕ
space = 32

-- a byte before pieces: a separator begins them with an empty piece, another byte goes onto the
-- first
abbrev pub before_pieces : ℕ → ℕ → List (List ℕ) → List (List ℕ)
before_pieces separator byte pieces =
    if byte == separator then [] ∷ pieces else onto_first byte pieces

-- the pieces of bytes that a separator parts, and in the end these
abbrev pub parted : ℕ → List (List ℕ) → List ℕ → List (List ℕ)
parted separator end [] = end
parted separator end (byte ∷ bytes) = before_pieces separator byte (parted separator end bytes)

-- the lines: a line feed ends each, and the last may lack it
abbrev pub lines_of : List ℕ → List (List ℕ)
lines_of bytes = parted line_feed [] bytes

-- the words: one space parts them, and what it parts may be empty
abbrev pub words_of : List ℕ → List (List ℕ)
words_of line = parted space ([] ∷ []) line

-- the lines with bytes, each with its number, where the first line has this number
abbrev pub filled_from : ℕ → List (List ℕ) → List (ℕ × List ℕ)
filled_from number [] = []
filled_from number ([] ∷ lines) = filled_from (number + 1) lines
filled_from number ((byte ∷ bytes) ∷ lines) =
    (number, byte ∷ bytes) ∷ filled_from (number + 1) lines

-- no byte is the separator
abbrev pub Lacks : ℕ → List ℕ → Type 0
Lacks separator bytes = All (λ byte. byte ≢ separator) bytes
