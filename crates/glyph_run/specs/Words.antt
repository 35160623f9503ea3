-- What the words of a line stand for.
use Rattle.std.specs.Prelude.{ℕ, ◌-◌, ◌^◌, List, [], ◌∷◌, Option, Some, None, bytes_eq, codes, ◌==◌, if◌then◌else◌, option_map}
use Rattle.etagere_base.specs.declared.geometry.Size.{Size}
use Rattle.etagere_base.specs.declared.options.AllocatorOptions.{AllocatorOptions}
use Rattle.run_scripts.specs.Numbers.{natural_of, number_of}
use Rattle.run_scripts.specs.Words.{command_of, direction_of, size_in, size_of, ◌>>=◌}
use Rattle.glyph_run.specs.declared.commands.GlyphCommand.{GlyphCommand}
use Rattle.glyph_run.specs.declared.commands.GlyphCommand.TheVariants.{Place, Get, Remove, Clear, BeginFrame}

-- a cache as a header asks for it
pub record Setup : Type 0 where
  pub size : Size
  pub options : AllocatorOptions
  pub capacity : ℕ

-- digits, where the value fits a `u64`
abbrev pub key_of : List ℕ → Option ℕ
key_of word = natural_of (2 ^ 64 - 1) word

-- the same, but for 0
abbrev pub capacity_of : List ℕ → Option ℕ
capacity_of word = do
  capacity ← key_of word
  if capacity == 0 then None else Some capacity

-- a size, an alignment, a number of columns, a direction and a capacity
abbrev pub cache_of : List ℕ → List ℕ → List ℕ → List ℕ → List ℕ → List ℕ → List ℕ → Option Setup
cache_of width height alignment_width alignment_height columns direction capacity_word = do
  size ← size_of width height
  alignment ← size_of alignment_width alignment_height
  vertical_shelves ← direction_of direction
  num_columns ← number_of columns
  capacity ← capacity_of capacity_word
  Some (record {
    size = size;
    options =
        record {
          alignment = alignment;
          vertical_shelves = vertical_shelves;
          num_columns = num_columns;
        };
    capacity = capacity;
  })

-- seven words that are these, and no others
abbrev pub cache_in : List (List ℕ) → Option Setup
cache_in (width ∷ height ∷ alignment_width ∷ alignment_height ∷ columns ∷ direction ∷ capacity ∷ []) =
    cache_of width height alignment_width alignment_height columns direction capacity
cache_in words = None

-- a header is `cache` and seven words
abbrev pub header_of : List (List ℕ) → Option Setup
header_of [] = None
header_of (name ∷ words) = if bytes_eq name (codes "cache") then cache_in words else None

-- one word that is a key, and no others
abbrev pub key_in : List (List ℕ) → Option ℕ
key_in (word ∷ []) = key_of word
key_in words = None

-- a word that is a key, and two that are a size
abbrev pub place_in : List (List ℕ) → Option GlyphCommand
place_in [] = None
place_in (word ∷ words) = do
  size ← size_in words
  key ← key_of word
  Some (Place key size)

-- no words
abbrev pub frame_in : List (List ℕ) → Option GlyphCommand
frame_in [] = Some BeginFrame
frame_in words = None

-- commands of a cache: `p`, a key and a size, `g` or `r` and a key, or `f` alone
abbrev pub glyph_command_named : List ℕ → List (List ℕ) → Option GlyphCommand
glyph_command_named name words =
    if bytes_eq name (codes "p") then place_in words
    else (if bytes_eq name (codes "g") then option_map Get (key_in words)
    else (if bytes_eq name (codes "r") then option_map Remove (key_in words)
    else (if bytes_eq name (codes "f") then frame_in words
    else None)))

abbrev pub glyph_command_of : List (List ℕ) → Option GlyphCommand
glyph_command_of = command_of Clear glyph_command_named
