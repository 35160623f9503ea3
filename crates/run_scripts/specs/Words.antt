-- What the words of a line stand for.
use Rattle.std.specs.Prelude.{ℕ, Bool, true, false, List, [], ◌∷◌, Option, Some, None, bytes_eq, codes, if◌then◌else◌, option_map}
use Rattle.etagere_base.specs.declared.geometry.Size.{Size}
use Rattle.run_scripts.specs.declared.commands.AtlasCommand.{AtlasCommand}
use Rattle.run_scripts.specs.declared.commands.AtlasCommand.TheVariants as atlas
use Rattle.run_scripts.specs.declared.commands.BucketedCommand.{BucketedCommand}
use Rattle.run_scripts.specs.declared.commands.BucketedCommand.TheVariants as bucketed
use Rattle.run_scripts.specs.declared.words.AtlasKind.{AtlasKind}
use Rattle.run_scripts.specs.declared.words.AtlasKind.TheVariants.{Shelves, Buckets}
pub use Rattle.run_scripts.specs.declared.words.Header.{Header}
use Rattle.run_scripts.specs.Numbers.{number_of, position_of}

-- none where the first is none
infixl 10 ◌>>=◌
abbrev pub ◌>>=◌ : {A B : Type 0} → Option A → (A → Option B) → Option B
None >>= f = None
(Some x) >>= f = f x

-- a width and a height
abbrev pub size_of : List ℕ → List ℕ → Option Size
size_of width_word height_word = do
  width ← number_of width_word
  height ← number_of height_word
  Some (record { width = width; height = height })

-- `h` for horizontal shelves, `v` for vertical ones
abbrev pub direction_of : List ℕ → Option Bool
direction_of word =
    if bytes_eq word (codes "h") then Some false
    else (if bytes_eq word (codes "v") then Some true else None)

-- `atlas` for an atlas of shelves, `bucketed` for one of buckets
abbrev pub kind_of : List ℕ → Option AtlasKind
kind_of word =
    if bytes_eq word (codes "atlas") then Some Shelves
    else (if bytes_eq word (codes "bucketed") then Some Buckets else None)

-- a size, an alignment, a number of columns and a direction, of an atlas of this kind
abbrev pub atlas_of : AtlasKind → List ℕ → List ℕ → List ℕ → List ℕ → List ℕ → List ℕ
    → Option Header
atlas_of kind width height alignment_width alignment_height columns direction = do
  size ← size_of width height
  alignment ← size_of alignment_width alignment_height
  vertical_shelves ← direction_of direction
  num_columns ← number_of columns
  Some (record {
    kind = kind;
    size = size;
    options =
        record {
          alignment = alignment;
          vertical_shelves = vertical_shelves;
          num_columns = num_columns;
        };
  })

-- six words that are these, and no others
abbrev pub atlas_in : AtlasKind → List (List ℕ) → Option Header
atlas_in kind (width ∷ height ∷ alignment_width ∷ alignment_height ∷ columns ∷ direction ∷ []) =
    atlas_of kind width height alignment_width alignment_height columns direction
atlas_in kind words = None

-- two words that are a size, and no others
abbrev pub size_in : List (List ℕ) → Option Size
size_in (width ∷ height ∷ []) = size_of width height
size_in words = None

-- one word that is a position, and no others
abbrev pub position_in : List (List ℕ) → Option ℕ
position_in (word ∷ []) = position_of word
position_in words = None

-- a header is the name of a kind and six words
abbrev pub header_of : List (List ℕ) → Option Header
header_of [] = None
header_of (name ∷ words) = do
  kind ← kind_of name
  atlas_in kind words

-- a command is `c` alone, which clears, or a name, alone or with words behind it
abbrev pub command_of : {C : Type 0} → C → (List ℕ → List (List ℕ) → Option C) → List (List ℕ)
    → Option C
command_of clear named [] = None
command_of clear named (name ∷ []) = if bytes_eq name (codes "c") then Some clear else named name []
command_of clear named (name ∷ word ∷ words) = named name (word ∷ words)

-- commands of an atlas of shelves: `a` or `g` and a size, or `r` or `l` and a position
abbrev pub atlas_command_named : List ℕ → List (List ℕ) → Option AtlasCommand
atlas_command_named name words =
    if bytes_eq name (codes "a") then option_map atlas.Allocate (size_in words)
    else (if bytes_eq name (codes "r") then option_map atlas.Return (position_in words)
    else (if bytes_eq name (codes "l") then option_map atlas.Look (position_in words)
    else (if bytes_eq name (codes "g") then option_map atlas.Grow (size_in words)
    else None)))

abbrev pub atlas_command_of : List (List ℕ) → Option AtlasCommand
atlas_command_of = command_of atlas.Clear atlas_command_named

-- commands of an atlas of buckets: `a` or `g` and a size, or `r` and a position
abbrev pub bucketed_command_named : List ℕ → List (List ℕ) → Option BucketedCommand
bucketed_command_named name words =
    if bytes_eq name (codes "a") then option_map bucketed.Allocate (size_in words)
    else (if bytes_eq name (codes "r") then option_map bucketed.Return (position_in words)
    else (if bytes_eq name (codes "g") then option_map bucketed.Grow (size_in words)
    else None))

abbrev pub bucketed_command_of : List (List ℕ) → Option BucketedCommand
bucketed_command_of = command_of bucketed.Clear bucketed_command_named
