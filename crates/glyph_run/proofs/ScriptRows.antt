-- The definitions alone, with no program, give the answers of worked scripts and the words of replies.
use Rattle.std.proofs.Common.{◌≡◌, ℕ, List, [], ◌∷◌, ◌++◌, Some, None, Ok, Err, refl, pos, false}
use Rattle.std.specs.Prelude.{codes}
use Rattle.std.specs.Fmt.{digits}
use Rattle.std.specs.List.{flat_map}
use Rattle.etagere_base.specs.declared.geometry.Rectangle.{Rectangle}
use Rattle.etagere_base.specs.declared.geometry.Size.{Size}
use Rattle.glyph_run.specs.declared.commands.GlyphCommand.{GlyphCommand}
use Rattle.glyph_run.specs.declared.commands.GlyphCommand.TheVariants.{Place, Get, Remove, Clear, BeginFrame}
use Rattle.glyph_run.specs.declared.commands.GlyphReply.TheVariants.{TooLarge, At, Removed, NotThere, Cleared, Begun, FrameFull}
use Rattle.glyph_run.specs.ReplyText.{evicted_text, replies_text}
use Rattle.glyph_run.specs.Runs.{told}
use Rattle.glyph_run.specs.Script.{Request, script_of}
use Rattle.glyph_run.specs.Words.{capacity_of, key_of}

-- each line with its line feed
abbrev text : List (List ℕ) → List ℕ
text = flat_map (λ line. line ++ 10 ∷ [])

abbrev size : ℕ → ℕ → Size
size width height = record { width = pos width; height = pos height }

abbrev rectangle : ℕ → ℕ → ℕ → ℕ → Rectangle
rectangle left top right bottom = record {
  min = record { x = pos left; y = pos top };
  max = record { x = pos right; y = pos bottom };
}

-- a request for horizontal shelves in one column, with alignment (1,1)
abbrev request : ℕ → ℕ → ℕ → List GlyphCommand → Request
request width height capacity commands = record {
  setup = record {
    size = size width height;
    options = record { alignment = size 1 1; vertical_shelves = false; num_columns = pos 1 };
    capacity = capacity;
  };
  commands = commands;
}

all_commands : script_of (text (codes "cache 32 16 1 1 1 h 3" ∷ codes "p 1 32 8" ∷ [] ∷ codes "g 007" ∷ codes "r 1" ∷ codes "c" ∷ codes "f" ∷ []))
    ≡ Ok (request 32 16 3 (Place 1 (size 32 8) ∷ Get 7 ∷ Remove 1 ∷ Clear ∷ BeginFrame ∷ []))
all_commands = refl

no_bytes : script_of [] ≡ Err 1
no_bytes = refl

no_capacity : script_of (text (codes "cache 8 8 1 1 1 h 0" ∷ [])) ≡ Err 1
no_capacity = refl

another_header : script_of (text (codes "atlas 8 8 1 1 1 h" ∷ [])) ≡ Err 1
another_header = refl

a_key_without_a_size : script_of (text (codes "cache 8 8 1 1 1 h 4" ∷ [] ∷ codes "p 1 8" ∷ codes "x" ∷ [])) ≡ Err 3
a_key_without_a_size = refl

a_frame_of_a_key : script_of (text (codes "cache 8 8 1 1 1 h 4" ∷ codes "f" ∷ codes "f 1" ∷ [])) ≡ Err 3
a_frame_of_a_key = refl

a_frame_and_a_space : script_of (text (codes "cache 8 8 1 1 1 h 4" ∷ codes "f " ∷ [])) ≡ Err 2
a_frame_and_a_space = refl

greatest_key : key_of (codes "18446744073709551615") ≡ Some 18446744073709551615
greatest_key = refl

key_out_of_range : key_of (codes "18446744073709551616") ≡ None
key_out_of_range = refl

key_with_a_sign : key_of (codes "-1") ≡ None
key_with_a_sign = refl

least_capacity : capacity_of (codes "01") ≡ Some 1
least_capacity = refl

plain_replies : replies_text (TooLarge ∷ At (rectangle 0 8 32 16) ∷ Removed (rectangle 0 0 1 1) ∷ NotThere ∷ Cleared ∷ Begun ∷ FrameFull ∷ [])
    ≡ text (codes "too large" ∷ codes "at 0 8 32 16" ∷ codes "removed 0 0 1 1" ∷ codes "none" ∷ codes "cleared" ∷ codes "begun" ∷ codes "frame full" ∷ [])
unfolding digits
plain_replies = refl

evicted_keys : evicted_text (3 ∷ 1 ∷ 4 ∷ []) ≡ codes " evicted 3 1 4"
unfolding digits
evicted_keys = refl

-- what is looked up goes first, and what is removed or cleared goes out
told_replies : told (Get 1 ∷ Get 2 ∷ Get 1 ∷ Remove 2 ∷ Get 3 ∷ [])
    (At (rectangle 0 0 8 8) ∷ At (rectangle 8 0 16 8) ∷ At (rectangle 0 0 8 8) ∷ Removed (rectangle 8 0 16 8) ∷ NotThere ∷ [])
    ≡ (1, rectangle 0 0 8 8) ∷ []
told_replies = refl

told_nothing : told (Get 1 ∷ Clear ∷ []) (At (rectangle 0 0 8 8) ∷ Cleared ∷ []) ≡ []
told_nothing = refl
