-- The text of replies: a line for each.
use Rattle.std.specs.Prelude.{ℕ, List, [], ◌∷◌, ◌++◌, codes, decimal, flat_map}
use Rattle.run_scripts.specs.Lines.{line_feed, space}
use Rattle.run_scripts.specs.ReplyText.{corners_text}
use Rattle.glyph_run.specs.declared.commands.GlyphReply.{GlyphReply}
use Rattle.glyph_run.specs.declared.commands.GlyphReply.TheVariants.{Placed, TooLarge, NoMemory, At, Removed, NotThere, Cleared, Begun, FrameFull}

-- keys, a space before each
abbrev pub key_text : ℕ → List ℕ
key_text key = space ∷ decimal key

abbrev pub keys_text : List ℕ → List ℕ
keys_text keys = flat_map key_text keys

-- which keys were evicted, if any
abbrev pub evicted_text : List ℕ → List ℕ
evicted_text [] = []
evicted_text (key ∷ keys) = codes " evicted" ++ keys_text (key ∷ keys)

-- what a reply says, in words: before the keys that were evicted
abbrev pub words_of : GlyphReply → List ℕ
words_of (Placed placed) = codes "placed " ++ corners_text placed.rectangle
words_of TooLarge = codes "too large"
words_of (NoMemory evicted) = codes "no memory"
words_of (At rectangle) = codes "at " ++ corners_text rectangle
words_of (Removed rectangle) = codes "removed " ++ corners_text rectangle
words_of NotThere = codes "none"
words_of Cleared = codes "cleared"
words_of Begun = codes "begun"
words_of FrameFull = codes "frame full"

-- the keys that a reply names as evicted
abbrev pub evicted_by : GlyphReply → List ℕ
evicted_by (Placed placed) = placed.evicted.items
evicted_by (NoMemory evicted) = evicted.items
evicted_by reply = []

-- a line ends with a line feed
abbrev pub line_of : GlyphReply → List ℕ
line_of reply = words_of reply ++ (evicted_text (evicted_by reply) ++ line_feed ∷ [])

-- one line for each reply, in order
abbrev pub replies_text : List GlyphReply → List ℕ
replies_text replies = flat_map line_of replies
