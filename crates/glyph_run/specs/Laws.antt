-- Laws of runs on a cache, proved of all that the model allows.
use Rattle.std.specs.Prelude.{◌≡◌, ℕ, ⊤, All, List}
use Rattle.etagere_base.specs.declared.frames.Frame.{Frame}
use Rattle.glyph_run.specs.declared.commands.GlyphCommand.{GlyphCommand}
use Rattle.glyph_run.specs.declared.commands.GlyphReply.{GlyphReply}
use Rattle.glyph_run.specs.declared.commands.GlyphReply.TheVariants.{NoMemory}
use Rattle.glyph_run.specs.Replaying.{IsWholeRunOf}
use Rattle.glyph_run.specs.ReplyText.{replies_text}
use Rattle.glyph_run.specs.Runs.{RunsTo}

-- memory was there for the command that has this reply
abbrev pub HasMemory : GlyphReply → Type 0
HasMemory (NoMemory evicted) = ⊥
HasMemory reply = ⊤

-- a new cache of this frame and capacity may give these replies to the commands; memory is refused
-- to none
pub record RunsWithMemory (frame : Frame) (capacity : ℕ) (commands : List GlyphCommand)
    (replies : List GlyphReply) : Type 0 where
  pub run : RunsTo frame capacity commands replies
  pub memory : All HasMemory replies

-- two such runs of the same commands have the same text
abbrev pub HasOneText : Frame → ℕ → Type 0
HasOneText frame capacity =
    (commands : List GlyphCommand) (replies others : List GlyphReply)
    → RunsWithMemory frame capacity commands replies
    → RunsWithMemory frame capacity commands others
    → replies_text replies ≡ replies_text others

-- two whole replays of an input, neither refused memory, write the same text
abbrev pub ReplaysHaveOneText : Type 0
ReplaysHaveOneText =
    (input text other : List ℕ) (one : IsWholeRunOf input text) (another : IsWholeRunOf input other)
    → All HasMemory one.run.replies → All HasMemory another.run.replies → text ≡ other
