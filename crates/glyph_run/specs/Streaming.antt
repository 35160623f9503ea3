-- What a stream of replies writes.
use Rattle.std.specs.Prelude.{◌≡◌, ℕ, ◌+◌, ◌<◌, Option, List, [], ◌∷◌, ◌++◌, Result, Ok, Err, length, take}
use Rattle.std.specs.Io.KnownBytes.{Appends, Keeps}
use Rattle.etagere_base.specs.declared.frames.Frame.{Frame}
use Rattle.run_scripts.specs.declared.faults.StreamFault.{StreamFault}
use Rattle.run_scripts.specs.declared.faults.StreamFault.TheVariants.{Options, Memory, Write}
use Rattle.glyph_shelf.specs.Cache.{CacheState, empty_cache}
use Rattle.glyph_run.specs.declared.commands.GlyphCommand.{GlyphCommand}
use Rattle.glyph_run.specs.declared.commands.GlyphReply.{GlyphReply}
use Rattle.glyph_run.specs.ReplyText.{line_of, replies_text}
use Rattle.glyph_run.specs.Runs.{Runs, RunKeepsPromisesThroughout}

-- a text is that of the replies of a run of a new cache, which answers all commands, keeps its promises at each moment,
-- and leads to this state
pub record IsTextOfRun (frame : Frame) (capacity : ℕ) (commands : List GlyphCommand) (last : CacheState) (text : List ℕ)
    : Type 0 where
  pub replies : List GlyphReply
  pub run : Runs (empty_cache frame capacity) commands replies last
  pub promises : RunKeepsPromisesThroughout frame capacity commands replies
  pub text_is : text ≡ replies_text replies

-- the text of a run went out
abbrev pub StreamsRun : Frame → ℕ → List GlyphCommand → CacheState → Option (List ℕ) → Option (List ℕ) → Type 0
StreamsRun frame capacity commands last old new =
    (text : List ℕ) × IsTextOfRun frame capacity commands last text × Appends old new text

-- the writer failed at the line of a reply: the commands up to this one were run, and led to this state; the lines of
-- those before it went out whole, and of its own a beginning that isn't all of it
pub record StopsAt (frame : Frame) (capacity : ℕ) (commands : List GlyphCommand) (stopped : CacheState)
    (old new : Option (List ℕ)) : Type 0 where
  pub position : ℕ
  pub within : position < length commands
  pub replies : List GlyphReply
  pub reply : GlyphReply
  pub run : Runs (empty_cache frame capacity) (take (position + 1) commands) (replies ++ reply ∷ []) stopped
  pub promises : RunKeepsPromisesThroughout frame capacity (take (position + 1) commands) (replies ++ reply ∷ [])
  pub sent : ℕ
  pub short : sent < length (line_of reply)
  pub out : Appends old new (replies_text replies ++ take sent (line_of reply))

-- What a stream appends to what its writer contained: the text of a run, after a failed write the lines of the first
-- replies and of the next one a beginning, and nothing where the options have a fault or memory ran out.
abbrev pub Streams : {T : Type 0} → Frame → ℕ → List GlyphCommand → Option (List ℕ) → Option (List ℕ)
    → Result T StreamFault → Type 0
Streams frame capacity commands old new (Ok done) =
    (last : CacheState) × StreamsRun frame capacity commands last old new
Streams frame capacity commands old new (Err (Options fault)) = Keeps old new
Streams frame capacity commands old new (Err Memory) = Keeps old new
Streams frame capacity commands old new (Err Write) =
    (stopped : CacheState) × StopsAt frame capacity commands stopped old new
