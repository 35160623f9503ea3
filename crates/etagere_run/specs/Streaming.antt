-- What a stream of replies writes.
use Rattle.std.specs.Prelude.{◌≡◌, ℕ, ◌+◌, ◌<◌, Option, List, [], ◌∷◌, ◌++◌, Result, Ok, Err, length, take}
use Rattle.std.specs.Io.KnownBytes.{Appends, Keeps}
use Rattle.etagere_base.specs.declared.frames.Frame.{Frame}
use Rattle.pictures.specs.Sending.{AppendsBeginning}
use Rattle.run_scripts.specs.declared.commands.Reply.{Reply}
use Rattle.run_scripts.specs.declared.faults.StreamFault.{StreamFault}
use Rattle.run_scripts.specs.declared.faults.StreamFault.TheVariants.{Options, Memory, Write}
use Rattle.run_scripts.specs.ReplyText.{line_of, replies_text}
use Rattle.etagere_run.specs.Answers.Runs.{Kind, Runs, RunKeepsPromisesThroughout}

-- a text is that of the replies of a run of a new atlas, which answers all commands, keeps its promises at each moment,
-- and leads to this state
pub record IsTextOfRun {S C : Type 0} (kind : Kind S C) (frame : Frame) (commands : List C) (last : S) (text : List ℕ) : Type 0 where
  pub replies : List Reply
  pub run : Runs kind 0 [] (kind.fresh frame) commands replies last
  pub promises : RunKeepsPromisesThroughout kind frame commands replies
  pub text_is : text ≡ replies_text replies

-- the text of a run went out, and of such a text a beginning
abbrev pub StreamsRun : {S C : Type 0} → Kind S C → Frame → List C → Option (List ℕ) → Option (List ℕ) → Type 0
StreamsRun {S} kind frame commands old new =
    (last : S) × (text : List ℕ) × IsTextOfRun kind frame commands last text × Appends old new text

abbrev pub StreamsBeginning : {S C : Type 0} → Kind S C → Frame → List C → Option (List ℕ) → Option (List ℕ) → Type 0
StreamsBeginning {S} kind frame commands old new =
    (last : S) × (text : List ℕ) × IsTextOfRun kind frame commands last text × AppendsBeginning old new text

-- the writer failed at the line of a reply: the commands up to this one were run, and led to this state; the lines of
-- those before it went out whole, and of its own a beginning that isn't all of it
pub record StopsAt {S C : Type 0} (kind : Kind S C) (frame : Frame) (commands : List C) (stopped : S) (old new : Option (List ℕ))
    : Type 0 where
  pub position : ℕ
  pub within : position < length commands
  pub replies : List Reply
  pub reply : Reply
  pub run : Runs kind 0 [] (kind.fresh frame) (take (position + 1) commands) (replies ++ reply ∷ []) stopped
  pub promises : RunKeepsPromisesThroughout kind frame (take (position + 1) commands) (replies ++ reply ∷ [])
  pub sent : ℕ
  pub short : sent < length (line_of reply)
  pub out : Appends old new (replies_text replies ++ take sent (line_of reply))

-- the writer failed at the line of some reply
abbrev pub Stops : {S C : Type 0} → Kind S C → Frame → List C → Option (List ℕ) → Option (List ℕ) → Type 0
Stops {S} kind frame commands old new = (stopped : S) × StopsAt kind frame commands stopped old new

-- What a stream appends to what its writer contained: the text of a run, after a failed write a beginning of such a text,
-- and nothing where the options have a fault or memory ran out.
abbrev pub Streams : {S C T : Type 0} → Kind S C → Frame → List C → Option (List ℕ) → Option (List ℕ) → Result T StreamFault → Type 0
Streams kind frame commands old new (Ok done) = StreamsRun kind frame commands old new
Streams kind frame commands old new (Err (Options fault)) = Keeps old new
Streams kind frame commands old new (Err Memory) = Keeps old new
Streams kind frame commands old new (Err Write) = StreamsBeginning kind frame commands old new
