-- What a replay writes for what it reads.
use Rattle.std.specs.Prelude.{◌≡◌, ℕ, List, Option, Some, Result, Ok, Err, IfSome}
use Rattle.std.specs.Io.KnownBytes.{Appends, Keeps}
use Rattle.etagere_base.specs.declared.faults.OptionsFault.{OptionsFault}
use Rattle.etagere_base.specs.declared.geometry.Size.{Size}
use Rattle.etagere_base.specs.declared.options.AllocatorOptions.{AllocatorOptions}
use Rattle.etagere_base.specs.Faults.{options_fault_number}
use Rattle.etagere_base.specs.Frames.{IsAccepted, atlas_frame, options_fault, longest_side}
use Rattle.bucketed_model.specs.Frames.{bucketed_frame, longest_bucketed_side}
use Rattle.pictures.specs.Sending.{AppendsBeginning}
use Rattle.run_scripts.specs.declared.commands.Reply.{Reply}
use Rattle.run_scripts.specs.declared.faults.Outcome.{Outcome}
use Rattle.run_scripts.specs.declared.faults.Outcome.TheVariants.{Done, BadLine, Options}
use Rattle.run_scripts.specs.declared.faults.ReplayFault.{ReplayFault}
use Rattle.run_scripts.specs.declared.faults.ReplayFault.TheVariants.{Read, Write, Memory}
use Rattle.etagere_run.specs.Answers.AtlasRuns.{shelf_atlas}
use Rattle.etagere_run.specs.Answers.BucketedRuns.{bucketed_atlas}
use Rattle.run_scripts.specs.ReplyText.{bad_line_text, options_text, replies_text}
use Rattle.etagere_run.specs.Answers.Runs.{RunKeepsPromisesThroughout, RunsTo}
use Rattle.run_scripts.specs.Script.{Commands, OfBuckets, OfShelves, Request, script_of}

-- the longest side that an atlas may have that is asked these
abbrev pub longest_asked : Commands → ℕ
longest_asked (OfShelves commands) = longest_side
longest_asked (OfBuckets commands) = longest_bucketed_side

-- a new atlas of this size and options may give these replies to the commands
abbrev pub RepliesTo : Size → AllocatorOptions → Commands → List Reply → Type 0
RepliesTo size options (OfShelves commands) = RunsTo shelf_atlas (atlas_frame size options) commands
RepliesTo size options (OfBuckets commands) =
    RunsTo bucketed_atlas (bucketed_frame size options) commands

-- in such a run an atlas of this size and options keeps its promises at each moment
abbrev pub RepliesKeepPromises : Size → AllocatorOptions → Commands → List Reply → Type 0
RepliesKeepPromises size options (OfShelves commands) =
    RunKeepsPromisesThroughout shelf_atlas (atlas_frame size options) commands
RepliesKeepPromises size options (OfBuckets commands) =
    RunKeepsPromisesThroughout bucketed_atlas (bucketed_frame size options) commands

-- the input spells a request that is accepted and was run, which kept its promises at each moment,
-- and the text is that of its replies
pub record IsRunOf (input text : List ℕ) : Type 0 where
  pub request : Request
  pub replies : List Reply
  pub spelled : script_of input ≡ Ok request
  pub accepted : IsAccepted (longest_asked request.commands) request.size request.options
  pub runs : RepliesTo request.size request.options request.commands replies
  pub promises : RepliesKeepPromises request.size request.options request.commands replies
  pub text_is : text ≡ replies_text replies

-- the input spells a request whose options have the fault of this number
pub record HasFault (input : List ℕ) (number : ℕ) (text : List ℕ) : Type 0 where
  pub request : Request
  pub fault : OptionsFault
  pub spelled : script_of input ≡ Ok request
  pub refused : options_fault (longest_asked request.commands) request.size request.options
      ≡ Some fault
  pub number_is : number ≡ options_fault_number fault
  pub text_is : text ≡ options_text number

-- how a replay of an input ends, and its whole text
abbrev pub Answers : List ℕ → Outcome → List ℕ → Type 0
Answers input Done text = IsRunOf input text
Answers input (BadLine number) text = (script_of input ≡ Err number) × (text ≡ bad_line_text number)
Answers input (Options number) text = HasFault input number text

-- the answer to an input that is all that a reader had left, where that is known
abbrev pub AnswersReader : Option (List ℕ) → Outcome → List ℕ → Type 0
AnswersReader remaining outcome text =
    (input : List ℕ) × IfSome remaining (λ bytes. input ≡ bytes) × Answers input outcome text

-- What a replay appends to what its writer contained: the whole text, after a failed write a
-- beginning of it, and nothing where the reader failed or memory ran out.
abbrev pub Replays : Option (List ℕ) → Option (List ℕ) → Option (List ℕ)
    → Result Outcome ReplayFault → Type 0
Replays remaining old new (Ok outcome) =
    (text : List ℕ) × AnswersReader remaining outcome text × Appends old new text
Replays remaining old new (Err Read) = Keeps old new
Replays remaining old new (Err Write) =
    (outcome : Outcome) × (text : List ℕ) × AnswersReader remaining outcome text
    × AppendsBeginning old new text
Replays remaining old new (Err Memory) = Keeps old new
