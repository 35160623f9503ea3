-- What a replay writes for what it reads.
use Rattle.std.specs.Prelude.{◌≡◌, ℕ, ◌≤◌, ◌⊎◌, List, Option, Some, Result, Ok, Err, IfSome, length, take}
use Rattle.std.specs.Io.KnownBytes.{Appends, Keeps}
use Rattle.etagere_base.specs.declared.faults.OptionsFault.{OptionsFault}
use Rattle.etagere_base.specs.Faults.{options_fault_number}
use Rattle.etagere_base.specs.Frames.{IsAccepted, atlas_frame, options_fault, longest_side}
use Rattle.pictures.specs.Sending.{AppendsBeginning}
use Rattle.run_scripts.specs.declared.faults.Outcome.{Outcome}
use Rattle.run_scripts.specs.declared.faults.Outcome.TheVariants.{Done, BadLine, Options}
use Rattle.run_scripts.specs.declared.faults.ReplayFault.{ReplayFault}
use Rattle.run_scripts.specs.declared.faults.ReplayFault.TheVariants.{Read, Write, Memory}
use Rattle.run_scripts.specs.ReplyText.{bad_line_text, options_text}
use Rattle.glyph_run.specs.declared.commands.GlyphReply.{GlyphReply}
use Rattle.glyph_run.specs.ReplyText.{replies_text}
use Rattle.glyph_run.specs.Runs.{RunKeepsPromisesThroughout, RunsTo}
use Rattle.glyph_run.specs.Script.{Request, script_of}

-- a new cache as the request asks for it may give these replies to its first commands, so many of them
abbrev pub RepliesTo : Request → ℕ → List GlyphReply → Type 0
RepliesTo request count replies =
    RunsTo (atlas_frame request.setup.size request.setup.options) request.setup.capacity
    (take count request.commands) replies

-- in such a run the cache keeps its promises at each moment
abbrev pub RepliesKeepPromises : Request → ℕ → List GlyphReply → Type 0
RepliesKeepPromises request count replies =
    RunKeepsPromisesThroughout (atlas_frame request.setup.size request.setup.options) request.setup.capacity
    (take count request.commands) replies

-- the input spells a request that is accepted, of which so many first commands were run, which kept the promises at each
-- moment, and the text is that of their replies
pub record IsRunOf (input text : List ℕ) : Type 0 where
  pub request : Request
  pub count : ℕ
  pub replies : List GlyphReply
  pub spelled : script_of input ≡ Ok request
  pub accepted : IsAccepted longest_side request.setup.size request.setup.options
  pub within : count ≤ length request.commands
  pub runs : RepliesTo request count replies
  pub promises : RepliesKeepPromises request count replies
  pub text_is : text ≡ replies_text replies

-- all of its commands were
pub record IsWholeRunOf (input text : List ℕ) : Type 0 where
  pub run : IsRunOf input text
  pub all : run.count ≡ length run.request.commands

-- the input spells a request whose options have the fault of this number
pub record HasFault (input : List ℕ) (number : ℕ) (text : List ℕ) : Type 0 where
  pub request : Request
  pub fault : OptionsFault
  pub spelled : script_of input ≡ Ok request
  pub refused : options_fault longest_side request.setup.size request.setup.options ≡ Some fault
  pub number_is : number ≡ options_fault_number fault
  pub text_is : text ≡ options_text number

-- how a replay of an input ends, and its whole text
abbrev pub Answers : List ℕ → Outcome → List ℕ → Type 0
Answers input Done text = IsWholeRunOf input text
Answers input (BadLine number) text = (script_of input ≡ Err number) × (text ≡ bad_line_text number)
Answers input (Options number) text = HasFault input number text

-- the whole text of an outcome, or that of a run of some first commands
abbrev pub IsBegun : List ℕ → List ℕ → Type 0
IsBegun input text = ((outcome : Outcome) × Answers input outcome text) ⊎ IsRunOf input text

-- What a replay appends to what its writer contained, where the input is all that its reader had left, if that is known:
-- the whole text, after a failed write a beginning of it or of the lines of some first commands, and nothing where the
-- reader failed or memory ran out.
abbrev pub Replays : Option (List ℕ) → Option (List ℕ) → Option (List ℕ) → Result Outcome ReplayFault → Type 0
Replays remaining old new (Ok outcome) =
    (input : List ℕ) × (text : List ℕ) × IfSome remaining (λ bytes. input ≡ bytes)
    × Answers input outcome text × Appends old new text
Replays remaining old new (Err Read) = Keeps old new
Replays remaining old new (Err Write) =
    (input : List ℕ) × (text : List ℕ) × IfSome remaining (λ bytes. input ≡ bytes)
    × IsBegun input text × AppendsBeginning old new text
Replays remaining old new (Err Memory) = Keeps old new
