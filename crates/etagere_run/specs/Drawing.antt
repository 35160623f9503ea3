-- What drawing writes: the picture of what is there at a script's end, or of what a snapshot stands for.
use Rattle.std.specs.Prelude.{◌≡◌, ◌==◌, ◌⊎◌, ℕ, Bool, true, false, List, [], ◌∷◌, Option, Result, Ok, Err, IfSome}
use Rattle.std.specs.Io.KnownBytes.{Appends, Keeps}
use Rattle.etagere_base.specs.declared.frames.Frame.{Frame}
use Rattle.etagere_base.specs.declared.geometry.Size.{Size}
use Rattle.etagere_base.specs.declared.options.AllocatorOptions.{AllocatorOptions}
use Rattle.etagere_base.specs.Frames.{IsAccepted, atlas_frame}
use Rattle.pictures.specs.Sending.{AppendsBeginning}
use Rattle.bucketed_model.specs.Frames.{bucketed_frame}
use Rattle.bucketed_model.specs.Svg as buckets
use Rattle.shelf_model.specs.Svg as shelves
use Rattle.run_scripts.specs.declared.faults.Checked.{Checked}
use Rattle.run_scripts.specs.declared.faults.Checked.TheVariants.{Fine}
use Rattle.run_scripts.specs.declared.faults.Drawing.{Drawing}
use Rattle.run_scripts.specs.declared.faults.Drawing.TheVariants.{OfScript, OfSnapshot}
use Rattle.run_scripts.specs.declared.faults.Outcome.{Outcome}
use Rattle.run_scripts.specs.declared.faults.Outcome.TheVariants.{Done, BadLine, Options}
use Rattle.run_scripts.specs.declared.faults.ReplayFault.{ReplayFault}
use Rattle.run_scripts.specs.declared.faults.ReplayFault.TheVariants.{Read, Write, Memory}
use Rattle.etagere_run.specs.Answers.AtlasRuns.{shelf_atlas}
use Rattle.etagere_run.specs.Answers.BucketedRuns.{bucketed_atlas}
use Rattle.etagere_run.specs.Replaying.{HasFault, longest_asked}
use Rattle.run_scripts.specs.ReplyText.{options_text}
use Rattle.etagere_run.specs.Answers.Leading.{LeadsTo}
use Rattle.etagere_run.specs.Answers.Runs.{Kind}
use Rattle.etagere_run.specs.Saved.{MayAnswer, ShowsSaved}
use Rattle.run_scripts.specs.Script.{Commands, OfBuckets, OfShelves, Request, script_of}
use Rattle.saved_json.specs.declared.saved.Saved.{Saved}
use Rattle.saved_json.specs.Snapshots.{Spells}

-- the text is the picture of a state to which the commands may lead a new one of this frame
pub record ShowsLast {S C : Type 0} (kind : Kind S C) (picture : S → List ℕ) (frame : Frame) (commands : List C)
    (text : List ℕ) : Type 0 where
  pub last : S
  pub led : LeadsTo kind frame commands last
  pub text_is : text ≡ picture last

-- the text is the picture of an atlas of this size and options, as the commands may leave it
abbrev pub ShowsEnd : Size → AllocatorOptions → Commands → List ℕ → Type 0
ShowsEnd size options (OfShelves commands) = ShowsLast shelf_atlas shelves.svg (atlas_frame size options) commands
ShowsEnd size options (OfBuckets commands) = ShowsLast bucketed_atlas buckets.svg (bucketed_frame size options) commands

-- the text is the picture of what an accepted request may leave
pub record IsPictureOf (request : Request) (text : List ℕ) : Type 0 where
  pub accepted : IsAccepted (longest_asked request.commands) request.size request.options
  pub shown : ShowsEnd request.size request.options request.commands text

-- the input is read as a snapshot: its first byte is `{`
abbrev pub is_snapshot : List ℕ → Bool
is_snapshot [] = false
is_snapshot (byte ∷ bytes) = byte == 123

-- the input spells a request, and the text is its picture
pub record IsDrawingOf (input text : List ℕ) : Type 0 where
  pub request : Request
  pub spelled : script_of input ≡ Ok request
  pub picture : IsPictureOf request text

-- the text is the picture of a state for which the snapshot stands that the input spells
abbrev pub IsSavedDrawingOf : List ℕ → List ℕ → Type 0
IsSavedDrawingOf input text = (saved : Saved) × Spells input saved × ShowsSaved saved text

-- what drawing a script did to what its writer contained where it ended so: a picture went out, or nothing
abbrev pub EndsScript : List ℕ → Option (List ℕ) → Option (List ℕ) → Outcome → Type 0
EndsScript input old new Done = (text : List ℕ) × IsDrawingOf input text × Appends old new text
EndsScript input old new (BadLine number) = (script_of input ≡ Err number) × Keeps old new
EndsScript input old new (Options number) = HasFault input number (options_text number) × Keeps old new

-- the same of a snapshot
abbrev pub EndsSnapshot : List ℕ → Option (List ℕ) → Option (List ℕ) → Checked → Type 0
EndsSnapshot input old new Fine = (text : List ℕ) × IsSavedDrawingOf input text × Appends old new text
EndsSnapshot input old new checked = MayAnswer checked input × Keeps old new

-- what drawing an input did, which its first byte tells to be a script or a snapshot
abbrev pub EndsDrawing : List ℕ → Option (List ℕ) → Option (List ℕ) → Drawing → Type 0
EndsDrawing input old new (OfScript outcome) = (is_snapshot input ≡ false) × EndsScript input old new outcome
EndsDrawing input old new (OfSnapshot checked) = (is_snapshot input ≡ true) × EndsSnapshot input old new checked

-- a beginning of the picture of a script went out
abbrev pub BeginsScript : List ℕ → Option (List ℕ) → Option (List ℕ) → Type 0
BeginsScript input old new = (text : List ℕ) × IsDrawingOf input text × AppendsBeginning old new text

-- a beginning of the picture of a snapshot went out
abbrev pub BeginsSnapshot : List ℕ → Option (List ℕ) → Option (List ℕ) → Type 0
BeginsSnapshot input old new = (text : List ℕ) × IsSavedDrawingOf input text × AppendsBeginning old new text

-- a beginning of what the input draws went out
abbrev pub BeginsDrawing : List ℕ → Option (List ℕ) → Option (List ℕ) → Type 0
BeginsDrawing input old new =
    ((is_snapshot input ≡ false) × BeginsScript input old new)
    ⊎ ((is_snapshot input ≡ true) × BeginsSnapshot input old new)

-- a fact of an input that is all that a reader had left, where that is known
abbrev pub OfInput : Option (List ℕ) → (List ℕ → Type 0) → Type 0
OfInput remaining P = (input : List ℕ) × IfSome remaining (λ bytes. input ≡ bytes) × P input

-- What drawing does to what its writer contained: a picture is appended, after a failed write a beginning of one,
-- and nothing where the script isn't good, its options have a fault, the snapshot is unreadable or breaks a rule, the
-- reader failed or memory ran out.
abbrev pub Draws : Option (List ℕ) → Option (List ℕ) → Option (List ℕ) → Result Drawing ReplayFault → Type 0
Draws remaining old new (Ok drawing) = OfInput remaining (λ input. EndsDrawing input old new drawing)
Draws remaining old new (Err Read) = Keeps old new
Draws remaining old new (Err Write) = OfInput remaining (λ input. BeginsDrawing input old new)
Draws remaining old new (Err Memory) = Keeps old new
