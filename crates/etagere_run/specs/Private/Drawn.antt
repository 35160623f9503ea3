-- What drawing did, of which the contracts of private functions speak.
use Rattle.std.specs.Prelude.{ℕ, List, Option, Result, Ok, Err}
use Rattle.std.specs.Io.KnownBytes.{Appends, Keeps}
use Rattle.pictures.specs.Sending.{AppendsBeginning}
use Rattle.etagere_run.specs.declared.drawing.DrawFault.{DrawFault}
use Rattle.etagere_run.specs.declared.drawing.DrawFault.TheVariants as ends
use Rattle.run_scripts.specs.declared.faults.Checked.{Checked}
use Rattle.run_scripts.specs.declared.faults.Checked.TheVariants.{Fine}
use Rattle.run_scripts.specs.declared.faults.Drawing.{Drawing}
use Rattle.run_scripts.specs.declared.faults.Outcome.{Outcome}
use Rattle.run_scripts.specs.declared.faults.ReplayFault.{ReplayFault}
use Rattle.run_scripts.specs.declared.faults.ReplayFault.TheVariants.{Read, Write, Memory}
use Rattle.etagere_run.specs.Drawing.{BeginsDrawing, BeginsScript, BeginsSnapshot, EndsDrawing, EndsScript, EndsSnapshot, IsPictureOf}
use Rattle.etagere_run.specs.Replaying.{longest_asked}
use Rattle.etagere_run.specs.Answers.Runs.{RefusesRun}
use Rattle.etagere_run.specs.Saved.{IsRightOf, ShowsSaved}
use Rattle.run_scripts.specs.Script.{Request}
use Rattle.saved_json.specs.declared.saved.Saved.{Saved}

-- drawing an input that was read
abbrev pub DrawsInput : List ℕ → Option (List ℕ) → Option (List ℕ) → Result Drawing ReplayFault → Type 0
DrawsInput input old new (Ok drawing) = EndsDrawing input old new drawing
DrawsInput input old new (Err Read) = ⊥
DrawsInput input old new (Err Write) = BeginsDrawing input old new
DrawsInput input old new (Err Memory) = Keeps old new

-- drawing a script that was read
abbrev pub DrawsScript : List ℕ → Option (List ℕ) → Option (List ℕ) → Result Outcome ReplayFault → Type 0
DrawsScript input old new (Ok outcome) = EndsScript input old new outcome
DrawsScript input old new (Err Read) = ⊥
DrawsScript input old new (Err Write) = BeginsScript input old new
DrawsScript input old new (Err Memory) = Keeps old new

-- drawing the text of a snapshot that was read
abbrev pub DrawsSnapshot : List ℕ → Option (List ℕ) → Option (List ℕ) → Result Checked ReplayFault → Type 0
DrawsSnapshot input old new (Ok checked) = EndsSnapshot input old new checked
DrawsSnapshot input old new (Err Read) = ⊥
DrawsSnapshot input old new (Err Write) = BeginsSnapshot input old new
DrawsSnapshot input old new (Err Memory) = Keeps old new

-- drawing a snapshot
abbrev pub DrawsSaved : Saved → Option (List ℕ) → Option (List ℕ) → Result Checked ReplayFault → Type 0
DrawsSaved saved old new (Ok Fine) = (text : List ℕ) × ShowsSaved saved text × Appends old new text
DrawsSaved saved old new (Ok checked) = IsRightOf checked saved × Keeps old new
DrawsSaved saved old new (Err Read) = ⊥
DrawsSaved saved old new (Err Write) = (text : List ℕ) × ShowsSaved saved text × AppendsBeginning old new text
DrawsSaved saved old new (Err Memory) = Keeps old new

-- drawing what a request leaves
abbrev pub DrawsEnd : Request → Option (List ℕ) → Option (List ℕ) → {A : Type 0} → Result A DrawFault → Type 0
DrawsEnd request old new (Ok done) = (text : List ℕ) × IsPictureOf request text × Appends old new text
DrawsEnd request old new (Err (ends.Run fault)) =
    RefusesRun (longest_asked request.commands) request.size request.options fault × Keeps old new
DrawsEnd request old new (Err ends.Write) = (text : List ℕ) × IsPictureOf request text × AppendsBeginning old new text
