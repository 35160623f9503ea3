-- An answer that is right of a saved atlas may be given to the text that spells it.
use Rattle.std.proofs.Common.{ℕ, List, Result, Ok, Err}
use Rattle.std.specs.Prelude.{IfOk}
use Rattle.run_scripts.specs.declared.faults.Checked.{Checked}
use Rattle.run_scripts.specs.declared.faults.Checked.TheVariants.{Fine, Broken, Unreadable}
use Rattle.run_scripts.specs.declared.faults.ReplayFault.{ReplayFault}
use Rattle.etagere_run.specs.Saved.{IsRightOf, MayAnswer}
use Rattle.saved_json.specs.declared.saved.Saved.{Saved}
use Rattle.saved_json.specs.Snapshots.{Spells}

pub right-answers : (answer : Result Checked ReplayFault) (saved : Saved) (input : List ℕ) → Spells input saved
    → IfOk answer (λ checked. IsRightOf checked saved) → IfOk answer (λ checked. MayAnswer checked input)
right-answers (Ok Fine) saved input spelled right = (saved, spelled, right)
right-answers (Ok (Broken number)) saved input spelled right = (saved, spelled, right)
right-answers (Ok Unreadable) saved input spelled right = tt
right-answers (Err fault) saved input spelled right = tt
