-- What a check writes for what it reads.
use Rattle.std.specs.Prelude.{ℕ, List, [], ◌∷◌, ◌++◌, Option, Result, Ok, Err}
use Rattle.std.specs.Io.KnownBytes.{Appends, Keeps}
use Rattle.pictures.specs.Sending.{AppendsBeginning}
use Rattle.run_scripts.specs.declared.faults.Checked.{Checked}
use Rattle.run_scripts.specs.declared.faults.ReplayFault.{ReplayFault}
use Rattle.run_scripts.specs.declared.faults.ReplayFault.TheVariants.{Read, Write, Memory}
use Rattle.etagere_run.specs.Drawing.{OfInput}
use Rattle.run_scripts.specs.Faults.{checked_words}
use Rattle.run_scripts.specs.Lines.{line_feed}
use Rattle.etagere_run.specs.Saved.{MayAnswer}

-- the line of an answer
abbrev pub checked_line : Checked → List ℕ
checked_line checked = checked_words checked ++ line_feed ∷ []

-- What a check appends to what its writer contained: the line of its answer, after a failed write a
-- beginning of that line, and nothing where the reader failed or memory ran out.
abbrev pub Checks : Option (List ℕ) → Option (List ℕ) → Option (List ℕ)
    → Result Checked ReplayFault → Type 0
Checks remaining old new (Ok checked) =
    OfInput remaining (MayAnswer checked) × Appends old new (checked_line checked)
Checks remaining old new (Err Read) = Keeps old new
Checks remaining old new (Err Write) =
    (checked : Checked) × OfInput remaining (MayAnswer checked)
    × AppendsBeginning old new (checked_line checked)
Checks remaining old new (Err Memory) = Keeps old new
