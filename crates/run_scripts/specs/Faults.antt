-- The numbers of faults, and how the programs end after each outcome and fault, and what they say.
use Rattle.std.specs.Prelude.{◌≡◌, ℕ, MatchOption, ⊤, List, ◌++◌, codes, decimal}
use Rattle.etagere_base.specs.declared.faults.OptionsFault.TheVariants as options_faults
use Rattle.etagere_base.specs.declared.geometry.Size.{Size}
use Rattle.etagere_base.specs.declared.options.AllocatorOptions.{AllocatorOptions}
use Rattle.etagere_base.specs.Frames.{IsAccepted, options_fault}
use Rattle.run_scripts.specs.declared.faults.Checked.{Checked}
use Rattle.run_scripts.specs.declared.faults.Checked.TheVariants.{Fine, Broken, Unreadable}
use Rattle.run_scripts.specs.declared.faults.Drawing.{Drawing}
use Rattle.run_scripts.specs.declared.faults.Drawing.TheVariants.{OfScript, OfSnapshot}
use Rattle.run_scripts.specs.declared.faults.Outcome.{Outcome}
use Rattle.run_scripts.specs.declared.faults.Outcome.TheVariants as outcomes
use Rattle.run_scripts.specs.declared.faults.ReplayFault.{ReplayFault}
use Rattle.run_scripts.specs.declared.faults.ReplayFault.TheVariants as replay_faults
use Rattle.run_scripts.specs.declared.faults.RunFault.{RunFault}
use Rattle.run_scripts.specs.declared.faults.RunFault.TheVariants as run_faults
use Rattle.run_scripts.specs.declared.faults.StreamFault.{StreamFault}
use Rattle.run_scripts.specs.declared.faults.StreamFault.TheVariants as stream_faults

-- the number by which a fault of a run is told
abbrev pub run_fault_number : RunFault → ℕ
run_fault_number (run_faults.Options fault) = 1
run_fault_number run_faults.Memory = 2

-- the number by which a fault of a stream is told
abbrev pub stream_fault_number : StreamFault → ℕ
stream_fault_number (stream_faults.Options fault) = 1
stream_fault_number stream_faults.Memory = 2
stream_fault_number stream_faults.Write = 3

-- the number by which a fault of a replay is told
abbrev pub replay_fault_number : ReplayFault → ℕ
replay_fault_number replay_faults.Read = 1
replay_fault_number replay_faults.Write = 2
replay_fault_number replay_faults.Memory = 3

-- the exit status of a program after each outcome
abbrev pub outcome_status : Outcome → ℕ
outcome_status outcomes.Done = 0
outcome_status (outcomes.Options number) = 1
outcome_status (outcomes.BadLine number) = 2

-- what the programs say of an outcome
abbrev pub outcome_words : Outcome → List ℕ
outcome_words outcomes.Done = codes "done"
outcome_words (outcomes.Options number) = codes "options " ++ decimal number
outcome_words (outcomes.BadLine number) = codes "line " ++ decimal number ++ codes ": bad"

-- the exit status of a program after each answer of a check
abbrev pub checked_status : Checked → ℕ
checked_status Fine = 0
checked_status (Broken number) = 1
checked_status Unreadable = 2

-- what a check writes of a snapshot
abbrev pub checked_words : Checked → List ℕ
checked_words Fine = codes "ok"
checked_words (Broken number) = codes "broken " ++ decimal number
checked_words Unreadable = codes "unreadable"

-- the exit status of a program after a drawing
abbrev pub drawing_status : Drawing → ℕ
drawing_status (OfScript outcome) = outcome_status outcome
drawing_status (OfSnapshot checked) = checked_status checked

-- what a program says of a drawing
abbrev pub drawing_words : Drawing → List ℕ
drawing_words (OfScript outcome) = outcome_words outcome
drawing_words (OfSnapshot checked) = checked_words checked

-- the exit status of a program after a fault, whichever it is
abbrev pub fault_status : ReplayFault → ℕ
fault_status fault = 3

-- what the programs say on a fault
abbrev pub fault_words : ReplayFault → List ℕ
fault_words replay_faults.Read = codes "read fault"
fault_words replay_faults.Write = codes "write fault"
fault_words replay_faults.Memory = codes "no memory"

-- why a stream of this size and options may not be whole, where no side may pass the longest: their first fault, or that
-- memory ran out, or where they are accepted that the writer failed
abbrev pub RefusesStream : ℕ → Size → AllocatorOptions → StreamFault → Type 0
RefusesStream longest size options (stream_faults.Options fault) =
    MatchOption (options_fault longest size options) (fault ≡ options_faults.Memory) (λ first. fault ≡ first)
RefusesStream longest size options stream_faults.Memory = ⊤
RefusesStream longest size options stream_faults.Write = IsAccepted longest size options
