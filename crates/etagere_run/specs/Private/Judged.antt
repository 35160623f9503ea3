-- What is answered where restoring a snapshot was refused.
use Rattle.std.specs.Prelude.{Result, Ok, Err}
use Rattle.etagere_base.specs.declared.faults.RestoreFault.{RestoreFault}
use Rattle.etagere_base.specs.declared.faults.RestoreFault.TheVariants as rules
use Rattle.etagere_base.specs.RestoreFaults.{restore_fault_number}
use Rattle.run_scripts.specs.declared.faults.Checked.{Checked}
use Rattle.run_scripts.specs.declared.faults.Checked.TheVariants.{Broken}
use Rattle.run_scripts.specs.declared.faults.ReplayFault.{ReplayFault}
use Rattle.run_scripts.specs.declared.faults.ReplayFault.TheVariants.{Memory}

-- the number of the rule that is broken; missing memory breaks none
abbrev pub refusal : RestoreFault → Result Checked ReplayFault
refusal rules.Memory = Err Memory
refusal fault = Ok (Broken (restore_fault_number fault))
