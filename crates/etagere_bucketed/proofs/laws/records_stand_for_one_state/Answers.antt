use Rattle.std.proofs.Common.{◌≡◌, sym, ◌∙◌}
use Rattle.std.proofs.lemmas.Result.{IfErr-weaker}
use Rattle.etagere_base.specs.declared.faults.RestoreFault.TheVariants as faults
use Rattle.bucketed_records.specs.Restoring.{Breaks}
use Rattle.etagere_bucketed.proofs.Broken.{broken-stands}
use Rattle.etagere_bucketed.proofs.laws.records_stand_for_one_state.Goals as goal

-- each is the state that the records spell
pub returns-clause-one : goal.returns-clause-one
returns-clause-one c = λ atlas state other stands also. stands.spelled ∙ sym also.spelled

pub returns-clause-none : goal.returns-clause-none
returns-clause-none c = broken-stands

pub returns-clause-memory : goal.returns-clause-memory
returns-clause-memory c = λ atlas state answer stands.
    IfErr-weaker answer (Breaks atlas) (λ fault. fault ≡ faults.Memory)
    (λ fault broken. broken-stands atlas state fault broken stands)
