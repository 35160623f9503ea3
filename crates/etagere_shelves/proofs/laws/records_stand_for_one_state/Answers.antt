use Rattle.std.proofs.Common.{◌≡◌, subst, sym, ◌∙◌}
use Rattle.std.proofs.lemmas.Result.{IfErr-weaker}
use Rattle.etagere_base.specs.declared.faults.RestoreFault.TheVariants as faults
use Rattle.shelf_records.specs.Snapshots.{IsBroken}
use Rattle.shelf_records.specs.StandsFor.{StandsFor}
use Rattle.shelf_restoring.proofs.Loaded.WalksRestore.{stands-whole}
use Rattle.etagere_shelves.specs.RecordLaws.{BrokenStandsForNone}
use Rattle.etagere_shelves.proofs.laws.records_stand_for_one_state.Goals as goal

-- each is the state that the walks spell
pub returns-clause-one : goal.returns-clause-one
returns-clause-one c = λ atlas state other stands also. stands.spelled ∙ sym also.spelled

broken-for-none : BrokenStandsForNone
broken-for-none = λ atlas state fault broken stands. stands-whole atlas (subst (StandsFor atlas) stands.spelled stands) fault broken

pub returns-clause-none : goal.returns-clause-none
returns-clause-none c = broken-for-none

pub returns-clause-memory : goal.returns-clause-memory
returns-clause-memory c = λ atlas state answer stands.
    IfErr-weaker answer (IsBroken atlas) (λ fault. fault ≡ faults.Memory)
    (λ fault broken. broken-for-none atlas state fault broken stands)
