-- Laws of records, proved of all of them: they stand for one state at most, and where a rule is broken for none.
use Rattle.std.specs.Prelude.{◌≡◌, IfErr, Result}
use Rattle.etagere_base.specs.declared.faults.RestoreFault.{RestoreFault}
use Rattle.etagere_base.specs.declared.faults.RestoreFault.TheVariants.{Memory}
use Rattle.bucketed_model.specs.State.{BucketedState}
use Rattle.bucketed_records.specs.BucketRecords.{BucketRecords}
use Rattle.bucketed_records.specs.StandsFor.{StandsFor}
use Rattle.bucketed_records.specs.Restoring.{Breaks}

-- two states that the same records stand for are one
abbrev pub StandsForOne : Type 0
StandsForOne =
    (atlas : BucketRecords) (state other : BucketedState) → StandsFor atlas state
    → StandsFor atlas other → state ≡ other

-- records of which a rule is broken stand for no state
abbrev pub BrokenStandsForNone : Type 0
BrokenStandsForNone =
    (atlas : BucketRecords) (state : BucketedState) (fault : RestoreFault) → Breaks atlas fault → StandsFor atlas state
    → fault ≡ Memory

-- where records stand for a state, an answer that names a rule that they break says that memory ran out
abbrev pub OnlyMemoryIsWanting : Type 0
OnlyMemoryIsWanting =
    (atlas : BucketRecords) (state : BucketedState) (answer : Result BucketedState RestoreFault) → StandsFor atlas state
    → IfErr answer (Breaks atlas) → IfErr answer (λ fault. fault ≡ Memory)
