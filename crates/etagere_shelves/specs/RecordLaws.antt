-- Laws of records: what they stand for.
use Rattle.std.specs.Prelude.{◌≡◌, IfErr, Result}
use Rattle.etagere_base.specs.declared.faults.RestoreFault.{RestoreFault}
use Rattle.etagere_base.specs.declared.faults.RestoreFault.TheVariants.{Memory}
use Rattle.shelf_records.specs.AtlasRecords.{AtlasRecords}
use Rattle.shelf_records.specs.Snapshots.{IsBroken}
use Rattle.shelf_records.specs.StandsFor.{StandsFor}
use Rattle.shelf_model.specs.State.{AtlasState}

-- two states that the same records stand for are one
abbrev pub StandsForOne : Type 0
StandsForOne =
    (atlas : AtlasRecords) (state other : AtlasState) → StandsFor atlas state
    → StandsFor atlas other → state ≡ other

-- records of which a rule is broken stand for no state
abbrev pub BrokenStandsForNone : Type 0
BrokenStandsForNone =
    (atlas : AtlasRecords) (state : AtlasState) (fault : RestoreFault) → IsBroken atlas fault
    → StandsFor atlas state → fault ≡ Memory

-- where records stand for a state, an answer that names a rule that they break says that memory ran out
abbrev pub OnlyMemoryIsWanting : Type 0
OnlyMemoryIsWanting =
    (atlas : AtlasRecords) (state : AtlasState) (answer : Result AtlasState RestoreFault) → StandsFor atlas state
    → IfErr answer (IsBroken atlas) → IfErr answer (λ fault. fault ≡ Memory)
