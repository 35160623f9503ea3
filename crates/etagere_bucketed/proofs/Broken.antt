-- Records of which a rule is broken stand for no state.
use Rattle.std.proofs.Common.{◌≡◌, refl}
use Rattle.etagere_base.specs.declared.faults.RestoreFault.{RestoreFault}
use Rattle.etagere_base.specs.declared.faults.RestoreFault.TheVariants.{Frame, Counts, Link, Shelves, Runs, Neighbours, FreeList, Sharing, Unused, Space, Memory}
use Rattle.bucketed_model.specs.State.{BucketedState}
use Rattle.bucketed_records.specs.BucketRecords.{BucketRecords}
use Rattle.bucketed_records.specs.Restoring.{Breaks}
use Rattle.bucketed_records.specs.StandsFor.{StandsFor}

pub broken-stands : (atlas : BucketRecords) (state : BucketedState) (fault : RestoreFault) → Breaks atlas fault → StandsFor atlas state → fault ≡ Memory
broken-stands atlas state Frame h stands = absurd (h (stands.keeps Frame))
broken-stands atlas state Counts h stands = absurd (h (stands.keeps Counts))
broken-stands atlas state Link h stands = absurd (h (stands.keeps Link))
broken-stands atlas state Shelves h stands = absurd (h (stands.keeps Shelves))
broken-stands atlas state Runs h stands = absurd (h (stands.keeps Runs))
broken-stands atlas state Neighbours h stands = absurd (h (stands.keeps Neighbours))
broken-stands atlas state FreeList h stands = absurd (h (stands.keeps FreeList))
broken-stands atlas state Sharing h stands = absurd (h (stands.keeps Sharing))
broken-stands atlas state Unused h stands = absurd (h (stands.keeps Unused))
broken-stands atlas state Space h stands = absurd (h (stands.keeps Space))
broken-stands atlas state Memory h stands = refl
