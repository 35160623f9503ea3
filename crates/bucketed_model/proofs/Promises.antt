-- What each valid state keeps, and what a ledger that is tied to one has.
use Rattle.std.proofs.Common.{List, subst}
use Rattle.etagere_base.specs.declared.ids.Allocation.{Allocation}
use Rattle.bucketed_model.specs.Atlas.{KeepsPromises}
use Rattle.bucketed_model.specs.Laws.{TiedIsSafe}
use Rattle.bucketed_model.specs.State.{BucketedState}
use Rattle.bucketed_model.specs.Tied.{AreTied}
use Rattle.bucketed_model.specs.Valid.{IsValid}
use Rattle.bucketed_model.proofs.Shelving.Ends.{idle-fresh}
use Rattle.bucketed_model.proofs.Ledger.EntriesApart.{tied-apart, tied-inside}
use Rattle.bucketed_model.proofs.Spacing.SpacesBounded.{space-area, space-none}
use Rattle.bucketed_model.proofs.Ledger.TiedLaws.{tied-each, tied-empty, tied-ids, tied-known}

-- a valid state keeps its promises
pub valid-promises : (state : BucketedState) → IsValid state → KeepsPromises state
valid-promises state valid =
    record { valid = valid; space = space-area state valid; none = space-none state valid; empty = idle-fresh state valid }

-- a tied ledger is safe
pub tied-safe : (entries : List Allocation) (state : BucketedState) → AreTied entries state → TiedIsSafe entries state
tied-safe entries state tied =
    record {
      inside = tied-inside entries state tied;
      apart = tied-apart entries state tied;
      ids = tied-ids entries state tied;
      known = tied-known entries state tied;
      counts = tied-each entries state tied;
      empty = λ h. tied-empty state (subst (λ (es : List Allocation). AreTied es state) h tied);
    }
