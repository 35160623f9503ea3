-- What each state that an atlas comes to keeps.
use Rattle.shelf_model.specs.Atlas.{KeepsPromises}
use Rattle.shelf_model.specs.State.{AtlasState}
use Rattle.shelf_model.specs.Valid.{IsValid}
use Rattle.shelf_model.proofs.Allocations.ItemBound.{items-bounded}
use Rattle.shelf_model.proofs.Allocations.RecordNumbers.{ids-once}
use Rattle.shelf_model.proofs.Places.Aligned.{allocated-aligned}
use Rattle.shelf_model.proofs.Allocations.AllocatedNothing.{nothing_allocated-fresh}
use Rattle.shelf_model.proofs.Places.Tiling.{allocated-apart, allocated-inside}

-- a valid state keeps its promises
pub promises : (state : AtlasState) → IsValid state → KeepsPromises state
promises state valid = record {
  valid = valid;
  ids = ids-once state valid;
  numbers = valid.numbers;
  below = valid.below;
  inside = allocated-inside state valid;
  aligned = allocated-aligned state valid;
  apart = allocated-apart state valid;
  few = items-bounded state valid;
  empty = nothing_allocated-fresh state valid;
}
