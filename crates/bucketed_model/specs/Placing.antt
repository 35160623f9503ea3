-- Where a size goes: into a bucket that is there, an added shelf, or merged ones.
use Rattle.std.specs.Prelude.{◌≡◌, ℕ, Option, None, Some, option_map, option_and_then, List, if◌then◌else◌}
use Rattle.etagere_base.specs.declared.frames.Frame.{Frame}
use Rattle.etagere_base.specs.declared.geometry.Size.{Size}
use Rattle.etagere_base.specs.declared.sides.Sides.{Sides}
use Rattle.etagere_base.specs.Frames.{asked}
use Rattle.bucketed_model.specs.Adding.{NewShelf, can_add, new_shelves, left_to}
use Rattle.bucketed_model.specs.Merging.{Group, mergeable_shelves}
use Rattle.bucketed_model.specs.Picking.{Spot, or_else, pick}
use Rattle.bucketed_model.specs.State.{BucketShelf, BucketedState}

-- where an item goes: into a bucket that is there, or into the first bucket of a shelf that is
-- added or merged
pub data Destination : Type 0 where
  InBucket : (spot : Spot) → Destination
  InAdded : (news : List NewShelf) → Destination
  InMerged : (group : Group) → Destination

-- where a size goes, and the width that it takes
pub record BucketPlacement : Type 0 where
  pub width : ℕ
  pub destination : Destination

-- the destination of these sides: the bucket that is picked, else a shelf to be added, else shelves to
-- be merged
abbrev pub destination_of : Frame → List BucketShelf → Sides → Option Destination
destination_of frame shelves sides =
    let adds = can_add frame (left_to frame shelves) sides.across in
    or_else
    (option_map InBucket (pick adds sides shelves))
    (if adds then Some (InAdded (new_shelves frame (left_to frame shelves) sides))
    else option_map InMerged (mergeable_shelves sides 0 shelves))

-- where a size goes in a state
abbrev pub placement_of : BucketedState → Size → Option BucketPlacement
placement_of state size =
    option_and_then
    (λ sides. option_map
    (λ destination. record { width = sides.along; destination = destination })
    (destination_of state.frame state.shelves sides))
    (asked state.frame size)

-- the size goes nowhere
abbrev pub IsBucketRefused : BucketedState → Size → Type 0
IsBucketRefused state size = placement_of state size ≡ None
