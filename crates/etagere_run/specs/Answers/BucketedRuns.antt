-- Runs on a bucketed atlas: its steps, and what it promises at each moment.
use Rattle.std.specs.Prelude.{◌≡◌, ℕ, ◌≤◌, true, Some, None, List, []}
use Rattle.etagere_base.specs.declared.frames.Frame.{Frame}
use Rattle.etagere_base.specs.declared.geometry.Size.{Size}
use Rattle.etagere_base.specs.declared.ids.Allocation.{Allocation}
use Rattle.std.specs.List.{AllByRecursion}
use Rattle.etagere_base.specs.Rectangles.{IsAligned, IsLarge}
use Rattle.bucketed_model.specs.Atlas.{Allocates, Grows, NeedsBuckets, NeedsShelf}
use Rattle.bucketed_model.specs.declared.faults.GrowFault.{GrowFault}
use Rattle.bucketed_model.specs.Faults.{grow_fault_number}
use Rattle.bucketed_model.specs.Growing.{grow_fault}
use Rattle.bucketed_model.specs.Placing.{IsBucketRefused}
use Rattle.bucketed_model.specs.Returning.{bucket_returned, is_known}
use Rattle.bucketed_model.specs.State.{Bucket, BucketShelf, BucketedState, buckets_in_use, fresh, most_buckets}
use Rattle.bucketed_model.specs.Tied.{AreTied, entries_of}
use Rattle.bucketed_model.specs.Valid.{IsValid}
use Rattle.run_scripts.specs.declared.commands.BucketedCommand.{BucketedCommand}
use Rattle.run_scripts.specs.declared.commands.BucketedCommand.TheVariants.{Allocate, Return, Grow, Clear}
use Rattle.run_scripts.specs.declared.commands.Reply.{Reply}
use Rattle.run_scripts.specs.declared.commands.Reply.TheVariants.{Placed, Refused, Returned, NotLive, Cleared, Grown, GrowRefused, NoMemory}
use Rattle.etagere_run.specs.Answers.Live.{Effect, Adds, TakesOut, Empties, Keeps, Entry, allocation_at}
use Rattle.etagere_run.specs.Answers.Runs.{AreLaidOut, GivesBack, Kind}

-- what a command and its reply do to what is live
abbrev pub bucketed_effect : BucketedCommand → Reply → Effect
bucketed_effect command (Placed allocation) = Adds allocation
bucketed_effect (Return position) Returned = TakesOut position
bucketed_effect command Cleared = Empties
bucketed_effect command reply = Keeps

-- a size got its place in a bucket, and what it was given is large enough
pub record PlacesInBucket (old : BucketedState) (size : Size) (allocation : Allocation)
    (new : BucketedState) : Type 0 where
  pub allocates : Allocates old size allocation new
  pub valid : IsValid new
  pub large : IsLarge old.frame size allocation.rectangle

-- a grow to a size has a fault of this number
pub record RefusesGrow (frame : Frame) (size : Size) (number : ℕ) : Type 0 where
  pub fault : GrowFault
  pub fault_is : grow_fault frame size ≡ Some fault
  pub number_is : number ≡ grow_fault_number fault

-- where these entries are live, an atlas may give this reply to a command and go from its old state
-- to the new one
abbrev pub BucketedStep : List Entry → BucketedState → BucketedCommand → Reply → BucketedState
    → Type 0
BucketedStep entries old (Allocate size) (Placed allocation) new =
    PlacesInBucket old size allocation new
BucketedStep entries old (Allocate size) Refused new = IsBucketRefused old size × (new ≡ old)
BucketedStep entries old (Allocate size) NoMemory new = NeedsShelf old size × (new ≡ old)
BucketedStep entries old (Return position) Returned new =
    GivesBack bucket_returned entries old position new
BucketedStep entries old (Return position) NotLive new =
    (allocation_at position entries ≡ None) × (new ≡ old)
BucketedStep entries old (Grow size) Grown new = Grows old size new
BucketedStep entries old (Grow size) (GrowRefused number) new =
    RefusesGrow old.frame size number × (new ≡ old)
BucketedStep entries old (Grow size) NoMemory new = NeedsBuckets old size × (new ≡ old)
BucketedStep entries old Clear Cleared new = new ≡ fresh old.frame
-- no other reply is given
BucketedStep entries old command reply new = ⊥

-- what holds of the rectangles that are live, as they were first given: they lie inside the present
-- atlas, aligned, and share no unit square, and their ids differ and are known; each bucket counts
-- as many as have its tag, and holds them in what it has used, in the order in which they were
-- given; where none is live, the atlas is a new one of its present frame
pub record BucketedLiveKeepsPromises (state : BucketedState) (live : List Allocation) : Type 0 where
  pub laid_out : AreLaidOut state.frame live
  pub aligned : AllByRecursion (λ (allocation : Allocation). IsAligned state.frame allocation.rectangle) live
  pub known : AllByRecursion (λ (allocation : Allocation). is_known state allocation.id ≡ true) live
  pub counts : AllByRecursion
      (λ (shelf : BucketShelf).
      AllByRecursion (λ (bucket : Bucket). entries_of bucket.tag live ≡ bucket.live) shelf.buckets)
      state.shelves
  pub tied : AreTied live state
  pub empty : live ≡ [] → state ≡ fresh state.frame

-- runs on a bucketed atlas, which has at most 4095 buckets whatever was live
abbrev pub bucketed_atlas : Kind BucketedState BucketedCommand
bucketed_atlas = record {
  fresh = fresh;
  frame = λ state. state.frame;
  allocate = Allocate;
  effect = bucketed_effect;
  Step = BucketedStep;
  LiveKeepsPromises = BucketedLiveKeepsPromises;
  StaysWithin = λ most state live last. buckets_in_use state.shelves ≤ most_buckets;
}
