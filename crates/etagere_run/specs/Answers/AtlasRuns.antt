-- Runs on a shelf atlas: its steps, and what it promises at each moment.
use Rattle.std.specs.Prelude.{◌≡◌, ℕ, ◌%◌, ◌<◌, ◌≤◌, Option, Some, None, List, []}
use Rattle.etagere_base.specs.declared.geometry.Rectangle.{Rectangle}
use Rattle.etagere_base.specs.declared.geometry.Size.{Size}
use Rattle.etagere_base.specs.declared.ids.Allocation.{Allocation}
use Rattle.etagere_base.specs.Ids.{index_modulus}
use Rattle.std.specs.List.{AllByRecursion}
use Rattle.etagere_base.specs.Rectangles.{IsAligned, IsLarge}
use Rattle.shelf_model.specs.Atlas.{Allocates, NeedsSplit}
use Rattle.shelf_model.specs.Bounds.{record_bound}
use Rattle.shelf_model.specs.Choice.{IsRefused}
use Rattle.shelf_model.specs.declared.faults.AtlasGrowFault.{AtlasGrowFault}
use Rattle.shelf_model.specs.Faults.{grow_fault_number}
use Rattle.shelf_model.specs.Fresh.{fresh, without_peak_items}
use Rattle.shelf_model.specs.Growing.{atlas_grown, grow_fault, records_needed}
use Rattle.shelf_model.specs.Places.{record_number, rectangle_of}
use Rattle.shelf_model.specs.Returning.{returned}
use Rattle.shelf_model.specs.State.{AtlasState}
use Rattle.shelf_model.specs.Valid.{IsValid}
use Rattle.run_scripts.specs.declared.commands.AtlasCommand.{AtlasCommand}
use Rattle.run_scripts.specs.declared.commands.AtlasCommand.TheVariants.{Allocate, Return, Look, Grow, Clear}
use Rattle.run_scripts.specs.declared.commands.Reply.{Reply}
use Rattle.run_scripts.specs.declared.commands.Reply.TheVariants.{Placed, Refused, Returned, At, NotLive, Cleared, Grown, GrowRefused, NoMemory}
use Rattle.etagere_run.specs.Answers.Live.{Effect, Adds, TakesOut, Empties, Keeps, Entry, allocation_at}
use Rattle.etagere_run.specs.Answers.Runs.{AreLaidOut, GivesBack, Kind}

-- what a command and its reply do to what is live
abbrev pub atlas_effect : AtlasCommand → Reply → Effect
atlas_effect command (Placed allocation) = Adds allocation
atlas_effect (Return position) Returned = TakesOut position
atlas_effect command Cleared = Empties
atlas_effect command reply = Keeps

-- a size got its place: what was allocated is where it was given, and large enough
pub record Places (old : AtlasState) (size : Size) (allocation : Allocation) (new : AtlasState)
    : Type 0 where
  pub allocates : Allocates old size allocation new
  pub valid : IsValid new
  pub rectangle : rectangle_of new allocation.id ≡ Some allocation.rectangle
  pub large : IsLarge old.frame size allocation.rectangle

-- an allocation that is live is shown: its rectangle, as it was given, and its index
pub record Shows (entries : List Entry) (position : ℕ) (rectangle : Rectangle) (index : ℕ)
    : Type 0 where
  pub allocation : Allocation
  pub live_is : allocation_at position entries ≡ Some allocation
  pub rectangle_is : rectangle ≡ allocation.rectangle
  pub index_is : index ≡ allocation.id % index_modulus

-- a grow to a size leads from one state to the next: it has no fault, and no column is lost
pub record Grows (old : AtlasState) (size : Size) (new : AtlasState) : Type 0 where
  pub fits : grow_fault old size ≡ None
  pub after : new ≡ atlas_grown old size
  pub valid : IsValid new
  pub columns : old.frame.columns ≤ new.frame.columns

-- a grow to a size has a fault of this number
pub record RefusesGrow (state : AtlasState) (size : Size) (number : ℕ) : Type 0 where
  pub fault : AtlasGrowFault
  pub fault_is : grow_fault state size ≡ Some fault
  pub number_is : number ≡ grow_fault_number fault

-- a grow to a size has no fault, but needs records
pub record NeedsRecords (state : AtlasState) (size : Size) : Type 0 where
  pub fits : grow_fault state size ≡ None
  pub some : 1 ≤ records_needed state size

-- where these entries are live, an atlas may give this reply to a command and go from its old state
-- to the new one
abbrev pub AtlasStep : List Entry → AtlasState → AtlasCommand → Reply → AtlasState → Type 0
AtlasStep entries old (Allocate size) (Placed allocation) new = Places old size allocation new
AtlasStep entries old (Allocate size) Refused new = IsRefused old size × (new ≡ old)
AtlasStep entries old (Allocate size) NoMemory new = NeedsSplit old size × (new ≡ old)
AtlasStep entries old (Return position) Returned new = GivesBack returned entries old position new
AtlasStep entries old (Return position) NotLive new =
    (allocation_at position entries ≡ None) × (new ≡ old)
AtlasStep entries old (Look position) (At rectangle index) new =
    Shows entries position rectangle index × (new ≡ old)
AtlasStep entries old (Look position) NotLive new =
    (allocation_at position entries ≡ None) × (new ≡ old)
AtlasStep entries old (Grow size) Grown new = Grows old size new
AtlasStep entries old (Grow size) (GrowRefused number) new =
    RefusesGrow old size number × (new ≡ old)
AtlasStep entries old (Grow size) NoMemory new = NeedsRecords old size × (new ≡ old)
AtlasStep entries old Clear Cleared new = new ≡ fresh old.frame
-- no other reply is given
AtlasStep entries old command reply new = ⊥

-- what holds of the rectangles that are live, as they were first given: they lie inside the present
-- atlas, aligned, and share no unit square, their ids differ, and the atlas still has them there;
-- where none is live, it is a new one of its present frame but for its records
pub record LiveKeepsPromises (state : AtlasState) (live : List Allocation) : Type 0 where
  pub laid_out : AreLaidOut state.frame live
  pub aligned : AllByRecursion (λ (allocation : Allocation). IsAligned state.frame allocation.rectangle) live
  pub kept : AllByRecursion
      (λ (allocation : Allocation). rectangle_of state allocation.id ≡ Some allocation.rectangle)
      live
  pub empty : live ≡ [] → without_peak_items state ≡ without_peak_items (fresh state.frame)

-- the records of an atlas, the record number of each allocation that is live, and the index in the
-- last reply, where that tells one, stay within a bound
pub record StaysWithin (bound : ℕ) (state : AtlasState) (live : List Allocation)
    (last : Option Reply) : Type 0 where
  pub records : state.peak_items ≤ bound
  pub numbers : AllByRecursion (λ (allocation : Allocation). record_number allocation.id < bound) live
  pub answered : (rectangle : Rectangle) (index : ℕ) → last ≡ Some (At rectangle index)
      → index < bound

-- runs on a shelf atlas, whose records stay within four times the most that was live, and the
-- columns that it has now
abbrev pub shelf_atlas : Kind AtlasState AtlasCommand
shelf_atlas = record {
  fresh = fresh;
  frame = λ state. state.frame;
  allocate = Allocate;
  effect = atlas_effect;
  Step = AtlasStep;
  LiveKeepsPromises = LiveKeepsPromises;
  StaysWithin = λ most state. StaysWithin (record_bound most state.frame.columns) state;
}
