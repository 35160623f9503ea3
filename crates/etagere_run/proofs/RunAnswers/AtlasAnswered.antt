-- On a shelf atlas every command has an answer, whatever is live.
use Rattle.std.proofs.Common.{◌≡◌, ℕ, ◌%◌, Option, None, Some, List, [], ◌∷◌, ◌++◌, refl}
use Rattle.etagere_base.specs.declared.geometry.Size.{Size}
use Rattle.etagere_base.specs.declared.ids.Allocation.{Allocation}
use Rattle.etagere_base.specs.Ids.{index_modulus}
use Rattle.shelf_model.specs.Choice.{Placement, placement_of}
use Rattle.shelf_model.specs.declared.faults.AtlasGrowFault.{AtlasGrowFault}
use Rattle.shelf_model.specs.Faults.{grow_fault_number}
use Rattle.shelf_model.specs.Fresh.{fresh}
use Rattle.shelf_model.specs.Growing.{atlas_grown, grow_fault}
use Rattle.shelf_model.specs.Returning.{returned}
use Rattle.shelf_model.specs.State.{AtlasState}
use Rattle.shelf_model.proofs.Callers.{allocated-grown, fresh-allocated, placed-can_allocate, promises-cleared, promises-grown, promises-returned, returned-allocated}
use Rattle.run_scripts.specs.declared.commands.AtlasCommand.{AtlasCommand}
use Rattle.run_scripts.specs.declared.commands.AtlasCommand.TheVariants.{Allocate, Return, Look, Grow, Clear}
use Rattle.run_scripts.specs.declared.commands.Reply.{Reply}
use Rattle.run_scripts.specs.declared.commands.Reply.TheVariants.{Placed, Refused, Returned, At, NotLive, Cleared, Grown, GrowRefused}
use Rattle.etagere_run.specs.Answers.AtlasRuns.{AtlasStep, atlas_effect, shelf_atlas}
use Rattle.etagere_run.specs.Answers.Live as effects
use Rattle.etagere_run.specs.Answers.Live.{Entry, allocation_at, without}
use Rattle.etagere_run.specs.Answers.Private.Tied.{HasAnswer, IsTied, SuitsRuns}
use Rattle.etagere_run.proofs.RunAnswers.BoundedRecords.{bounded-fresh, bounded-more}
use Rattle.etagere_run.proofs.RunAnswers.KeptSteps.{kept}
use Rattle.etagere_run.proofs.RunAnswers.AtlasAnswers.{AtlasStep-adds, atlas-steps, cleared, gone_back, grown, live-promises, looked, placed}

-- an answer of a shelf atlas
abbrev Answers : ℕ → AtlasCommand → List Entry → AtlasState → Type 0
Answers = HasAnswer shelf_atlas IsTied

-- a reply that changes nothing is an answer
unchanged : (position : ℕ) (command : AtlasCommand) (reply : Reply) (entries : List Entry) (state : AtlasState)
    → IsTied entries state → AtlasStep entries state command reply state → atlas_effect command reply ≡ effects.Keeps
    → Answers position command entries state
unchanged position command reply entries state tied step keeps =
    record {
      reply = reply;
      later = entries;
      new = state;
      answer = kept shelf_atlas IsTied position command reply entries state state tied step keeps refl;
    }

-- a size has an answer
answers-allocate : (position : ℕ) (size : Size) (entries : List Entry) (state : AtlasState) → IsTied entries state
    → (found : Option Placement) → placement_of state size ≡ found → Answers position (Allocate size) entries state
answers-allocate position size entries state tied None none =
    unchanged position (Allocate size) Refused entries state tied (none, refl) refl
answers-allocate position size entries state tied (Some placement) found =
    let can = placed-can_allocate state size placement tied.promises.valid found in
    let later : List Entry = entries ++ record { position = position; allocation = can.allocation } ∷ [] in
    record {
      reply = Placed can.allocation;
      later = later;
      new = can.new;
      answer = placed position size can.allocation entries later state can.new tied can.allocated.allocates
          can.allocated.adds can.allocated.large can.allocated.promises_after refl;
    }

-- a position that is returned has an answer, and so does one that is looked up
answers-return : (position other : ℕ) (entries : List Entry) (state : AtlasState) → IsTied entries state
    → (found : Option Allocation) → allocation_at other entries ≡ found → Answers position (Return other) entries state
answers-return position other entries state tied None none =
    unchanged position (Return other) NotLive entries state tied (none, refl) refl
answers-return position other entries state tied (Some allocation) found =
    record {
      reply = Returned;
      later = without other entries;
      new = returned state allocation.id;
      answer = gone_back position other allocation entries (without other entries) state (returned state allocation.id)
          tied found refl (returned-allocated state allocation.id tied.promises.valid)
          (promises-returned state allocation.id tied.promises.valid) refl;
    }

answers-look : (position other : ℕ) (entries : List Entry) (state : AtlasState) → IsTied entries state
    → (found : Option Allocation) → allocation_at other entries ≡ found → Answers position (Look other) entries state
answers-look position other entries state tied None none =
    unchanged position (Look other) NotLive entries state tied (none, refl) refl
answers-look position other entries state tied (Some allocation) found =
    let index = allocation.id % index_modulus in
    record {
      reply = At allocation.rectangle index;
      later = entries;
      new = state;
      answer = looked position other allocation allocation.rectangle index entries state tied found refl refl;
    }

-- a grow has an answer
answers-grow : (position : ℕ) (size : Size) (entries : List Entry) (state : AtlasState) → IsTied entries state
    → (fault : Option AtlasGrowFault) → grow_fault state size ≡ fault → Answers position (Grow size) entries state
answers-grow position size entries state tied (Some fault) is =
    unchanged position (Grow size) (GrowRefused (grow_fault_number fault)) entries state tied
    (record { fault = fault; fault_is = is; number_is = refl }, refl) refl
answers-grow position size entries state tied None fits =
    record {
      reply = Grown;
      later = entries;
      new = atlas_grown state size;
      answer = grown position size entries state (atlas_grown state size) tied fits refl
          (allocated-grown state size tied.promises.valid fits) (promises-grown state size tied.promises.valid fits);
    }

-- every command has an answer
pub atlas-answers : (position : ℕ) (command : AtlasCommand) (entries : List Entry) (state : AtlasState)
    → IsTied entries state → Answers position command entries state
atlas-answers position (Allocate size) entries state tied =
    answers-allocate position size entries state tied (placement_of state size) refl
atlas-answers position (Return other) entries state tied =
    answers-return position other entries state tied (allocation_at other entries) refl
atlas-answers position (Look other) entries state tied =
    answers-look position other entries state tied (allocation_at other entries) refl
atlas-answers position (Grow size) entries state tied =
    answers-grow position size entries state tied (grow_fault state size) refl
atlas-answers position Clear entries state tied =
    record {
      reply = Cleared;
      later = [];
      new = fresh state.frame;
      answer = cleared position entries [] state (fresh state.frame) refl (fresh-allocated state.frame)
          (promises-cleared state tied.promises.valid) refl;
    }

-- runs on a shelf atlas are fit for the lemmas of all kinds
pub atlas-suits : SuitsRuns shelf_atlas IsTied
atlas-suits =
    record {
      promises = live-promises;
      answers = atlas-answers;
      steps = atlas-steps;
      asked = AtlasStep-adds;
      bounded_fresh = bounded-fresh;
      bounded_more = bounded-more;
    }
