-- On a shelf atlas each reply that is given is an answer to its command, and each answer keeps the promises of a run.
use Rattle.std.proofs.Common.{◌≡◌, ℕ, ◌%◌, ◌≤◌, true, None, Some, List, [], ◌∷◌, ◌++◌, refl, ap, sym, ◌∙◌, subst}
use Rattle.etagere_base.specs.declared.geometry.Rectangle.{Rectangle}
use Rattle.etagere_base.specs.declared.geometry.Size.{Size}
use Rattle.etagere_base.specs.Ids.{index_modulus}
use Rattle.etagere_base.specs.declared.ids.Allocation.{Allocation}
use Rattle.std.specs.List.{AllByRecursion}
use Rattle.etagere_base.specs.Rectangles.{IsAligned, IsInside, IsLarge}
use Rattle.etagere_base.proofs.EachLemmas.{Each-middle, Each-weaken}
use Rattle.shelf_model.specs.Atlas.{Adds, Allocates, KeepsPromises, without_id}
use Rattle.shelf_model.specs.Callers.{AreTied, IsFound}
use Rattle.shelf_model.specs.Fresh.{fresh}
use Rattle.shelf_model.specs.Growing.{atlas_grown, grow_fault}
use Rattle.shelf_model.specs.Places.{allocations, is_allocated, rectangle_of}
use Rattle.shelf_model.specs.Returning.{returned}
use Rattle.shelf_model.specs.State.{AtlasState}
use Rattle.shelf_model.proofs.Callers.{allocated-grown, allocates-adds, columns-grown, fresh-allocated, found-allocated, found-new, found-rectangle, not_allocated-any, promises, promises-cleared, promises-returned, returned-allocated, tied-added, tied-apart, tied-each, tied-empty, tied-ids, tied-none, tied-returned}
use Rattle.run_scripts.specs.declared.commands.AtlasCommand.{AtlasCommand}
use Rattle.run_scripts.specs.declared.commands.AtlasCommand.TheVariants.{Allocate, Return, Look, Grow, Clear}
use Rattle.run_scripts.specs.declared.commands.Reply.{Reply}
use Rattle.run_scripts.specs.declared.commands.Reply.TheVariants.{Placed, Refused, Returned, At, NotLive, Cleared, Grown, GrowRefused, NoMemory}
use Rattle.etagere_run.specs.Answers.AtlasRuns.{AtlasStep, LiveKeepsPromises, atlas_effect, shelf_atlas}
use Rattle.etagere_run.specs.Answers.Live as effects
use Rattle.etagere_run.specs.Answers.Live.{Entry, allocation_at, live_after, live_allocations, without}
use Rattle.etagere_run.specs.Answers.Private.Tied.{IsAnswer, IsAsked, IsTied, SameAlignments}
use Rattle.etagere_run.proofs.RunAnswers.KeptSteps.{alignments-same, kept}
use Rattle.etagere_run.proofs.RunAnswers.LiveEntries.{last-adds, without-adds}

-- what is live at a position is found under its id
found-at : (entries : List Entry) (state : AtlasState) (position : ℕ) (allocation : Allocation)
    → IsTied entries state → allocation_at position entries ≡ Some allocation → IsFound (allocations state) allocation
found-at entries state position allocation tied is =
    let adds = without-adds position entries allocation is in
    Each-middle (IsFound (allocations state)) adds.front allocation adds.back
    (subst (AllByRecursion (IsFound (allocations state))) adds.after tied.allocated.found)

-- what is live at a position is allocated
pub allocated-at : (entries : List Entry) (state : AtlasState) (position : ℕ) (allocation : Allocation)
    → IsTied entries state → allocation_at position entries ≡ Some allocation → is_allocated state allocation.id ≡ true
allocated-at entries state position allocation tied is =
    found-allocated state allocation (found-at entries state position allocation tied is)

-- what is live at a position is where it was given
pub rectangle-at : (entries : List Entry) (state : AtlasState) (position : ℕ) (allocation : Allocation)
    → IsTied entries state → allocation_at position entries ≡ Some allocation
    → rectangle_of state allocation.id ≡ Some allocation.rectangle
rectangle-at entries state position allocation tied is =
    found-rectangle state allocation (found-at entries state position allocation tied is)

-- nothing is live in a new or cleared atlas
pub tied-cleared : (state : AtlasState) → allocations state ≡ [] → KeepsPromises state → IsTied [] state
tied-cleared state none promises = record { promises = promises; allocated = tied-none (allocations state) none }

-- nothing changed
unchanged : (position : ℕ) (command : AtlasCommand) (reply : Reply) (entries : List Entry) (old new : AtlasState)
    → IsTied entries old → AtlasStep entries old command reply new → atlas_effect command reply ≡ effects.Keeps → new ≡ old
    → IsAnswer position command reply entries entries old new
unchanged = kept shelf_atlas IsTied

-- the size was placed
pub placed : (position : ℕ) (size : Size) (allocation : Allocation) (entries later : List Entry) (old new : AtlasState)
    → IsTied entries old
    → Allocates old size allocation new
    → Adds (allocations old) allocation (allocations new)
    → IsLarge old.frame size allocation.rectangle
    → KeepsPromises new
    → later ≡ entries ++ record { position = position; allocation = allocation } ∷ []
    → IsAnswer position (Allocate size) (Placed allocation) entries later old new
placed position size allocation entries later old new tied allocates adds large promises later_is =
    let entry : Entry = record { position = position; allocation = allocation } in
    record {
      step = record {
        allocates = allocates;
        valid = promises.valid;
        rectangle = found-rectangle new allocation
            (found-new (allocations old) (allocations new) allocation adds (not_allocated-any old allocation.id allocates.fresh_id));
        large = large;
      };
      live_is = later_is;
      alignments = alignments-same old.frame new.frame (ap (λ (s : AtlasState). s.frame) allocates.after);
      tied = rw later_is (record {
        promises = promises;
        allocated = tied-added (live_allocations entries) (live_allocations (entries ++ entry ∷ [])) (allocations old)
            (allocations new) allocation tied.allocated (last-adds entries entry) adds (not_allocated-any old allocation.id allocates.fresh_id);
      });
    }

-- what was live at a position went back
pub gone_back : (position other : ℕ) (allocation : Allocation) (entries later : List Entry) (old new : AtlasState)
    → IsTied entries old
    → allocation_at other entries ≡ Some allocation
    → new ≡ returned old allocation.id
    → allocations new ≡ without_id allocation.id (allocations old)
    → KeepsPromises new
    → later ≡ without other entries
    → IsAnswer position (Return other) Returned entries later old new
gone_back position other allocation entries later old new tied is new_is after promises later_is =
    record {
      step = record { allocation = allocation; live_is = is; after = new_is };
      live_is = later_is;
      alignments = alignments-same old.frame new.frame (ap (λ (s : AtlasState). s.frame) new_is);
      tied = rw later_is (record {
        promises = promises;
        allocated = tied-returned (live_allocations entries) (live_allocations (without other entries)) (allocations old)
            (allocations new) allocation tied.allocated (without-adds other entries allocation is) tied.promises.ids after;
      });
    }

-- what is live at a position was looked up
pub looked : (position other : ℕ) (allocation : Allocation) (rectangle : Rectangle) (index : ℕ) (entries : List Entry) (state : AtlasState)
    → IsTied entries state
    → allocation_at other entries ≡ Some allocation
    → rectangle ≡ allocation.rectangle
    → index ≡ allocation.id % index_modulus
    → IsAnswer position (Look other) (At rectangle index) entries entries state state
looked position other allocation rectangle index entries state tied is rectangle_is index_is =
    record {
      step = (record { allocation = allocation; live_is = is; rectangle_is = rectangle_is; index_is = index_is }, refl);
      live_is = refl;
      alignments = record { width = refl; height = refl; direction = refl };
      tied = tied;
    }

-- the atlas grew
pub grown : (position : ℕ) (size : Size) (entries : List Entry) (old new : AtlasState)
    → IsTied entries old → grow_fault old size ≡ None → new ≡ atlas_grown old size
    → allocations new ≡ allocations old → KeepsPromises new
    → IsAnswer position (Grow size) Grown entries entries old new
grown position size entries old new tied fits after same promises =
    record {
      step = record {
        fits = fits;
        after = after;
        valid = promises.valid;
        columns = subst (λ (s : AtlasState). old.frame.columns ≤ s.frame.columns) (sym after)
            (columns-grown old size tied.promises.valid fits);
      };
      live_is = refl;
      alignments = subst (λ (s : AtlasState). SameAlignments old.frame s.frame) (sym after)
          (record { width = refl; height = refl; direction = refl });
      tied = record {
        promises = promises;
        allocated = subst (AreTied (live_allocations entries)) (sym same) tied.allocated;
      };
    }

-- the atlas was cleared
pub cleared : (position : ℕ) (entries later : List Entry) (old new : AtlasState)
    → new ≡ fresh old.frame → allocations new ≡ [] → KeepsPromises new → later ≡ []
    → IsAnswer position Clear Cleared entries later old new
cleared position entries later old new new_is none promises later_is =
    record {
      step = new_is;
      live_is = later_is;
      alignments = alignments-same old.frame new.frame (ap (λ (s : AtlasState). s.frame) new_is);
      tied = rw later_is (tied-cleared new none promises);
    }

-- each step is an answer
pub atlas-steps : (position : ℕ) (entries : List Entry) (old new : AtlasState) (command : AtlasCommand) (reply : Reply)
    → IsTied entries old → AtlasStep entries old command reply new
    → IsAnswer position command reply entries (live_after position (atlas_effect command reply) entries) old new
atlas-steps position entries old new (Allocate size) (Placed allocation) tied step =
    placed position size allocation entries (entries ++ record { position = position; allocation = allocation } ∷ []) old new tied
    step.allocates (allocates-adds old size allocation new tied.promises.valid step.allocates) step.large (promises new step.valid) refl
atlas-steps position entries old new (Allocate size) Refused tied step = unchanged position (Allocate size) Refused entries old new tied step refl step.1
atlas-steps position entries old new (Allocate size) NoMemory tied step = unchanged position (Allocate size) NoMemory entries old new tied step refl step.1
atlas-steps position entries old new (Return other) Returned tied step =
    let valid = tied.promises.valid in
    let id = step.allocation.id in
    gone_back position other step.allocation entries (without other entries) old new tied step.live_is step.after
    (ap allocations step.after ∙ returned-allocated old id valid)
    (subst KeepsPromises (sym step.after) (promises-returned old id valid)) refl
atlas-steps position entries old new (Return other) NotLive tied step = unchanged position (Return other) NotLive entries old new tied step refl step.1
atlas-steps position entries old new (Look other) (At rectangle index) tied step =
    unchanged position (Look other) (At rectangle index) entries old new tied step refl step.1
atlas-steps position entries old new (Look other) NotLive tied step = unchanged position (Look other) NotLive entries old new tied step refl step.1
atlas-steps position entries old new (Grow size) Grown tied step =
    let valid = tied.promises.valid in
    grown position size entries old new tied step.fits step.after
    (ap allocations step.after ∙ allocated-grown old size valid step.fits) (promises new step.valid)
atlas-steps position entries old new (Grow size) (GrowRefused number) tied step =
    unchanged position (Grow size) (GrowRefused number) entries old new tied step refl step.1
atlas-steps position entries old new (Grow size) NoMemory tied step = unchanged position (Grow size) NoMemory entries old new tied step refl step.1
atlas-steps position entries old new Clear Cleared tied step =
    cleared position entries [] old new step (ap allocations step ∙ fresh-allocated old.frame)
    (subst KeepsPromises (sym step) (promises-cleared old tied.promises.valid)) refl
atlas-steps position entries old new command reply tied step = absurd step

-- a step that adds an allocation has placed a size
pub AtlasStep-adds : (entries : List Entry) (old new : AtlasState) (command : AtlasCommand) (reply : Reply)
    → AtlasStep entries old command reply new
    → (allocation : Allocation) → atlas_effect command reply ≡ effects.Adds allocation
    → IsAsked shelf_atlas old command reply allocation
AtlasStep-adds entries old new (Allocate size) (Placed given) step allocation adds =
    let same : given ≡ allocation = cc in
    subst (IsAsked shelf_atlas old (Allocate size) (Placed given)) same
    (record { size = size; command_is = refl; reply_is = refl; large = step.large })
AtlasStep-adds entries old new (Return other) (Placed given) step allocation adds = absurd step
AtlasStep-adds entries old new (Look other) (Placed given) step allocation adds = absurd step
AtlasStep-adds entries old new (Grow size) (Placed given) step allocation adds = absurd step
AtlasStep-adds entries old new Clear (Placed given) step allocation adds = absurd step
AtlasStep-adds entries old new command reply step allocation adds = absurd (cc)

-- what is live keeps its promises, where it is all that the atlas has allocated
pub live-promises : (entries : List Entry) (state : AtlasState) → IsTied entries state
    → LiveKeepsPromises state (live_allocations entries)
live-promises entries state tied =
    let live = live_allocations entries in
    let all = allocations state in
    let promises = tied.promises in
    record {
      laid_out = record {
        inside = tied-each (λ (a : Allocation). IsInside state.frame a.rectangle) live all tied.allocated promises.inside;
        apart = tied-apart live all tied.allocated promises.apart promises.ids;
        ids = tied-ids live all tied.allocated promises.ids;
      };
      aligned = tied-each (λ (a : Allocation). IsAligned state.frame a.rectangle) live all tied.allocated promises.aligned;
      kept = Each-weaken (IsFound all) (λ (a : Allocation). rectangle_of state a.id ≡ Some a.rectangle) live
          (found-rectangle state) tied.allocated.found;
      empty = λ none. promises.empty (tied-empty all (subst (λ (l : List Allocation). AreTied l all) none tied.allocated));
    }
