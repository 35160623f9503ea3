-- What ties a ledger to its atlas, of which the contracts of private functions speak.
use Rattle.std.specs.Prelude.{◌≡◌, ℕ, Option, None, Some, List, [], length}
use Rattle.etagere_base.specs.declared.frames.Frame.{Frame}
use Rattle.etagere_base.specs.declared.geometry.Size.{Size}
use Rattle.etagere_base.specs.declared.ids.Allocation.{Allocation}
use Rattle.std.specs.List.{AllByRecursion}
use Rattle.etagere_base.specs.Rectangles.{IsAligned, IsLarge}
use Rattle.shelf_model.specs.Atlas.{KeepsPromises}
use Rattle.shelf_model.specs.Callers as atlas
use Rattle.shelf_model.specs.Places.{allocations}
use Rattle.shelf_model.specs.State.{AtlasState}
use Rattle.bucketed_model.specs.State.{BucketedState}
use Rattle.bucketed_model.specs.Tied as buckets
use Rattle.run_scripts.specs.declared.commands.AtlasCommand.{AtlasCommand}
use Rattle.run_scripts.specs.declared.commands.BucketedCommand.{BucketedCommand}
use Rattle.run_scripts.specs.declared.commands.Reply.{Reply}
use Rattle.run_scripts.specs.declared.commands.Reply.TheVariants.{Placed}
use Rattle.etagere_run.specs.Answers.AtlasRuns.{shelf_atlas}
use Rattle.etagere_run.specs.Answers.BucketedRuns.{bucketed_atlas}
use Rattle.etagere_run.specs.Answers.Live.{Adds, Entry, live_after, live_allocations, peak_after}
use Rattle.etagere_run.specs.Answers.Runs.{Kind}

-- a shelf atlas keeps its promises, and what is live is all that it has allocated
pub record IsTied (entries : List Entry) (state : AtlasState) : Type 0 where
  pub promises : KeepsPromises state
  pub allocated : atlas.AreTied (live_allocations entries) (allocations state)

-- the buckets hold what is live, which is aligned
pub record IsInBuckets (entries : List Entry) (state : BucketedState) : Type 0 where
  pub tied : buckets.AreTied (live_allocations entries) state
  pub aligned : AllByRecursion (λ (allocation : Allocation). IsAligned state.frame allocation.rectangle)
      (live_allocations entries)

-- two frames have the same alignments and the same direction
pub record SameAlignments (old new : Frame) : Type 0 where
  pub width : new.alignment_width ≡ old.alignment_width
  pub height : new.alignment_height ≡ old.alignment_height
  pub direction : new.vertical ≡ old.vertical

-- a step that adds an allocation answers a command that asked for it
pub record IsAsked {S C : Type 0} (kind : Kind S C) (old : S) (command : C) (reply : Reply)
    (allocation : Allocation) : Type 0 where
  pub size : Size
  pub command_is : command ≡ kind.allocate size
  pub reply_is : reply ≡ Placed allocation
  pub large : IsLarge (kind.frame old) size allocation.rectangle

-- the reply to the command at a position is a step, and the ledger keeps what is live
pub record IsAnswerOf {S C : Type 0} (kind : Kind S C) (Tied : List Entry → S → Type 0)
    (position : ℕ) (command : C) (reply : Reply) (entries later : List Entry) (old new : S)
    : Type 0 where
  pub step : kind.Step entries old command reply new
  pub live_is : later ≡ live_after position (kind.effect command reply) entries
  pub alignments : SameAlignments (kind.frame old) (kind.frame new)
  pub tied : Tied later new

-- such a reply of a shelf atlas, and of a bucketed one
abbrev pub IsAnswer : ℕ → AtlasCommand → Reply → List Entry → List Entry → AtlasState → AtlasState
    → Type 0
IsAnswer = IsAnswerOf shelf_atlas IsTied

abbrev pub IsBucketedAnswer : ℕ → BucketedCommand → Reply → List Entry → List Entry → BucketedState
    → BucketedState → Type 0
IsBucketedAnswer = IsAnswerOf bucketed_atlas IsInBuckets

-- where these entries are live, a state has an answer to the command at a position
pub record HasAnswer {S C : Type 0} (kind : Kind S C) (Tied : List Entry → S → Type 0)
    (position : ℕ) (command : C) (entries : List Entry) (state : S) : Type 0 where
  pub reply : Reply
  pub later : List Entry
  pub new : S
  pub answer : IsAnswerOf kind Tied position command reply entries later state new

-- what runs need of a kind and of what ties its ledgers: what is tied keeps the promises and has an
-- answer to every command, each step is an answer, what is added was asked for, and each answer stays
-- within the bound
pub record SuitsRuns {S C : Type 0} (kind : Kind S C) (Tied : List Entry → S → Type 0)
    : Type 0 where
  pub promises : (entries : List Entry) (state : S) → Tied entries state
      → kind.LiveKeepsPromises state (live_allocations entries)
  pub answers : (position : ℕ) (command : C) (entries : List Entry) (state : S) → Tied entries state
      → HasAnswer kind Tied position command entries state
  pub steps : (position : ℕ) (entries : List Entry) (old new : S) (command : C) (reply : Reply)
      → Tied entries old → kind.Step entries old command reply new
      → IsAnswerOf kind Tied position command reply entries
      (live_after position (kind.effect command reply) entries) old new
  pub asked : (entries : List Entry) (old new : S) (command : C) (reply : Reply)
      → kind.Step entries old command reply new
      → (allocation : Allocation) → kind.effect command reply ≡ Adds allocation
      → IsAsked kind old command reply allocation
  pub bounded_fresh : (frame : Frame) → kind.StaysWithin 0 (kind.fresh frame) [] None
  pub bounded_more : (position : ℕ) (entries later : List Entry) (old new : S) (command : C)
      (reply : Reply) (most : ℕ)
      (last : Option Reply)
      → IsAnswerOf kind Tied position command reply entries later old new
      → kind.StaysWithin most old (live_allocations entries) last
      → kind.StaysWithin (peak_after (kind.effect command reply) most (length later)) new
      (live_allocations later)
      (Some reply)

-- an atlas is as new, and nothing is live in it
pub record IsNew {S C : Type 0} (kind : Kind S C) (Tied : List Entry → S → Type 0) (state : S)
    : Type 0 where
  pub fresh : state ≡ kind.fresh (kind.frame state)
  pub tied : Tied [] state
