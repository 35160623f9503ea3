-- On a bucketed atlas each reply that is given is an answer to its command, and each answer keeps the promises of a run.
use Rattle.std.proofs.Common.{◌≡◌, ℕ, true, Some, List, [], ◌∷◌, ◌++◌, refl, ap, sym, subst}
use Rattle.std.proofs.lemmas.List.{map-append}
use Rattle.etagere_base.specs.declared.frames.Frame.{Frame}
use Rattle.etagere_base.specs.declared.geometry.Rectangle.{Rectangle}
use Rattle.etagere_base.specs.declared.geometry.Size.{Size}
use Rattle.etagere_base.specs.declared.ids.Allocation.{Allocation}
use Rattle.std.specs.List.{AllByRecursion}
use Rattle.etagere_base.specs.Rectangles.{IsAligned}
use Rattle.etagere_base.proofs.EachLemmas.{Each-append, Each-middle, Each-remove_number, Each-weaken}
use Rattle.bucketed_model.specs.Atlas.{Allocates, Grows}
use Rattle.bucketed_model.specs.Frames.{IsBucketedFrame}
use Rattle.bucketed_model.specs.Growing.{grown_frame}
use Rattle.bucketed_model.specs.Returning.{bucket_returned, is_known}
use Rattle.bucketed_model.specs.State.{BucketedState, fresh}
use Rattle.bucketed_model.specs.Tied.{AreTied}
use Rattle.bucketed_model.proofs.Callers.{allocates-aligned, allocates-large, allocates-tied, grows-tied, tied-fresh, tied-returned, tied-safe}
use Rattle.run_scripts.specs.declared.commands.BucketedCommand.{BucketedCommand}
use Rattle.run_scripts.specs.declared.commands.BucketedCommand.TheVariants.{Allocate, Return, Grow, Clear}
use Rattle.run_scripts.specs.declared.commands.Reply.{Reply}
use Rattle.run_scripts.specs.declared.commands.Reply.TheVariants.{Placed, Refused, Returned, NotLive, Cleared, Grown, GrowRefused, NoMemory}
use Rattle.etagere_run.specs.Answers.BucketedRuns.{BucketedLiveKeepsPromises, BucketedStep, bucketed_atlas, bucketed_effect}
use Rattle.etagere_run.specs.Answers.Live as effects
use Rattle.etagere_run.specs.Answers.Live.{Entry, allocation_at, live_after, live_allocations, without}
use Rattle.etagere_run.specs.Answers.Private.Tied.{IsAsked, IsBucketedAnswer, IsInBuckets, SameAlignments}
use Rattle.etagere_run.proofs.RunAnswers.KeptSteps.{alignments-same, kept}
use Rattle.etagere_run.proofs.RunAnswers.LiveEntries.{without-adds}

-- an allocation is aligned in a frame
abbrev IsAlignedIn : Frame → Allocation → Type 0
IsAlignedIn frame allocation = IsAligned frame allocation.rectangle

-- what is aligned in a frame is so in another with the same alignments and direction
IsAligned-same : (old new : Frame) (rectangle : Rectangle) → SameAlignments old new → IsAligned old rectangle → IsAligned new rectangle
IsAligned-same old new rectangle same aligned =
    record {
      place = aligned.place;
      extent = aligned.extent;
      begins = rw (same.direction, same.width, same.height) aligned.begins;
      ends = rw (same.direction, same.width, same.height) aligned.ends;
    }

-- and so is each of a list
Each-aligned : (old new : Frame) (all : List Allocation) → SameAlignments old new → AllByRecursion (IsAlignedIn old) all → AllByRecursion (IsAlignedIn new) all
Each-aligned old new all same each =
    Each-weaken (IsAlignedIn old) (IsAlignedIn new) all (λ a. IsAligned-same old new a.rectangle same) each

-- a grown frame has the alignments and the direction that it had
alignments-grown : (frame : Frame) (size : Size) → SameAlignments frame (grown_frame frame size)
alignments-grown frame size = record { width = refl; height = refl; direction = refl }

-- what is live at a position is known
pub known-at : (entries : List Entry) (state : BucketedState) (position : ℕ) (allocation : Allocation)
    → IsInBuckets entries state → allocation_at position entries ≡ Some allocation → is_known state allocation.id ≡ true
known-at entries state position allocation tied is =
    let adds = without-adds position entries allocation is in
    let safe = tied-safe (live_allocations entries) state tied.tied in
    Each-middle (λ (a : Allocation). is_known state a.id ≡ true) adds.front allocation adds.back
    (subst (AllByRecursion (λ (a : Allocation). is_known state a.id ≡ true)) adds.after safe.known)

-- nothing is live in a new or cleared atlas
pub in_buckets-fresh : (frame : Frame) (state : BucketedState) → IsBucketedFrame frame → state ≡ fresh frame → IsInBuckets [] state
in_buckets-fresh frame state is_frame is =
    record { tied = subst (AreTied []) (sym is) (tied-fresh frame is_frame); aligned = tt }

-- nothing changed
unchanged : (position : ℕ) (command : BucketedCommand) (reply : Reply) (entries : List Entry) (old new : BucketedState)
    → IsInBuckets entries old → BucketedStep entries old command reply new → bucketed_effect command reply ≡ effects.Keeps → new ≡ old
    → IsBucketedAnswer position command reply entries entries old new
unchanged = kept bucketed_atlas IsInBuckets

-- the size was placed
pub placed : (position : ℕ) (size : Size) (allocation : Allocation) (entries later : List Entry) (old new : BucketedState)
    → IsInBuckets entries old
    → Allocates old size allocation new
    → later ≡ entries ++ record { position = position; allocation = allocation } ∷ []
    → IsBucketedAnswer position (Allocate size) (Placed allocation) entries later old new
placed position size allocation entries later old new tied allocates later_is =
    let live = live_allocations entries in
    let entry : Entry = record { position = position; allocation = allocation } in
    let more : live_allocations (entries ++ entry ∷ []) ≡ live ++ allocation ∷ [] =
    map-append (λ (e : Entry). e.allocation) entries (entry ∷ []) in
    let valid = tied.tied.valid in
    let now = allocates-tied live old size allocation new tied.tied allocates in
    let same = alignments-same old.frame new.frame (ap (λ (s : BucketedState). s.frame) allocates.after) in
    record {
      step = record {
        allocates = allocates;
        valid = now.valid;
        large = allocates-large old size allocation new valid allocates;
      };
      live_is = later_is;
      alignments = same;
      tied = rw (later_is) (record {
        tied = rw more now;
        aligned = rw more (Each-append (IsAlignedIn new.frame) live (allocation ∷ [])
            (Each-aligned old.frame new.frame live same tied.aligned)
            (IsAligned-same old.frame new.frame allocation.rectangle same (allocates-aligned old size allocation new valid allocates), tt));
      });
    }

-- what was live at a position went back
pub gone_back : (position other : ℕ) (allocation : Allocation) (entries later : List Entry) (old new : BucketedState)
    → IsInBuckets entries old
    → allocation_at other entries ≡ Some allocation
    → new ≡ bucket_returned old allocation.id
    → later ≡ without other entries
    → IsBucketedAnswer position (Return other) Returned entries later old new
gone_back position other allocation entries later old new tied is new_is later_is =
    let adds = without-adds other entries allocation is in
    let before = subst (λ (l : List Allocation). AreTied l old) adds.after tied.tied in
    let aligned = subst (AllByRecursion (IsAlignedIn old.frame)) adds.after tied.aligned in
    let same = alignments-same old.frame new.frame (ap (λ (s : BucketedState). s.frame) new_is) in
    record {
      step = record { allocation = allocation; live_is = is; after = new_is };
      live_is = later_is;
      alignments = same;
      tied = rw later_is (record {
        tied = rw (adds.before, new_is) (tied-returned adds.front allocation adds.back old before);
        aligned = rw adds.before (Each-aligned old.frame new.frame (adds.front ++ adds.back) same
            (Each-remove_number (IsAlignedIn old.frame) adds.front allocation adds.back aligned));
      });
    }

-- the atlas has grown
pub grown : (position : ℕ) (size : Size) (entries : List Entry) (old new : BucketedState)
    → IsInBuckets entries old → Grows old size new → IsBucketedAnswer position (Grow size) Grown entries entries old new
grown position size entries old new tied grows =
    let live = live_allocations entries in
    let same = subst (λ (s : BucketedState). SameAlignments old.frame s.frame) (sym grows.after) (alignments-grown old.frame size) in
    record {
      step = grows;
      live_is = refl;
      alignments = same;
      tied = record {
        tied = grows-tied live old size new tied.tied grows;
        aligned = Each-aligned old.frame new.frame live same tied.aligned;
      };
    }

-- the atlas was cleared
pub cleared : (position : ℕ) (entries later : List Entry) (old new : BucketedState)
    → IsInBuckets entries old → new ≡ fresh old.frame → later ≡ []
    → IsBucketedAnswer position Clear Cleared entries later old new
cleared position entries later old new tied new_is later_is =
    record {
      step = new_is;
      live_is = later_is;
      alignments = alignments-same old.frame new.frame (ap (λ (s : BucketedState). s.frame) new_is);
      tied = rw later_is (in_buckets-fresh old.frame new tied.tied.valid.frame new_is);
    }

-- each step is an answer
pub bucketed-steps : (position : ℕ) (entries : List Entry) (old new : BucketedState) (command : BucketedCommand) (reply : Reply)
    → IsInBuckets entries old → BucketedStep entries old command reply new
    → IsBucketedAnswer position command reply entries (live_after position (bucketed_effect command reply) entries) old new
bucketed-steps position entries old new (Allocate size) (Placed allocation) tied step =
    placed position size allocation entries (entries ++ record { position = position; allocation = allocation } ∷ []) old new tied
    step.allocates refl
bucketed-steps position entries old new (Allocate size) Refused tied step =
    unchanged position (Allocate size) Refused entries old new tied step refl step.1
bucketed-steps position entries old new (Allocate size) NoMemory tied step =
    unchanged position (Allocate size) NoMemory entries old new tied step refl step.1
bucketed-steps position entries old new (Return other) Returned tied step =
    gone_back position other step.allocation entries (without other entries) old new tied step.live_is step.after refl
bucketed-steps position entries old new (Return other) NotLive tied step =
    unchanged position (Return other) NotLive entries old new tied step refl step.1
bucketed-steps position entries old new (Grow size) Grown tied step = grown position size entries old new tied step
bucketed-steps position entries old new (Grow size) (GrowRefused number) tied step =
    unchanged position (Grow size) (GrowRefused number) entries old new tied step refl step.1
bucketed-steps position entries old new (Grow size) NoMemory tied step =
    unchanged position (Grow size) NoMemory entries old new tied step refl step.1
bucketed-steps position entries old new Clear Cleared tied step = cleared position entries [] old new tied step refl
bucketed-steps position entries old new command reply tied step = absurd step

-- a step that adds an allocation has placed a size
pub BucketedStep-adds : (entries : List Entry) (old new : BucketedState) (command : BucketedCommand) (reply : Reply)
    → BucketedStep entries old command reply new
    → (allocation : Allocation) → bucketed_effect command reply ≡ effects.Adds allocation
    → IsAsked bucketed_atlas old command reply allocation
BucketedStep-adds entries old new (Allocate size) (Placed given) step allocation adds =
    let same : given ≡ allocation = cc in
    subst (IsAsked bucketed_atlas old (Allocate size) (Placed given)) same
    (record { size = size; command_is = refl; reply_is = refl; large = step.large })
BucketedStep-adds entries old new (Return other) (Placed given) step allocation adds = absurd step
BucketedStep-adds entries old new (Grow size) (Placed given) step allocation adds = absurd step
BucketedStep-adds entries old new Clear (Placed given) step allocation adds = absurd step
BucketedStep-adds entries old new command reply step allocation adds = absurd (cc)

-- what is live keeps its promises, where the buckets hold it
pub live-promises : (entries : List Entry) (state : BucketedState) → IsInBuckets entries state
    → BucketedLiveKeepsPromises state (live_allocations entries)
live-promises entries state tied =
    let safe = tied-safe (live_allocations entries) state tied.tied in
    record {
      laid_out = record { inside = safe.inside; apart = safe.apart; ids = safe.ids };
      aligned = tied.aligned;
      known = safe.known;
      counts = safe.counts;
      tied = tied.tied;
      empty = safe.empty;
    }
