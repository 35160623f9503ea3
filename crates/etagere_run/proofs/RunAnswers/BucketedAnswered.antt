-- On a bucketed atlas every command has an answer, whatever is live.
use Rattle.std.proofs.Common.{◌≡◌, ℕ, ◌<◌, ◌≤◌, Option, None, Some, List, [], ◌∷◌, ◌++◌, refl, ap, ⊎_elim, arith}
use Rattle.std.proofs.lemmas.Bool.{cases_lt}
use Rattle.etagere_base.specs.declared.geometry.Size.{Size}
use Rattle.etagere_base.specs.declared.ids.Allocation.{Allocation}
use Rattle.bucketed_model.specs.declared.faults.GrowFault.{GrowFault}
use Rattle.bucketed_model.specs.Faults.{grow_fault_number}
use Rattle.bucketed_model.specs.Growing.{grow_fault, grown, grow_counts, total}
use Rattle.bucketed_model.specs.Placing.{Destination, BucketPlacement, InAdded, InBucket, InMerged, placement_of}
use Rattle.bucketed_model.specs.Returning.{bucket_returned}
use Rattle.bucketed_model.specs.State.{BucketedState, fresh}
use Rattle.bucketed_model.specs.Taking.{bucket_taken, needed_buckets}
use Rattle.bucketed_model.proofs.Callers.{no-tags, placed-allocates}
use Rattle.run_scripts.specs.declared.commands.BucketedCommand.{BucketedCommand}
use Rattle.run_scripts.specs.declared.commands.BucketedCommand.TheVariants.{Allocate, Return, Grow, Clear}
use Rattle.run_scripts.specs.declared.commands.Reply.{Reply}
use Rattle.run_scripts.specs.declared.commands.Reply.TheVariants.{Placed, Refused, Returned, NotLive, Cleared, Grown, GrowRefused, NoMemory}
use Rattle.etagere_run.specs.Answers.BucketedRuns.{BucketedStep, bucketed_atlas, bucketed_effect}
use Rattle.etagere_run.specs.Answers.Live as effects
use Rattle.etagere_run.specs.Answers.Live.{Entry, allocation_at, without}
use Rattle.etagere_run.specs.Answers.Private.Tied.{HasAnswer, IsInBuckets, SuitsRuns}
use Rattle.etagere_run.proofs.RunAnswers.KeptSteps.{kept}
use Rattle.etagere_run.proofs.RunAnswers.BucketedAnswers.{BucketedStep-adds, bucketed-steps, cleared, gone_back, grown as has_grown, live-promises, placed}

-- an answer of a bucketed atlas
abbrev Answers : ℕ → BucketedCommand → List Entry → BucketedState → Type 0
Answers = HasAnswer bucketed_atlas IsInBuckets

-- a reply that changes nothing is an answer
unchanged : (position : ℕ) (command : BucketedCommand) (reply : Reply) (entries : List Entry) (state : BucketedState)
    → IsInBuckets entries state → BucketedStep entries state command reply state
    → bucketed_effect command reply ≡ effects.Keeps → Answers position command entries state
unchanged position command reply entries state tied step keeps =
    record {
      reply = reply;
      later = entries;
      new = state;
      answer = kept bucketed_atlas IsInBuckets position command reply entries state state tied step keeps refl;
    }

-- a place that needs no new buckets is an answer to a size
answers-placed : (position : ℕ) (size : Size) (entries : List Entry) (state : BucketedState) (placement : BucketPlacement)
    → IsInBuckets entries state → placement_of state size ≡ Some placement → needed_buckets placement.destination ≡ 0
    → Answers position (Allocate size) entries state
answers-placed position size entries state placement tied found none =
    let can = placed-allocates state size placement tied.tied.valid found none in
    let later : List Entry = entries ++ record { position = position; allocation = can.0 } ∷ [] in
    record {
      reply = Placed can.0;
      later = later;
      new = bucket_taken state placement [];
      answer = placed position size can.0 entries later state (bucket_taken state placement []) tied can.1 refl;
    }

-- a size has an answer
answers-placement : (position : ℕ) (size : Size) (entries : List Entry) (state : BucketedState) (placement : BucketPlacement)
    → IsInBuckets entries state → placement_of state size ≡ Some placement
    → (destination : Destination) → placement.destination ≡ destination → Answers position (Allocate size) entries state
answers-placement position size entries state placement tied found (InBucket spot) is =
    answers-placed position size entries state placement tied found (ap needed_buckets is)
answers-placement position size entries state placement tied found (InAdded news) is =
    unchanged position (Allocate size) NoMemory entries state tied
    (record { placement = placement; news = news; placed = found; adds = is }, refl) refl
answers-placement position size entries state placement tied found (InMerged group) is =
    answers-placed position size entries state placement tied found (ap needed_buckets is)

answers-allocate : (position : ℕ) (size : Size) (entries : List Entry) (state : BucketedState) → IsInBuckets entries state
    → (found : Option BucketPlacement) → placement_of state size ≡ found → Answers position (Allocate size) entries state
answers-allocate position size entries state tied None none =
    unchanged position (Allocate size) Refused entries state tied (none, refl) refl
answers-allocate position size entries state tied (Some placement) found =
    answers-placement position size entries state placement tied found placement.destination refl

-- a position that is returned has an answer
answers-return : (position other : ℕ) (entries : List Entry) (state : BucketedState) → IsInBuckets entries state
    → (found : Option Allocation) → allocation_at other entries ≡ found → Answers position (Return other) entries state
answers-return position other entries state tied None none =
    unchanged position (Return other) NotLive entries state tied (none, refl) refl
answers-return position other entries state tied (Some allocation) found =
    record {
      reply = Returned;
      later = without other entries;
      new = bucket_returned state allocation.id;
      answer = gone_back position other allocation entries (without other entries) state (bucket_returned state allocation.id)
          tied found refl refl;
    }

-- a grow has an answer: for memory where it makes buckets
answers-grow : (position : ℕ) (size : Size) (entries : List Entry) (state : BucketedState) → IsInBuckets entries state
    → (fault : Option GrowFault) → grow_fault state.frame size ≡ fault → Answers position (Grow size) entries state
answers-grow position size entries state tied (Some fault) is =
    unchanged position (Grow size) (GrowRefused (grow_fault_number fault)) entries state tied
    (record { fault = fault; fault_is = is; number_is = refl }, refl) refl
answers-grow position size entries state tied None fits =
    let needed = total (grow_counts state.frame size state.shelves) in
    ⊎_elim
    (λ (some : 0 < needed). unchanged position (Grow size) NoMemory entries state tied (record { fits = fits; some = some }, refl) refl)
    (λ (none : needed ≤ 0).
    let tags = no-tags state needed tied.tied.valid (omega (arith, none)) in
    let made : Answers position (Grow size) entries state = record {
      reply = Grown;
      later = entries;
      new = grown state size [];
      answer = has_grown position size entries state (grown state size []) tied
          (record { tags = []; fits = fits; new_tags = tags; after = refl });
    } in made)
    (cases_lt 0 needed)

-- every command has an answer
pub bucketed-answers : (position : ℕ) (command : BucketedCommand) (entries : List Entry) (state : BucketedState)
    → IsInBuckets entries state → Answers position command entries state
bucketed-answers position (Allocate size) entries state tied =
    answers-allocate position size entries state tied (placement_of state size) refl
bucketed-answers position (Return other) entries state tied =
    answers-return position other entries state tied (allocation_at other entries) refl
bucketed-answers position (Grow size) entries state tied =
    answers-grow position size entries state tied (grow_fault state.frame size) refl
bucketed-answers position Clear entries state tied =
    record {
      reply = Cleared;
      later = [];
      new = fresh state.frame;
      answer = cleared position entries [] state (fresh state.frame) tied refl refl;
    }

-- runs on a bucketed atlas are fit for the lemmas of all kinds
pub bucketed-suits : SuitsRuns bucketed_atlas IsInBuckets
bucketed-suits =
    record {
      promises = live-promises;
      answers = bucketed-answers;
      steps = bucketed-steps;
      asked = BucketedStep-adds;
      bounded_fresh = λ frame. omega arith;
      bounded_more = λ position entries later old new command reply most last answer before. answer.tied.tied.valid.shelves.few;
    }
