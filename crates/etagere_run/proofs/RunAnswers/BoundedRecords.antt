-- The records of a shelf atlas grow only with what is live, so they stay within the bound through each step of a run.
use Rattle.std.proofs.Common.{◌≡◌, ℕ, ◌<◌, ◌≤◌, max, Option, None, Some, List, [], length, ap, subst, arith}
use Rattle.std.proofs.lemmas.List.{length-map}
use Rattle.etagere_base.specs.declared.frames.Frame.{Frame}
use Rattle.etagere_base.specs.declared.geometry.Rectangle.{Rectangle}
use Rattle.etagere_base.specs.declared.geometry.Size.{Size}
use Rattle.etagere_base.specs.declared.ids.Allocation.{Allocation}
use Rattle.std.specs.List.{AllByRecursion}
use Rattle.etagere_base.proofs.EachLemmas.{Each-middle, Each-weaken}
use Rattle.shelf_model.specs.Bounds.{record_bound}
use Rattle.shelf_model.specs.Choice.{Placement}
use Rattle.shelf_model.specs.Fresh.{fresh}
use Rattle.shelf_model.specs.Growing.{atlas_grown}
use Rattle.shelf_model.specs.Places.{allocations, record_number}
use Rattle.shelf_model.specs.State.{AtlasState, items_in_use}
use Rattle.shelf_model.specs.Taking.{taken}
use Rattle.shelf_model.proofs.Callers.{tied-each, tied-length}
use Rattle.run_scripts.specs.declared.commands.AtlasCommand.{AtlasCommand}
use Rattle.run_scripts.specs.declared.commands.AtlasCommand.TheVariants.{Allocate, Return, Look, Grow, Clear}
use Rattle.run_scripts.specs.declared.commands.Reply.{Reply}
use Rattle.run_scripts.specs.declared.commands.Reply.TheVariants.{Placed, Refused, Returned, At, NotLive, Cleared, Grown, GrowRefused, NoMemory}
use Rattle.etagere_run.specs.Answers.AtlasRuns.{AtlasStep, StaysWithin, atlas_effect}
use Rattle.etagere_run.specs.Answers.Live.{Entry, allocation_at, live_after, live_allocations, peak_after}
use Rattle.etagere_run.specs.Answers.Private.Tied.{IsAnswer, IsTied}
use Rattle.etagere_run.proofs.RunAnswers.LiveEntries.{without-adds}

-- the items of an atlas are few for what is live
few-live : (entries : List Entry) (state : AtlasState) → IsTied entries state
    → items_in_use state.shelves ≤ record_bound (length entries) state.frame.columns
few-live entries state tied =
    omega (
      arith,
      tied.promises.few,
      tied-length (live_allocations entries) (allocations state) tied.allocated,
      length-map entries (λ (entry : Entry). entry.allocation),
    )

-- taking a place leaves few records
placed-records : (old new : AtlasState) (placement : Placement) (id most live : ℕ) → new ≡ taken old placement id
    → items_in_use new.shelves ≤ record_bound live new.frame.columns
    → old.peak_items ≤ record_bound most old.frame.columns
    → new.peak_items ≤ record_bound (max most live) new.frame.columns
placed-records old new placement id most live is few before =
    let records : new.peak_items ≡ max old.peak_items (items_in_use (taken old placement id).shelves) = ap (λ (s : AtlasState). s.peak_items) is in
    let items : items_in_use new.shelves ≡ items_in_use (taken old placement id).shelves = ap (λ (s : AtlasState). items_in_use s.shelves) is in
    let columns : new.frame.columns ≡ old.frame.columns = ap (λ (s : AtlasState). s.frame.columns) is in
    omega (arith, records, items, columns, few, before)

-- what keeps frame and records leaves few records
kept-records : (old new : AtlasState) (most live : ℕ) → new.peak_items ≡ old.peak_items → new.frame ≡ old.frame
    → old.peak_items ≤ record_bound most old.frame.columns
    → new.peak_items ≤ record_bound (max most live) new.frame.columns
kept-records old new most live records frame before =
    omega (arith, records, ap (λ (f : Frame). f.columns) frame, before)

-- where nothing changes there are few records
same-records : (old new : AtlasState) (most live : ℕ) → new ≡ old → old.peak_items ≤ record_bound most old.frame.columns
    → new.peak_items ≤ record_bound (max most live) new.frame.columns
same-records old new most live same =
    kept-records old new most live (ap (λ (s : AtlasState). s.peak_items) same) (ap (λ (s : AtlasState). s.frame) same)

-- a grow leaves few records
grown-records : (old new : AtlasState) (size : Size) (most live : ℕ) → new ≡ atlas_grown old size
    → old.frame.columns ≤ new.frame.columns
    → items_in_use new.shelves ≤ record_bound live new.frame.columns
    → old.peak_items ≤ record_bound most old.frame.columns
    → new.peak_items ≤ record_bound (max most live) new.frame.columns
grown-records old new size most live is columns few before =
    let records : new.peak_items ≡ max old.peak_items (items_in_use (atlas_grown old size).shelves) = ap (λ (s : AtlasState). s.peak_items) is in
    let items : items_in_use new.shelves ≡ items_in_use (atlas_grown old size).shelves = ap (λ (s : AtlasState). items_in_use s.shelves) is in
    omega (arith, records, items, columns, few, before)

-- each step leaves few records for the most that was live
step-records : (entries later : List Entry) (old new : AtlasState) (command : AtlasCommand) (reply : Reply) (most : ℕ)
    → AtlasStep entries old command reply new → IsTied later new → old.peak_items ≤ record_bound most old.frame.columns
    → new.peak_items ≤ record_bound (peak_after (atlas_effect command reply) most (length later)) new.frame.columns
step-records entries later old new (Allocate size) (Placed allocation) most step tied before =
    let allocates = step.allocates in
    placed-records old new allocates.placement allocation.id most (length later) allocates.after (few-live later new tied) before
step-records entries later old new (Allocate size) Refused most step tied before = same-records old new most (length later) step.1 before
step-records entries later old new (Allocate size) NoMemory most step tied before = same-records old new most (length later) step.1 before
step-records entries later old new (Return position) Returned most step tied before =
    kept-records old new most (length later) (ap (λ (s : AtlasState). s.peak_items) step.after) (ap (λ (s : AtlasState). s.frame) step.after) before
step-records entries later old new (Return position) NotLive most step tied before = same-records old new most (length later) step.1 before
step-records entries later old new (Look position) (At rectangle index) most step tied before = same-records old new most (length later) step.1 before
step-records entries later old new (Look position) NotLive most step tied before = same-records old new most (length later) step.1 before
step-records entries later old new (Grow size) Grown most step tied before =
    grown-records old new size most (length later) step.after step.columns (few-live later new tied) before
step-records entries later old new (Grow size) (GrowRefused number) most step tied before = same-records old new most (length later) step.1 before
step-records entries later old new (Grow size) NoMemory most step tied before = same-records old new most (length later) step.1 before
step-records entries later old new Clear Cleared most step tied before =
    omega (arith, ap (λ (s : AtlasState). s.peak_items) step, ap (λ (s : AtlasState). s.frame.columns) step)
step-records entries later old new command reply most step tied before = absurd step

-- what is live has record numbers below the records
live-below : (entries : List Entry) (state : AtlasState) → IsTied entries state
    → AllByRecursion (λ (allocation : Allocation). record_number allocation.id < state.peak_items) (live_allocations entries)
live-below entries state tied =
    tied-each (λ (a : Allocation). record_number a.id < state.peak_items) (live_allocations entries) (allocations state)
    tied.allocated tied.promises.below

-- the index of what is live at a position is below the records
index-below : (entries : List Entry) (state : AtlasState) (position : ℕ) (allocation : Allocation) → IsTied entries state
    → allocation_at position entries ≡ Some allocation → record_number allocation.id < state.peak_items
index-below entries state position allocation tied is =
    let adds = without-adds position entries allocation is in
    let P : Allocation → Type 0 = λ a. record_number a.id < state.peak_items in
    Each-middle P adds.front allocation adds.back (subst (AllByRecursion P) adds.after (live-below entries state tied))

-- an index that is answered is below the records
step-answered : (position : ℕ) (entries later : List Entry) (old new : AtlasState) (command : AtlasCommand) (reply : Reply)
    → AtlasStep entries old command reply new → later ≡ live_after position (atlas_effect command reply) entries
    → IsTied later new → (rectangle : Rectangle) (index : ℕ) → reply ≡ At rectangle index → index < new.peak_items
step-answered position entries later old new (Look other) (At shown number) step later_is tied rectangle index is =
    let same : number ≡ index = cc in
    let shows = step.0 in
    let below = index-below entries new other shows.allocation (subst (λ (l : List Entry). IsTied l new) later_is tied) shows.live_is in
    omega (arith, same, shows.index_is, below)
step-answered position entries later old new (Allocate size) (At shown number) step later_is tied rectangle index is = absurd step
step-answered position entries later old new (Return other) (At shown number) step later_is tied rectangle index is = absurd step
step-answered position entries later old new (Grow size) (At shown number) step later_is tied rectangle index is = absurd step
step-answered position entries later old new Clear (At shown number) step later_is tied rectangle index is = absurd step
step-answered position entries later old new command reply step later_is tied rectangle index is = absurd (cc)

-- a new atlas has a record for each column
pub bounded-fresh : (frame : Frame) → StaysWithin (record_bound 0 frame.columns) (fresh frame) [] None
bounded-fresh frame = record { records = omega arith; numbers = tt; answered = λ rectangle index none. absurd (cc) }

-- each answer leaves few records, and its indexes are below them
pub bounded-more : (position : ℕ) (entries later : List Entry) (old new : AtlasState) (command : AtlasCommand) (reply : Reply)
    (most : ℕ) (last : Option Reply)
    → IsAnswer position command reply entries later old new
    → StaysWithin (record_bound most old.frame.columns) old (live_allocations entries) last
    → StaysWithin (record_bound (peak_after (atlas_effect command reply) most (length later)) new.frame.columns) new
    (live_allocations later) (Some reply)
bounded-more position entries later old new command reply most last answer before =
    let bound = record_bound (peak_after (atlas_effect command reply) most (length later)) new.frame.columns in
    let P : ℕ → Allocation → Type 0 = λ n a. record_number a.id < n in
    let records = step-records entries later old new command reply most answer.step answer.tied before.records in
    record {
      records = records;
      numbers = Each-weaken (P new.peak_items) (P bound) (live_allocations later) (λ a below. omega (arith, below, records))
          (live-below later new answer.tied);
      answered = λ rectangle index is.
          let same : reply ≡ At rectangle index = cc in
          let below = step-answered position entries later old new command reply answer.step answer.live_is answer.tied rectangle index same in
          omega (arith, below, records);
    }
