-- What goes on from a snapshot is the rest of the run that led to it.
use Rattle.std.proofs.Common.{◌≡◌, ℕ, ◌+◌, ◌≤◌, Bool, true, false, cond, Option, Some, List, [], ◌∷◌, length, map, ap, sym, ◌∙◌, subst, arith}
use Rattle.std.proofs.lemmas.Option.{slice_get_past}
use Rattle.std.specs.Prelude.{◌==◌, option_and_then, slice_get}
use Rattle.std.specs.List.{AllByRecursion, find}
use Rattle.etagere_base.specs.declared.ids.Allocation.{Allocation}
use Rattle.etagere_base.specs.Frames.{atlas_frame}
use Rattle.etagere_base.specs.Lists.{times}
use Rattle.etagere_base.proofs.EachLemmas.{Each-weaken}
use Rattle.shelf_model.specs.Callers.{AreTied, IsFound}
use Rattle.shelf_model.specs.Fresh.{fresh}
use Rattle.shelf_model.specs.Places.{allocations}
use Rattle.shelf_model.specs.State.{AtlasState}
use Rattle.shelf_model.proofs.Callers.{fresh-allocated, promises-new}
use Rattle.snapshot_records.specs.declared.shelves.AtlasSnapshot.{AtlasSnapshot}
use Rattle.shelf_records.specs.Snapshots.{snapshot_records}
use Rattle.shelf_records.specs.StandsFor.{StandsFor}
use Rattle.run_scripts.specs.declared.commands.AtlasCommand.{AtlasCommand}
use Rattle.run_scripts.specs.declared.commands.Reply.{Reply}
use Rattle.etagere_run.specs.Answers.AtlasRuns.{shelf_atlas}
use Rattle.etagere_run.specs.Answers.Live.{Entry, live_after, live_allocations, live_from}
use Rattle.etagere_run.specs.Answers.Runs.{IsGiven, Kind, Runs, effects, live_in}
use Rattle.etagere_run.specs.Answers.Private.Given.{given_by}
use Rattle.etagere_run.specs.Answers.Private.Tied.{IsTied, SuitsRuns}
use Rattle.etagere_run.proofs.RunAnswers.AtlasAnswered.{atlas-suits}
use Rattle.etagere_run.proofs.RunAnswers.AtlasAnswers.{tied-cleared}
use Rattle.etagere_run.proofs.RunAnswers.EveryRun.{every_atlas_run}
use Rattle.traffic.specs.Continuing.{renumbered, whole_position}
use Rattle.traffic.specs.Ledgers.{entries_from}
use Rattle.traffic.specs.Resuming.{IsRestOfRun}
use Rattle.traffic.proofs.Cutting.{answered_each, at_same, joined}
use Rattle.traffic.proofs.Renumbering.{run-renumbered}
use Rattle.traffic.proofs.WholePositions.{AreGiven, AreOfWhole, StandsAlone, ids_of, stands-alone, whole-one, whole-own, whole-renumbered}

-- what ties a ledger to its atlas does so after a run
tied-after : {S C : Type 0} (kind : Kind S C) (Tied : List Entry → S → Type 0) → SuitsRuns kind Tied
    → (position : ℕ) (entries : List Entry) (old new : S) (commands : List C) (replies : List Reply)
    → Tied entries old → Runs kind position entries old commands replies new
    → Tied (live_from position entries (effects kind commands replies)) new
tied-after {S} kind Tied suits position entries old new [] [] tied run = subst (λ (s : S). Tied entries s) (sym run) tied
tied-after kind Tied suits position entries old new [] (r ∷ replies) tied never = absurd never
tied-after kind Tied suits position entries old new (c ∷ commands) [] tied never = absurd never
tied-after kind Tied suits position entries old new (c ∷ commands) (r ∷ replies) tied run =
    let later = live_after position (kind.effect c r) entries in
    let answer = suits.steps position entries old run.0 c r tied run.1 in
    tied-after kind Tied suits (position + 1) later run.0 new commands replies answer.tied run.2

-- what is found under an id stands there
found-counted : (id : ℕ) (all : List Allocation) (allocation : Allocation)
    → find (λ (other : Allocation). other.id == id) all ≡ Some allocation → 1 ≤ times id (ids_of all)
found-counted id [] allocation is = absurd (cc)
found-counted id (other ∷ all) allocation is = here (other.id == id) is (found-counted id all allocation)
  where
    here : (b : Bool) → cond b (Some other) (find (λ (o : Allocation). o.id == id) all) ≡ Some allocation
        → (find (λ (o : Allocation). o.id == id) all ≡ Some allocation → 1 ≤ times id (ids_of all))
        → 1 ≤ cond b 1 0 + times id (ids_of all)
    here true found later = omega arith
    here false found later = let some = later found in omega (arith, some)

-- a fact of each that is live is one of each entry
each-entry : (P : Allocation → Type 0) (entries : List Entry) → AllByRecursion P (live_allocations entries)
    → AllByRecursion (λ (entry : Entry). P entry.allocation) entries
each-entry P [] each = tt
each-entry P (entry ∷ entries) each = (each.0, each-entry P entries each.1)

-- what two callers keep of one atlas
module _ (given : ℕ → Option Allocation) (entries : List Entry) (live all : List Allocation)
    (are : AreGiven given entries) (most : (id : ℕ) → times id (ids_of (live_allocations entries)) ≤ 1)
    (entries_tied : AreTied (live_allocations entries) all) (live_tied : AreTied live all) where
  -- what one keeps stands alone in the entries of the other
  one_alone : (allocation : Allocation) → IsFound all allocation → StandsAlone given entries allocation
  one_alone allocation found =
      let counted = found-counted allocation.id all allocation found in
      let here = entries_tied.counted allocation.id in
      let few = most allocation.id in
      stands-alone given entries allocation are
      (Each-weaken (λ (e : Entry). IsFound all e.allocation)
      (λ (e : Entry). e.allocation.id ≡ allocation.id → e.allocation ≡ allocation) entries
      (λ e other ids. same e.allocation other ids)
      (each-entry (IsFound all) entries entries_tied.found))
      (omega (arith, counted, here, few))
    where
      same : (other : Allocation) → IsFound all other → other.id ≡ allocation.id → other ≡ allocation
      same other is ids =
          let both : Some other ≡ Some allocation =
          sym is ∙ ap (λ (n : ℕ). find (λ (o : Allocation). o.id == n) all) ids ∙ found in
          cc

  each-alone : AllByRecursion (StandsAlone given entries) live
  each-alone = Each-weaken (IsFound all) (StandsAlone given entries) live (λ allocation found. one_alone allocation found) live_tied.found

  live-once : (id : ℕ) → times id (ids_of live) ≤ 1
  live-once id =
      let here = entries_tied.counted id in
      let there = live_tied.counted id in
      let few = most id in
      omega (arith, here, there, few)

-- what goes on from a snapshot goes on with the run that led to it
pub rest-of-run : (snapshot : AtlasSnapshot) (commands : List AtlasCommand) (live : List Allocation) (replies : List Reply)
    (atlas last : AtlasState)
    → StandsFor (snapshot_records snapshot) atlas → AreTied live (allocations atlas)
    → Runs shelf_atlas (length live) (entries_from 0 live) atlas commands replies last
    → IsRestOfRun snapshot commands live replies
rest-of-run snapshot commands live replies atlas last restored tied goes size options accepted short first earlier saved run stands =
    let frame = atlas_frame size options in
    let before = length first in
    let entries = live_in shelf_atlas first earlier in
    let same : atlas ≡ saved = restored.spelled ∙ sym stands.spelled in
    let given : ℕ → Option Allocation = λ n. option_and_then given_by (slice_get earlier n) in
    let kept = (every_atlas_run size options accepted short.width short.height first earlier saved run).end in
    let are : AreGiven given entries =
    Each-weaken (IsGiven shelf_atlas frame first earlier) (λ (e : Entry). given e.position ≡ Some e.allocation) entries
    (λ e is. ap (λ (o : Option Reply). option_and_then given_by o) is.reply) kept.given in
    let many = answered_each shelf_atlas 0 [] (fresh frame) saved first earlier run in
    let entries_tied = (tied-after shelf_atlas IsTied atlas-suits 0 [] (fresh frame) saved first earlier
    (tied-cleared (fresh frame) (fresh-allocated frame) (promises-new size options accepted short.width short.height)) run).allocated in
    let live_tied : AreTied live (allocations saved) = subst (λ (s : AtlasState). AreTied live (allocations s)) same tied in
    let whole : AreOfWhole before given entries live = record {
      each = each-alone given entries live (allocations saved) are kept.live.laid_out.ids entries_tied live_tied;
      ids = live-once given entries live (allocations saved) are kept.live.laid_out.ids entries_tied live_tied;
      given_each = are;
      given_before = λ n behind.
          let past : length earlier ≤ n = omega (arith, many, behind) in
          ap (λ (o : Option Reply). option_and_then given_by o) (slice_get_past earlier n past);
    } in
    let new_position = whole_position before entries live in
    let rest = run-renumbered new_position (whole-one before given entries live whole) (length live) before (entries_from 0 live) entries
    saved last commands replies (whole-renumbered before given entries live whole) (whole-own before given entries live)
    (subst (λ (s : AtlasState). Runs shelf_atlas (length live) (entries_from 0 live) s commands replies last) same goes) in
    let here : before ≡ 0 + before = omega arith in (
      last,
      joined shelf_atlas 0 [] (fresh frame) saved last first (map (renumbered new_position) commands) earlier replies run
          (at_same shelf_atlas before (0 + before) entries saved (map (renumbered new_position) commands) replies last here rest),
    )
