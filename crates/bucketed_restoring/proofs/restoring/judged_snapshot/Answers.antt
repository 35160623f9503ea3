use Rattle.std.proofs.Common.{pos, ◌≡◌, ◌∙◌, ◌%◌, ◌/◌, ◌<◌, ℕ, Bool, true, false, List, ap, arith, refl, subst, sym}
use Rattle.std.proofs.lemmas.Result.{err_from_is_err_and}
use Rattle.std.specs.List.{AllByRecursion}
use Rattle.std.specs.Prelude.{Decides}
use Rattle.etagere_base.proofs.DecidingLemmas.{denied, granted}
use Rattle.etagere_base.specs.declared.faults.RestoreFault.TheVariants as faults
use Rattle.etagere_base.specs.declared.frames.Frame.{Frame}
use Rattle.bucketed_model.specs.Frames.{IsBucketedFrame}
use Rattle.bucketed_model.specs.Valid.{ends_idle}
use Rattle.bucketed_records.specs.declared.records.LinkedBucketShelf.{LinkedBucketShelf}
use Rattle.bucketed_records.specs.BucketRecords.{BucketRecords, state_of}
use Rattle.bucketed_records.specs.declared.records.KeptShelf.{KeptShelf}
use Rattle.bucketed_records.specs.Private.Witnessed.{HasTotals}
use Rattle.bucketed_records.specs.Private.Restored.{linked_records}
use Rattle.bucketed_records.specs.StandsFor.{HasCounts, HasShelves, Keeps}
use Rattle.bucketed_restoring.specs.Private.Judging as judging
use Rattle.bucketed_restoring.specs.Private.Judging.{is_stacked}
use Rattle.bucketed_restoring.proofs.Judged.Assembled.{area-judged, assembled, columns-said, idle-kept, restored, same-lists, totals}
use Rattle.bucketed_restoring.proofs.Judged.LinksRead.{all-links, lists-read}
use Rattle.bucketed_restoring.proofs.Judged.StackTests.{stacked-decided}
use Rattle.bucketed_restoring.proofs.restoring.judged_snapshot.Goals as goal

-- the pass over the shelves of a snapshot is that over its records
pass : (atlas : BucketRecords) (frame : Frame) (shelves : List LinkedBucketShelf) (result : Bool) → frame ≡ atlas.frame → shelves ≡ atlas.shelves
    → result ≡ is_stacked frame shelves atlas.current_column atlas.available_height → is_stacked atlas.frame atlas.shelves atlas.current_column atlas.available_height ≡ result
pass atlas frame shelves result same_frame same_shelves is =
    sym (is ∙ ap (λ (f : Frame). is_stacked f shelves atlas.current_column atlas.available_height) same_frame
    ∙ ap (λ (ss : List LinkedBucketShelf). is_stacked atlas.frame ss atlas.current_column atlas.available_height) same_shelves)

-- a frame that passes keeps its rule
framed : (atlas : BucketRecords) (frame : Frame) (result : Bool) → frame ≡ atlas.frame → Decides result (IsBucketedFrame frame) → result ≡ true → Keeps atlas faults.Frame
framed atlas frame result same decides passed = subst IsBucketedFrame same (granted result (IsBucketedFrame frame) decides passed)

pub returns-then-not-is_stacked-clause-fault : goal.returns-then-not-is_stacked-clause-fault
returns-then-not-is_stacked-clause-fault c =
    let atlas : BucketRecords = linked_records c.args.snapshot.now in
    let frame = framed atlas c.snapshot_frame-frame.result c.is_frame.result c.snapshot_frame-frame.ensures.value c.is_frame.ensures (grind (arith, c.if-not-is_frame.false)) in
    let none : c.is_stacked.result ≡ false = grind (arith, c.if-not-is_stacked.true) in
    denied (is_stacked atlas.frame atlas.shelves atlas.current_column atlas.available_height) (HasShelves atlas (state_of atlas)) (stacked-decided atlas frame.column_width)
    (pass atlas c.snapshot_frame-frame.result c.deref.result.now c.is_stacked.result c.snapshot_frame-frame.ensures.value c.deref.ensures.value c.is_stacked.ensures ∙ none)

pub judged_lists-requires-clause-along : goal.judged_lists-requires-clause-along
judged_lists-requires-clause-along c =
    let atlas : BucketRecords = linked_records c.args.snapshot.now in
    let frame = framed atlas c.snapshot_frame-frame.result c.is_frame.result c.snapshot_frame-frame.ensures.value c.is_frame.ensures (grind (arith, c.if-not-is_frame.false)) in
    let all : c.is_stacked.result ≡ true = grind (arith, c.if-not-is_stacked.false) in
    let has = granted (is_stacked atlas.frame atlas.shelves atlas.current_column atlas.available_height) (HasShelves atlas (state_of atlas)) (stacked-decided atlas frame.column_width)
    (pass atlas c.snapshot_frame-frame.result c.deref.result.now c.is_stacked.result c.snapshot_frame-frame.ensures.value c.deref.ensures.value c.is_stacked.ensures ∙ all) in
    subst (λ (f : Frame). AllByRecursion (λ (shelf : LinkedBucketShelf). shelf.x % f.column_width ≡ 0) c.deref-3.result.now) (sym c.snapshot_frame-frame.ensures.value)
    (subst (λ (ss : List LinkedBucketShelf). AllByRecursion (λ (shelf : LinkedBucketShelf). shelf.x % atlas.frame.column_width ≡ 0) ss) (sym c.deref-3.ensures.value) has.along)

pub judged_lists-requires-clause-columns : goal.judged_lists-requires-clause-columns
judged_lists-requires-clause-columns c =
    let atlas : BucketRecords = linked_records c.args.snapshot.now in
    let frame = framed atlas c.snapshot_frame-frame.result c.is_frame.result c.snapshot_frame-frame.ensures.value c.is_frame.ensures (grind (arith, c.if-not-is_frame.false)) in
    let all : c.is_stacked.result ≡ true = grind (arith, c.if-not-is_stacked.false) in
    let has = granted (is_stacked atlas.frame atlas.shelves atlas.current_column atlas.available_height) (HasShelves atlas (state_of atlas)) (stacked-decided atlas frame.column_width)
    (pass atlas c.snapshot_frame-frame.result c.deref.result.now c.is_stacked.result c.snapshot_frame-frame.ensures.value c.deref.ensures.value c.is_stacked.ensures ∙ all) in
    subst (λ (f : Frame). AllByRecursion (λ (shelf : LinkedBucketShelf). shelf.x / f.column_width < f.columns) c.deref-3.result.now) (sym c.snapshot_frame-frame.ensures.value)
    (subst (λ (ss : List LinkedBucketShelf). AllByRecursion (λ (shelf : LinkedBucketShelf). shelf.x / atlas.frame.column_width < atlas.frame.columns) ss) (sym c.deref-3.ensures.value)
    (columns-said atlas.frame atlas.buckets atlas.shelves has.columns))

pub returns-in_err-lists-clause-fault : goal.returns-in_err-lists-clause-fault
returns-in_err-lists-clause-fault c =
    let passed = err_from_is_err_and c.from_residual.result c.from_residual.ensures.1 in
    rw (passed.1, passed.2) (c.in_err-lists.ensures.fault (linked_records c.args.snapshot.now) (sym c.snapshot_frame-frame.ensures.value) (sym c.deref-3.ensures.value) (sym c.deref-2.ensures.value) refl)

pub returns-then-ends_idle-clause-fault : goal.returns-then-ends_idle-clause-fault
returns-then-ends_idle-clause-fault c =
    let atlas : BucketRecords = linked_records c.args.snapshot.now in
    let lists = same-lists atlas c.snapshot_frame-frame.result c.deref-2.result.now c.deref-3.result.now c.in_ok-lists.lists.kept.shelves.items c.in_ok-lists.lists.in_use c.in_ok-lists.lists.kept.space
    c.snapshot_frame-frame.ensures.value c.deref-2.ensures.value c.deref-3.ensures.value c.in_ok-lists.ensures.ok in
    let said : c.ends_idle.result ≡ ends_idle (state_of atlas).shelves =
    c.ends_idle.ensures ∙ ap (λ (ks : List KeptShelf). judging.ends_idle ks) (c.deref-4.ensures.value ∙ lists.kept) ∙ idle-kept atlas.frame atlas.buckets atlas.shelves in
    λ (keeps : ends_idle (state_of atlas).shelves ≡ false). let none : c.ends_idle.result ≡ false = said ∙ keeps in absurd (cc)

pub returns-in_default-clause-fault : goal.returns-in_default-clause-fault
returns-in_default-clause-fault c =
    let atlas : BucketRecords = linked_records c.args.snapshot.now in
    let kept : List KeptShelf = c.in_ok-lists.lists.kept.shelves.items in
    let used : ℕ = c.in_ok-lists.lists.in_use in
    let area : ℕ = c.in_ok-lists.lists.kept.space in
    let lists = same-lists atlas c.snapshot_frame-frame.result c.deref-2.result.now c.deref-3.result.now kept used area
    c.snapshot_frame-frame.ensures.value c.deref-2.ensures.value c.deref-3.ensures.value c.in_ok-lists.ensures.ok in
    λ said. c.in_default.ensures.none (said ∙ sym (area-judged atlas kept used area lists))

pub returns-clause-ok : goal.returns-clause-ok
returns-clause-ok c =
    let atlas : BucketRecords = linked_records c.args.snapshot.now in
    let frame = framed atlas c.snapshot_frame-frame.result c.is_frame.result c.snapshot_frame-frame.ensures.value c.is_frame.ensures (grind (arith, c.if-not-is_frame.false)) in
    let all : c.is_stacked.result ≡ true = grind (arith, c.if-not-is_stacked.false) in
    let shelves : HasShelves atlas (state_of atlas) =
    granted (is_stacked atlas.frame atlas.shelves atlas.current_column atlas.available_height) (HasShelves atlas (state_of atlas)) (stacked-decided atlas frame.column_width)
    (pass atlas c.snapshot_frame-frame.result c.deref.result.now c.is_stacked.result c.snapshot_frame-frame.ensures.value c.deref.ensures.value c.is_stacked.ensures ∙ all) in
    let counts : HasCounts atlas = record { shelves = omega arith; buckets = omega arith } in
    let kept : List KeptShelf = c.in_ok-lists.lists.kept.shelves.items in
    let used : ℕ = c.in_ok-lists.lists.in_use in
    let area : ℕ = c.in_ok-lists.lists.kept.space in
    let lists = same-lists atlas c.snapshot_frame-frame.result c.deref-2.result.now c.deref-3.result.now kept used area
    c.snapshot_frame-frame.ensures.value c.deref-2.ensures.value c.deref-3.ensures.value c.in_ok-lists.ensures.ok in
    let busy : c.ends_idle.result ≡ false = c.if-ends_idle.false in
    let neighbours : ends_idle (state_of atlas).shelves ≡ false =
    sym (c.ends_idle.ensures ∙ ap (λ (ks : List KeptShelf). judging.ends_idle ks) (c.deref-4.ensures.value ∙ lists.kept) ∙ idle-kept atlas.frame atlas.buckets atlas.shelves) ∙ busy in
    let space : atlas.allocated_space ≡ pos area = c.in-Some.ensures.said in
    let same : c.in-Some.space ≡ area = c.in-Some.ensures.same in
    record {
      frame_is = c.snapshot_frame-frame.ensures.value;
      stands = assembled atlas kept used area lists frame counts shelves neighbours space;
      witnessed = restored atlas kept used area lists frame counts shelves neighbours space;
      totals = subst (λ (n : ℕ). HasTotals atlas.current_column atlas.available_height used n (state_of atlas)) (sym same) (totals atlas kept used area lists frame counts shelves neighbours space);
    }

pub returns-in_err-lists-clause-until : goal.returns-in_err-lists-clause-until
returns-in_err-lists-clause-until c =
    let passed = err_from_is_err_and c.from_residual.result c.from_residual.ensures.1 in
    rw (passed.1, passed.2) (c.in_err-lists.ensures.until (linked_records c.args.snapshot.now) (sym c.snapshot_frame-frame.ensures.value) (sym c.deref-3.ensures.value) (sym c.deref-2.ensures.value) refl)

pub returns-then-ends_idle-clause-until : goal.returns-then-ends_idle-clause-until
returns-then-ends_idle-clause-until c =
    let atlas : BucketRecords = linked_records c.args.snapshot.now in
    let kept : List KeptShelf = c.in_ok-lists.lists.kept.shelves.items in
    let used : ℕ = c.in_ok-lists.lists.in_use in
    let area : ℕ = c.in_ok-lists.lists.kept.space in
    let lists = same-lists atlas c.snapshot_frame-frame.result c.deref-2.result.now c.deref-3.result.now kept used area
    c.snapshot_frame-frame.ensures.value c.deref-2.ensures.value c.deref-3.ensures.value c.in_ok-lists.ensures.ok in
    lists-read atlas kept used area c.judged_lists.new.steps lists (c.in_ok-lists.ensures.all ∙ rw (c.deref-2.ensures.value, c.deref-3.ensures.value) refl)

pub returns-in_default-clause-until : goal.returns-in_default-clause-until
returns-in_default-clause-until c =
    let atlas : BucketRecords = linked_records c.args.snapshot.now in
    let kept : List KeptShelf = c.in_ok-lists.lists.kept.shelves.items in
    let used : ℕ = c.in_ok-lists.lists.in_use in
    let area : ℕ = c.in_ok-lists.lists.kept.space in
    let lists = same-lists atlas c.snapshot_frame-frame.result c.deref-2.result.now c.deref-3.result.now kept used area
    c.snapshot_frame-frame.ensures.value c.deref-2.ensures.value c.deref-3.ensures.value c.in_ok-lists.ensures.ok in
    lists-read atlas kept used area c.judged_lists.new.steps lists (c.in_ok-lists.ensures.all ∙ rw (c.deref-2.ensures.value, c.deref-3.ensures.value) refl)

pub returns-clause-all : goal.returns-clause-all
returns-clause-all c =
    let atlas : BucketRecords = linked_records c.args.snapshot.now in
    c.in_ok-lists.ensures.all ∙ rw (c.deref-2.ensures.value, c.deref-3.ensures.value) (sym (all-links atlas))
