use Rattle.std.proofs.Common.{◌≡◌, ◌∙◌, ℕ, List, ap, subst, sym}
use Rattle.etagere_base.specs.declared.frames.Frame.{Frame}
use Rattle.bucketed_model.specs.Atlas.{KeepsPromises}
use Rattle.bucketed_model.specs.State.{BucketedState}
use Rattle.bucketed_model.proofs.Promises.{valid-promises}
use Rattle.bucketed_records.specs.BucketRecords.{BucketRecords, bucket_walk, state_of}
use Rattle.bucketed_records.specs.Private.Restored.{IsSnapshotJudged, linked_records}
use Rattle.bucketed_records.specs.Private.Store.{Stored, stored_state}
use Rattle.bucketed_records.specs.declared.records.KeptShelf.{KeptShelf}
use Rattle.bucketed_records.specs.Private.Witnessed.{HasTotals, Witnessed}
use Rattle.bucketed_records.proofs.Spelling.ReadBack.{state-read}
use Rattle.etagere_bucketed.proofs.atlas.BucketedAtlasAllocator.of_judged.Goals as goal

-- the state that is read from what was judged
judged-state : (atlas : BucketRecords) (frame : Frame) (all : List KeptShelf) (used area : ℕ) (stored : Stored) → IsSnapshotJudged atlas frame all used area
    → stored ≡ record { shelves = all; buckets = atlas.buckets; unused = atlas.unused } → stored_state frame stored ≡ state_of atlas
judged-state atlas frame all used area stored judged is =
    let from : Stored = record { shelves = all; buckets = atlas.buckets; unused = atlas.unused } in
    let valid = judged.witnessed.valid in
    ap (stored_state frame) is
    ∙ ap (λ (f : Frame). stored_state f from) judged.frame_is
    ∙ state-read atlas.frame from (bucket_walk atlas.buckets atlas.unused).met (state_of atlas).shelves valid.frame.column_width valid.shelves judged.witnessed.spells

pub invariant_of-result : goal.invariant_of-result
invariant_of-result c =
    let atlas : BucketRecords = linked_records c.args.snapshot in
    let numbers : List ℕ = (bucket_walk atlas.buckets atlas.unused).met in
    let same =
    sym (judged-state atlas c.args.judged.frame c.args.judged.shelves.items c.args.judged.in_use c.args.judged.space c.of_records.result c.requires c.of_records.ensures) in
    let totals = c.requires.totals in
    record {
      unused = numbers;
      witnessed = subst (Witnessed c.of_records.result numbers) same
          (subst (λ (s : Stored). Witnessed s numbers (state_of atlas)) (sym c.of_records.ensures) c.requires.witnessed);
      totals = subst (λ (s : BucketedState). HasTotals c.from.result c.from-2.result c.args.judged.in_use c.args.judged.space s) same
          (record { column = c.from.ensures ∙ totals.column; height = c.from-2.ensures ∙ totals.height; in_use = totals.in_use; space = totals.space });
    }

pub returns-clause-state : goal.returns-clause-state
returns-clause-state c =
    judged-state (linked_records c.args.snapshot) c.args.judged.frame c.args.judged.shelves.items c.args.judged.in_use c.args.judged.space c.of_records.result c.requires c.of_records.ensures

pub returns-clause-promises : goal.returns-clause-promises
returns-clause-promises c =
    let atlas : BucketRecords = linked_records c.args.snapshot in
    subst KeepsPromises
    (sym (judged-state atlas c.args.judged.frame c.args.judged.shelves.items c.args.judged.in_use c.args.judged.space c.of_records.result c.requires c.of_records.ensures))
    (valid-promises (state_of atlas) c.requires.witnessed.valid)
