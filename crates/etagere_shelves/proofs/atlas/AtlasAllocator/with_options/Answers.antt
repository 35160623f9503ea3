use Rattle.std.proofs.Common.{◌≡◌, ap, arith, length, refl, sym, subst, ◌∙◌}
use Rattle.etagere_base.specs.Frames.{HasAllColumns}
use Rattle.shelf_records.specs.RecordLists.{Records}
use Rattle.shelf_model.specs.Atlas.{KeepsPromises}
use Rattle.shelf_model.specs.Fresh.{fresh}
use Rattle.shelf_model.specs.Places.{allocations}
use Rattle.shelf_heights.specs.Private.ByHeight.{AreByHeight}
use Rattle.shelf_store.specs.Private.FreshRecords.{fresh_shelf}
use Rattle.shelf_records.specs.Private.Kept.{AreKept, state_of}
use Rattle.shelf_model.specs.Space.{allocated_space}
use Rattle.shelf_model.specs.State.{AtlasState, items_in_use}
use Rattle.shelf_model.proofs.Places.FreshLemmas.{fresh-allocated, fresh-valid, items_in_use-empty_columns, space-fresh}
use Rattle.shelf_model.proofs.Promises.{promises}
use Rattle.shelf_store.proofs.ByHeight.KeptSeconds.{unknown-seconds}
use Rattle.shelf_store.proofs.ByHeight.SplitByHeight.{settled-holds}
use Rattle.shelf_store.proofs.Spelled.FreshKept.{fresh-kept}
use Rattle.shelf_store.proofs.Spelled.NumberedLists.{numbered-length}
use Rattle.etagere_shelves.proofs.atlas.AtlasAllocator.with_options.Goals as goal

-- the frame that is made has as many columns as fit
columns : (c : goal.In-Ok-unknown_seconds) → HasAllColumns c.atlas_frame-frame.result
columns c = subst HasAllColumns (sym c.atlas_frame-frame.ensures.value) refl

-- the state that the fields stand for
made : (c : goal.In-Ok-unknown_seconds) → state_of c.atlas_frame-frame.result c.in-Ok.records ≡ fresh c.atlas_frame-frame.result
made c =
    let frame = c.atlas_frame-frame.result in
    ap (state_of frame) c.in-Ok.ensures ∙ (fresh-kept frame c.atlas_frame-frame.ensures.frame (columns c)).0

-- what is kept of the records, and of the list by height
kept : (c : goal.In-Ok-unknown_seconds) → AreKept c.atlas_frame-frame.result c.in-Ok.records
kept c = subst (AreKept c.atlas_frame-frame.result) (sym c.in-Ok.ensures) (fresh-kept c.atlas_frame-frame.result c.atlas_frame-frame.ensures.frame (columns c)).1

are : (c : goal.In-Ok-unknown_seconds) → AreByHeight c.atlas_frame-frame.result c.in-Ok.records c.in-Ok-fresh_by_height.by_height.items
are c =
    subst (λ (records : Records). AreByHeight c.atlas_frame-frame.result records c.in-Ok-fresh_by_height.by_height.items) (sym c.in-Ok.ensures) c.in-Ok-fresh_by_height.ensures.by_height

pub settled_notes-requires : goal.settled_notes-requires
settled_notes-requires c =
    let frame = c.atlas_frame-frame.result in
    record {
      list = record {
        frame = frame;
        kept = subst (AreKept frame) (sym c.in-Ok.ensures) (fresh-kept frame c.atlas_frame-frame.ensures.frame (subst HasAllColumns (sym c.atlas_frame-frame.ensures.value) refl)).1;
        by_height = subst (λ (records : Records). AreByHeight frame records c.in-Ok-fresh_by_height.by_height.items) (sym c.in-Ok.ensures) c.in-Ok-fresh_by_height.ensures.by_height;
      };
    }

pub invariant_of-result : goal.invariant_of-result
invariant_of-result c =
    let frame = c.atlas_frame-frame.result in
    record {
      kept = kept c;
      by_height = settled-holds frame c.in-Ok.records c.in-Ok-settled_notes.pending.notes c.in-Ok-fresh_by_height.by_height.items (kept c) (are c) c.in-Ok-settled_notes.ensures.settled;
      room = omega (arith, ap (λ (r : Records). length r.shelves) c.in-Ok.ensures, numbered-length (fresh_shelf frame) 0 frame.columns, c.in-Ok-fresh_by_height.ensures.room);
      room_to_note = c.in-Ok-settled_notes.ensures.room;
      seconds = unknown-seconds frame c.in-Ok.records c.in-Ok-unknown_seconds.seconds (kept c) c.in-Ok-unknown_seconds.ensures;
      counted = sym (ap (λ (s : AtlasState). items_in_use s.shelves) (made c) ∙ items_in_use-empty_columns frame 0 frame.columns);
      space = sym (ap allocated_space (made c) ∙ space-fresh frame);
    }

pub returns-clause-ok : goal.returns-clause-ok
returns-clause-ok c = made c ∙ ap fresh c.atlas_frame-frame.ensures.value

pub returns-clause-promises : goal.returns-clause-promises
returns-clause-promises c =
    let frame = c.atlas_frame-frame.result in
    subst KeepsPromises (sym (made c)) (promises (fresh frame) (fresh-valid frame c.atlas_frame-frame.ensures.frame (columns c)))

pub returns-clause-empty : goal.returns-clause-empty
returns-clause-empty c = ap allocations (made c) ∙ fresh-allocated c.atlas_frame-frame.result
