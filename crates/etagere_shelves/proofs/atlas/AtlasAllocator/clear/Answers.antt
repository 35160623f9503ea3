use Rattle.std.proofs.Common.{◌≡◌, List, ap, arith, length, sym, subst, ◌∙◌}
use Rattle.shelf_records.specs.RecordLists.{Records}
use Rattle.shelf_model.specs.Atlas.{KeepsPromises}
use Rattle.shelf_model.specs.Fresh.{fresh}
use Rattle.shelf_model.specs.Places.{allocations}
use Rattle.shelf_heights.specs.Private.ByHeight.{AreByHeight}
use Rattle.shelf_store.specs.Private.FreshRecords.{fresh_records, fresh_shelf}
use Rattle.shelf_store.specs.Private.Settling.{IsListOf}
use Rattle.etagere_shelves.specs.Private.Consistent.{IsConsistent}
use Rattle.etagere_shelves.specs.declared.atlas.AtlasAllocator.TheInside.{Inside}
use Rattle.shelf_heights.specs.declared.by_height.BoundedShelf.{BoundedShelf}
use Rattle.shelf_records.specs.Private.Kept.{AreKept, state_of}
use Rattle.shelf_model.specs.Space.{allocated_space}
use Rattle.shelf_model.specs.State.{AtlasState, items_in_use}
use Rattle.shelf_store.proofs.ByHeight.KeptSeconds.{unknown-seconds}
use Rattle.shelf_store.proofs.ByHeight.SplitByHeight.{settled-holds}
use Rattle.shelf_model.proofs.Places.FreshLemmas.{fresh-allocated, fresh-valid, items_in_use-empty_columns, space-fresh}
use Rattle.shelf_model.proofs.Promises.{promises}
use Rattle.shelf_store.proofs.Spelled.FreshKept.{fresh-kept}
use Rattle.shelf_store.proofs.Spelled.KeptCounts.{kept-item_records, kept-shelf_records}
use Rattle.shelf_store.proofs.Spelled.NumberedLists.{numbered-length}
use Rattle.shelf_records.proofs.Spelled.StandsKept.{witnesses}
use Rattle.etagere_shelves.proofs.atlas.AtlasAllocator.clear.Goals as goal

pub reset_records-requires : goal.reset_records-requires
reset_records-requires c =
    let inside = c.self.inside in
    let kept = c.self.invariant.kept in
    record {
      frame = (witnesses kept).valid.frame;
      shelves = kept-shelf_records inside.frame inside.records kept;
      items = kept-item_records inside.frame inside.records kept;
    }

pub reset_by_height-requires-clause-room : goal.reset_by_height-requires-clause-room
reset_by_height-requires-clause-room c =
    omega (arith, kept-shelf_records c.self.inside.frame c.self.inside.records c.self.invariant.kept, c.self.invariant.room)

-- fresh records keep every rule, and their shelves stand by height
kept-fresh : (inside : Inside) (records : Records) → IsConsistent inside → records ≡ fresh_records inside.frame → AreKept inside.frame records
kept-fresh inside records is same =
    let valid = (witnesses is.kept).valid in
    subst (AreKept inside.frame) (sym same) (fresh-kept inside.frame valid.frame valid.columns).1

are-fresh : (inside : Inside) (records : Records) (by_height : List BoundedShelf) → records ≡ fresh_records inside.frame → AreByHeight inside.frame (fresh_records inside.frame) by_height → AreByHeight inside.frame records by_height
are-fresh inside records by_height same are = subst (λ (r : Records). AreByHeight inside.frame r by_height) (sym same) are

-- the list has a shelf for each record
list-fresh : (inside : Inside) (records : Records) (by_height : List BoundedShelf) → IsConsistent inside → records ≡ fresh_records inside.frame → AreByHeight inside.frame (fresh_records inside.frame) by_height → IsListOf records by_height
list-fresh inside records by_height is same are = record {
  frame = inside.frame;
  kept = kept-fresh inside records is same;
  by_height = are-fresh inside records by_height same are;
}

pub settle_all_notes-requires-clause-few : goal.settle_all_notes-requires-clause-few
settle_all_notes-requires-clause-few c = (witnesses (kept-fresh c.self.inside c.reset_records.new.records c.self.invariant c.reset_records.ensures)).counts.shelves.1

pub settle_all_notes-requires-clause-room : goal.settle_all_notes-requires-clause-room
settle_all_notes-requires-clause-room c =
    let frame = c.self.inside.frame in
    omega (
      arith,
      ap (λ (r : Records). length r.shelves) c.reset_records.ensures,
      numbered-length (fresh_shelf frame) 0 frame.columns,
      kept-shelf_records frame c.self.inside.records c.self.invariant.kept,
      c.self.invariant.room_to_note,
    )

-- the state that the fields stand for at the end
made : (c : goal.After-self-2-1) → state_of c.self.inside.frame c.reset_records.new.records ≡ fresh c.self.inside.frame
made c =
    let frame = c.self.inside.frame in
    let valid = (witnesses c.self.invariant.kept).valid in
    ap (state_of frame) c.reset_records.ensures ∙ (fresh-kept frame valid.frame valid.columns).0

pub invariant_of-self : goal.invariant_of-self
invariant_of-self c =
    let frame = c.self.inside.frame in
    let valid = (witnesses c.self.invariant.kept).valid in
    let records : Records = c.reset_records.new.records in
    let by_height : List BoundedShelf = c.reset_by_height.new.by_height.items in
    let kept : AreKept frame records = kept-fresh c.self.inside records c.self.invariant c.reset_records.ensures in
    let are : AreByHeight frame records by_height = are-fresh c.self.inside records by_height c.reset_records.ensures c.reset_by_height.ensures.by_height in
    record {
      kept = kept;
      by_height = settled-holds frame records c.settle_all_notes.new.pending.notes by_height kept are
          (c.settle_all_notes.ensures.settled by_height (list-fresh c.self.inside records by_height c.self.invariant c.reset_records.ensures c.reset_by_height.ensures.by_height)
          (omega (arith, c.reset_by_height.ensures.len, ap (λ (r : Records). length r.shelves) c.reset_records.ensures, numbered-length (fresh_shelf frame) 0 frame.columns)));
      room = omega (
        arith,
        ap (λ (r : Records). length r.shelves) c.reset_records.ensures,
        numbered-length (fresh_shelf frame) 0 frame.columns,
        kept-shelf_records frame c.self.inside.records c.self.invariant.kept,
        c.self.invariant.room,
        c.reset_by_height.ensures.capacity,
      );
      room_to_note = omega (
        arith,
        ap (λ (r : Records). length r.shelves) c.reset_records.ensures,
        numbered-length (fresh_shelf frame) 0 frame.columns,
        kept-shelf_records frame c.self.inside.records c.self.invariant.kept,
        c.self.invariant.room_to_note,
        c.settle_all_notes.ensures.room,
      );
      seconds = unknown-seconds frame records c.restart.new.self kept c.restart.ensures.unknown;
      counted = sym (ap (λ (s : AtlasState). items_in_use s.shelves) (made c) ∙ items_in_use-empty_columns frame 0 frame.columns);
      space = sym (ap allocated_space (made c) ∙ space-fresh frame);
    }

pub returns : goal.returns
returns c =
    let frame = c.self.inside.frame in
    let valid = (witnesses c.self.invariant.kept).valid in
    record {
      cleared = made c ∙ ap (λ (s : AtlasState). fresh s.frame) c.self.view_is;
      empty = ap allocations (made c) ∙ fresh-allocated frame;
      promises = subst KeepsPromises (sym (made c)) (promises (fresh frame) (fresh-valid frame valid.frame valid.columns));
    }

pub reset_by_height-requires-clause-frame : goal.reset_by_height-requires-clause-frame
reset_by_height-requires-clause-frame c = (witnesses c.self.invariant.kept).valid.frame
