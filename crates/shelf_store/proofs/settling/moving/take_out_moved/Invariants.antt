use Rattle.std.proofs.Common.{◌≡◌, ◌≤◌, ℕ, take}
use Rattle.etagere_base.specs.declared.frames.Frame.{Frame}
use Rattle.shelf_records.specs.Private.Kept.{AreKept}
use Rattle.shelf_store.specs.Private.Settling.{AreByHeightExceptNoted}
use Rattle.shelf_notes.specs.Private.Pending.{is_noted, is_parked}
use Rattle.shelf_store.proofs.ByHeight.SettledShelves.{BeginAsListedAmong}
use Rattle.shelf_store.proofs.settling.moving.take_out_moved.Given as goal

-- the list holds but for those that have changed, of which the ones so far begin as listed
abbrev pub invariant-loop-index : goal.invariant-loop-index
invariant-loop-index l = record {
  holds : (frame : Frame) → AreKept frame l.records → AreByHeightExceptNoted frame l.records l.fn.pending.notes l.fn.by_height.items
      → AreByHeightExceptNoted frame l.records l.pending.notes l.by_height.items;
  as_listed : BeginAsListedAmong l.records.shelves l.pending.notes (take l.index l.pending.notes.noted);
  noted : l.pending.notes.noted ≡ l.fn.pending.notes.noted;
  same : (k : ℕ) → is_noted l.pending.notes k ≡ is_noted l.fn.pending.notes k;
  parked : (k : ℕ) → is_parked l.pending.notes k ≡ is_parked l.fn.pending.notes k;
  parked_below : l.pending.notes.parked_below ≡ l.fn.pending.notes.parked_below;
  narrow_below : l.pending.notes.narrow_below ≡ l.fn.pending.notes.narrow_below;
  capacity : l.fn.by_height.capacity ≤ l.by_height.capacity;
  room : l.pending.room ≡ l.fn.pending.room;
}
