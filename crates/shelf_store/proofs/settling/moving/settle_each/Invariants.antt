use Rattle.std.proofs.Common.{◌≡◌, ◌≤◌, length, max}
use Rattle.shelf_store.specs.Private.Settling.{AreByHeightExceptNoted, BeginAsListed}
use Rattle.shelf_store.proofs.settling.moving.settle_each.Given as goal

-- the list holds but for those that have changed, and those that it has begin as listed
abbrev pub invariant-loop-by_height : goal.invariant-loop-by_height
invariant-loop-by_height l = record {
  holds : AreByHeightExceptNoted l.frame l.records l.pending.notes l.by_height.items;
  as_listed : BeginAsListed l.records.shelves l.pending.notes;
  room : length l.records.shelves ≤ l.by_height.capacity;
  capacity : l.fn.by_height.capacity ≤ l.by_height.capacity;
  room_to_note : l.pending.room ≡ l.fn.pending.room;
  parked_below : l.pending.notes.parked_below ≤ max l.fn.pending.notes.parked_below l.fn.pending.notes.narrow_below;
  narrow_below : l.pending.notes.narrow_below ≤ l.fn.pending.notes.narrow_below;
}

abbrev pub decreases-loop-by_height : goal.decreases-loop-by_height
decreases-loop-by_height l = length l.pending.notes.noted
