use Rattle.std.proofs.Common.{◌≡◌, [], length}
use Rattle.shelf_store.proofs.ByHeight.Followed.{AreUsed}
use Rattle.shelf_store.proofs.settling.noting.follow.Given as goal

-- the shelves so far are those that are known to be listed and in use
abbrev pub invariant-loop-index : goal.invariant-loop-index
invariant-loop-index l = record {
  kept : l.pending.notes.kept ≡ l.shelves;
  known : length l.pending.notes.standing ≡ length l.shelves;
  noted : l.pending.notes.noted ≡ [];
  parked_below : l.pending.notes.parked_below ≡ 0;
  used : AreUsed l.index l.by_height.items l.pending.notes;
  room : l.pending.room ≡ l.fn.pending.room;
}
