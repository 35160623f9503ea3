use Rattle.std.proofs.Common.{◌≡◌, ◌++◌, ◌≤◌, drop, length}
use Rattle.shelf_store.proofs.ByHeight.MetShelves.{met_by_height}
use Rattle.etagere_shelves.proofs.restored.shelves_by_height.Given as goal

-- the shelves so far and those that are left are all, and there is room for them
abbrev pub invariant-loop-number : goal.invariant-loop-number
invariant-loop-number l = record {
  whole : l.by_height.items ++ met_by_height l.frame (drop l.number-index l.numbers) ≡ met_by_height l.frame l.numbers;
  room : length l.records.shelves ≤ l.by_height.capacity;
}
