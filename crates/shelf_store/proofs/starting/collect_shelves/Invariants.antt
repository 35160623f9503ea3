use Rattle.std.proofs.Common.{◌≤◌, length}
use Rattle.shelf_records.specs.RecordLists.{shelf_walk}
use Rattle.shelf_store.proofs.ByHeight.CollectedShelves.{Collects}
use Rattle.shelf_store.proofs.starting.collect_shelves.Given as goal

-- the shelves so far and those that are left of the chain are all, and there is room for them
abbrev pub invariant-loop-step : goal.invariant-loop-step
invariant-loop-step l = record {
  collects : Collects l.frame l.records l.by_height.items l.at l._step;
  room : length (shelf_walk l.records).met ≤ l.by_height.capacity;
  capacity : l.fn.by_height.capacity ≤ l.by_height.capacity;
}
