use Rattle.std.proofs.Common.{◌≡◌, ◌+◌, ◌-◌, ◌≤◌, length}
use Rattle.shelf_store.specs.Private.RecordsGrown as spec
use Rattle.shelf_store.proofs.growing.counting.filled_ends.Given as goal

-- what was counted and what is left is the count of all
abbrev pub invariant-loop-step : goal.invariant-loop-step
invariant-loop-step l = record {
  counted : l.count + spec.counted_from (spec.is_filled_end l.records.shelves) l.records.shelves (length l.records.shelves - l._step) l.at ≡ spec.filled_ends_of l.records;
  few : l.count ≤ l._step;
}
