use Rattle.std.proofs.Common.{◌≡◌, ◌+◌, ◌-◌, ◌≤◌, length}
use Rattle.std.specs.Prelude.{not}
use Rattle.shelf_store.specs.Private.RecordsGrown as spec
use Rattle.shelf_store.proofs.growing.counting.allocated_ends.Given as goal

-- what was counted and what is left is the count of all
abbrev pub invariant-loop-step : goal.invariant-loop-step
invariant-loop-step l = record {
  counted : l.count
      + spec.counted_from (λ shelf next. not (spec.ends_free_at l.records shelf)) l.records.shelves (length l.records.shelves - l._step) l.at
      ≡ spec.allocated_ends l.records;
  few : l.count ≤ l._step;
}
