use Rattle.std.proofs.Common.{◌≡◌, ◌-◌, length}
use Rattle.shelf_store.specs.Private.RecordsGrown as spec
use Rattle.shelf_store.proofs.growing.heightening.heighten_columns.Given as goal

-- adding the height from here on does what adding it to all does from the start
abbrev pub invariant-loop-step : goal.invariant-loop-step
invariant-loop-step l = record {
  rest : spec.columns_heightened l.width l.height (length l.fn.records.shelves - l._step) l.at (record { records = l.records; made = l.made })
      ≡ spec.columns_heightened l.width l.height (length l.fn.records.shelves) l.fn.records.first_shelf (record { records = l.fn.records; made = l.fn.made });
  can : spec.CanHeightenAll l.width l.height (length l.fn.records.shelves - l._step) l.at (record { records = l.records; made = l.made });
}
