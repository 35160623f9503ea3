use Rattle.std.proofs.Common.{◌≡◌, ◌-◌, length}
use Rattle.shelf_store.specs.Private.RecordsGrown as spec
use Rattle.shelf_store.proofs.growing.widening.widen_shelves.Given as goal

-- widening the shelves from here on does what widening all does from the start
abbrev pub invariant-loop-step : goal.invariant-loop-step
invariant-loop-step l = record {
  rest : spec.shelves_widened l.place l.width (length l.fn.records.shelves - l._step) l.at (record { records = l.records; made = l.made })
      ≡ spec.shelves_widened l.place l.width (length l.fn.records.shelves) l.fn.records.first_shelf (record { records = l.fn.records; made = l.fn.made });
  can : spec.CanWidenAll l.place l.width (length l.fn.records.shelves - l._step) l.at (record { records = l.records; made = l.made });
}
