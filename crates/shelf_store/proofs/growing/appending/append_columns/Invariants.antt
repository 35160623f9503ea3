use Rattle.std.proofs.Common.{◌≡◌, ◌-◌}
use Rattle.shelf_store.specs.Private.RecordsGrown as spec
use Rattle.shelf_store.proofs.growing.appending.append_columns.Given as goal

-- appending the columns from here on does what appending all does from the start
abbrev pub invariant-loop-column : goal.invariant-loop-column
invariant-loop-column l = record {
  rest : spec.columns_appended l.frame (l.frame.columns - l.column) l.previous l.column (record { records = l.records; made = l.made })
      ≡ spec.columns_added l.frame l.first (spec.last_shelf l.fn.records) (record { records = l.fn.records; made = l.fn.made });
  can : spec.CanAppend l.frame (l.frame.columns - l.column) l.previous l.column (record { records = l.records; made = l.made });
}
