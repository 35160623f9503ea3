use Rattle.std.proofs.Common.{◌≡◌, ◌++◌, ◌-◌, ◌≤◌, length}
use Rattle.shelf_heights.specs.Private.ByHeight.{newly_bounded}
use Rattle.shelf_store.specs.Private.FreshRecords.{numbered}
use Rattle.shelf_store.proofs.starting.push_columns.Given as goal

-- the shelves so far and those of the columns from here on make up the whole, and there is room for them
abbrev pub invariant-loop-column : goal.invariant-loop-column
invariant-loop-column l = record {
  shelves : l.by_height.items ++ numbered (newly_bounded l.frame) l.column (l.frame.columns - l.column)
      ≡ numbered (newly_bounded l.frame) 0 l.frame.columns;
  count : length l.by_height.items ≡ l.column;
  room : l.frame.columns ≤ l.by_height.capacity;
  capacity : l.fn.by_height.capacity ≤ l.by_height.capacity;
}
