use Rattle.std.proofs.Common.{◌≡◌, ◌++◌, ◌-◌, ◌≤◌, length}
use Rattle.std.specs.Prelude.{vec_capacity}
use Rattle.shelf_store.specs.Private.FreshRecords as spec
use Rattle.shelf_store.proofs.starting.fresh_records.Given as goal

-- the records so far and those of the columns from here on make up the whole, and there is room for them
abbrev pub invariant-loop-column : goal.invariant-loop-column
invariant-loop-column l = record {
  shelves : l.shelves.items ++ spec.numbered (spec.fresh_shelf l.frame) l.column (l.frame.columns - l.column)
      ≡ spec.numbered (spec.fresh_shelf l.frame) 0 l.frame.columns;
  items : l.items.items ++ spec.numbered (spec.fresh_item l.frame) l.column (l.frame.columns - l.column)
      ≡ spec.numbered (spec.fresh_item l.frame) 0 l.frame.columns;
  shelf_count : length l.shelves.items ≡ l.column;
  item_count : length l.items.items ≡ l.column;
  shelf_room : l.frame.columns ≤ vec_capacity l.shelves;
  item_room : l.frame.columns ≤ vec_capacity l.items;
}
