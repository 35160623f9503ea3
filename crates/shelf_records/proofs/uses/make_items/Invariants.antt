use Rattle.std.proofs.Common.{◌≡◌, ◌+◌, ◌-◌, ◌≤◌, length, vec_capacity}
use Rattle.shelf_records.specs.RecordMaking.{with_new_items}
use Rattle.shelf_records.proofs.uses.make_items.Given as goal

-- what is left to be made makes of these what all make of the first ones, and there is room for it
abbrev pub invariant-loop-made : goal.invariant-loop-made
invariant-loop-made l = record {
  made : with_new_items (l.count - l._made) l.items.items ≡ with_new_items l.count l.fn.items.items;
  room : length l.items.items + (l.count - l._made) ≤ vec_capacity l.items;
}
