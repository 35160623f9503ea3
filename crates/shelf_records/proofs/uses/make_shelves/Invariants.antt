use Rattle.std.proofs.Common.{◌≡◌, ◌+◌, ◌-◌, ◌≤◌, length, vec_capacity}
use Rattle.shelf_records.specs.RecordMaking.{with_new_shelves}
use Rattle.shelf_records.proofs.uses.make_shelves.Given as goal

-- what is left to be made makes of these what all make of the first ones, and there is room for it
abbrev pub invariant-loop-made : goal.invariant-loop-made
invariant-loop-made l = record {
  made : with_new_shelves (l.count - l._made) l.shelves.items ≡ with_new_shelves l.count l.fn.shelves.items;
  room : length l.shelves.items + (l.count - l._made) ≤ vec_capacity l.shelves;
}
