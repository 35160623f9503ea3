use Rattle.std.proofs.Common.{◌≡◌, length, map, take, vec_capacity}
use Rattle.shelf_records.specs.Snapshots as spec
use Rattle.shelf_records.proofs.saving.saved_items.Given as goal

abbrev pub invariant-loop-item : goal.invariant-loop-item
invariant-loop-item l = record {
  so_far : map spec.linked_item l.saved.items ≡ take l.item-index l.fn.items;
  capacity : vec_capacity l.saved ≡ length l.fn.items;
}
