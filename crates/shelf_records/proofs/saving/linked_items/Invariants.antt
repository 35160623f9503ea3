use Rattle.std.proofs.Common.{◌≡◌, length, map, take, vec_capacity}
use Rattle.shelf_records.specs.Snapshots as spec
use Rattle.shelf_records.proofs.saving.linked_items.Given as goal

abbrev pub invariant-loop-item : goal.invariant-loop-item
invariant-loop-item l = record {
  so_far : l.linked.items ≡ map spec.linked_item (take l.item-index l.fn.items);
  capacity : vec_capacity l.linked ≡ length l.fn.items;
}
