use Rattle.std.proofs.Common.{◌≡◌, length, map, take, vec_capacity}
use Rattle.bucketed_records.specs.Restoring as spec
use Rattle.bucketed_records.proofs.saving.linked_shelves.Given as goal

abbrev pub invariant-loop-shelf : goal.invariant-loop-shelf
invariant-loop-shelf l = record {
  so_far : l.linked.items ≡ map spec.linked_shelf (take l.shelf-index l.fn.shelves);
  capacity : vec_capacity l.linked ≡ length l.fn.shelves;
}
