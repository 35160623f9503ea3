use Rattle.std.proofs.Common.{◌-◌, ◌<◌, ◌≤◌, length, take, drop}
use Rattle.std.specs.Prelude.{◌^◌, remove}
use Rattle.std.specs.List.{AllByRecursion}
use Rattle.shelf_heights.specs.Private.ByHeight.{order_at, order_of}
use Rattle.shelf_heights.specs.declared.by_height.BoundedShelf.{BoundedShelf}
use Rattle.shelf_heights.proofs.heights.start_beside.Given as goal

-- those before the first come before the order, and those from the end on don't
abbrev pub invariant-loop-between : goal.invariant-loop-between
invariant-loop-between l = record {
  bounds : l.between.from ≤ l.between.end;
  few : length l.by_height.items < 2 ^ 64;
  within : l.between.end ≤ length (remove l.by_height.items l.left_out);
  before : AllByRecursion (λ (one : BoundedShelf). order_of l.shelves one.shelf < order_at l.height l.in_chain) (take l.between.from (remove l.by_height.items l.left_out));
  after : AllByRecursion (λ (one : BoundedShelf). order_at l.height l.in_chain ≤ order_of l.shelves one.shelf) (drop l.between.end (remove l.by_height.items l.left_out));
}

abbrev pub decreases-loop-between : goal.decreases-loop-between
decreases-loop-between l = l.between.end - l.between.from
