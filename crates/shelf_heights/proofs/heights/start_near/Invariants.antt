use Rattle.std.proofs.Common.{◌-◌, ◌<◌, ◌≤◌, length, take, drop}
use Rattle.std.specs.Prelude.{◌^◌}
use Rattle.std.specs.List.{AllByRecursion}
use Rattle.shelf_heights.specs.Private.ByHeight.{order_at, order_of}
use Rattle.shelf_heights.specs.declared.by_height.BoundedShelf.{BoundedShelf}
use Rattle.shelf_heights.proofs.heights.start_near.Given as goal

-- those before the first come before the order, and those from the end on don't
abbrev pub invariant-loop-from : goal.invariant-loop-from
invariant-loop-from l = record {
  bounds : l.from ≤ l.end;
  few : length l.by_height.items < 2 ^ 64;
  within : l.end ≤ length l.by_height.items;
  before : AllByRecursion (λ (one : BoundedShelf). order_of l.shelves one.shelf < order_at l.height l.in_chain) (take l.from l.by_height.items);
  after : AllByRecursion (λ (one : BoundedShelf). order_at l.height l.in_chain ≤ order_of l.shelves one.shelf) (drop l.end l.by_height.items);
}

abbrev pub decreases-loop-from : goal.decreases-loop-from
decreases-loop-from l = l.end - l.from
