use Rattle.std.proofs.Common.{ℕ, ◌-◌, ◌<◌, ◌≤◌, length, take, drop}
use Rattle.std.specs.Prelude.{◌^◌}
use Rattle.std.specs.List.{AllByRecursion}
use Rattle.shelf_heights.specs.Private.ByHeight.{order_at, order_of}
use Rattle.shelf_heights.specs.declared.by_height.BoundedShelf.{BoundedShelf}
use Rattle.shelf_heights.proofs.ByHeight.Positions.{HasDigits}
use Rattle.shelf_heights.proofs.heights.first_from.Given as goal

-- those before the start come before the order, and those from the end on don't; each probe halved what is between
abbrev pub invariant-loop-start : goal.invariant-loop-start
invariant-loop-start l = record {
  bounds : l.start.index ≤ l.end;
  few : length l.by_height.items < 2 ^ 64;
  within : l.end ≤ length l.by_height.items;
  before : AllByRecursion (λ (one : BoundedShelf). order_of l.shelves one.shelf < order_at l.height l.in_chain) (take l.start.index l.by_height.items);
  after : AllByRecursion (λ (one : BoundedShelf). order_at l.height l.in_chain ≤ order_of l.shelves one.shelf) (drop l.end l.by_height.items);
  digits : (digits : ℕ) → length l.by_height.items < 2 ^ digits → HasDigits (l.end - l.start.index) l.start.probes digits;
}

abbrev pub decreases-loop-start : goal.decreases-loop-start
decreases-loop-start l = l.end - l.start.index
