use Rattle.std.proofs.Common.{◌≤◌}
use Rattle.shelf_heights.specs.Private.ByHeight.{numbers_by_height}
use Rattle.shelf_search.proofs.ByHeight.EarliestChosen.{wide_count}
use Rattle.shelf_search.proofs.ByHeight.Searches.{SearchesFrom}
use Rattle.shelf_search.proofs.choosing.first_placed.Given as goal

-- the shelves keep their numbers, and fewer bounds are as wide each time
abbrev pub invariant-loop-index : goal.invariant-loop-index
invariant-loop-index l = record {
  search : SearchesFrom l.records l.height l.start (numbers_by_height l.fn.by_height.items) l.by_height.items;
  capacity : l.fn.by_height.capacity ≤ l.by_height.capacity;
}

abbrev pub decreases-loop-index : goal.decreases-loop-index
decreases-loop-index l = wide_count l.width l.by_height.items
