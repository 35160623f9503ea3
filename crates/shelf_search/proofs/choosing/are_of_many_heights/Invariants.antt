use Rattle.std.proofs.Common.{◌-◌, ◌≤◌, length}
use Rattle.shelf_search.proofs.choosing.are_of_many_heights.Given as goal

abbrev pub invariant-loop-index : goal.invariant-loop-index
invariant-loop-index l = l.rest ≤ l.index

abbrev pub decreases-loop-index : goal.decreases-loop-index
decreases-loop-index l = length l.by_height.items - l.index
