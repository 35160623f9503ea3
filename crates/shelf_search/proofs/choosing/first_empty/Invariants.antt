use Rattle.std.proofs.Common.{◌≡◌, ◌+◌, ◌-◌, ◌≤◌, drop, length}
use Rattle.std.specs.Prelude.{◌/◌}
use Rattle.shelf_heights.specs.Private.ByHeight.{numbers_by_height}
use Rattle.shelf_search.specs.Private.Searching.{first_offer, good_offer}
use Rattle.shelf_search.proofs.ByHeight.Searches.{SearchesFrom}
use Rattle.shelf_search.proofs.choosing.first_empty.Given as goal

-- the first good fit from here on is that from the start on, and each shelf is too tall for one that isn't empty
abbrev pub invariant-loop-index : goal.invariant-loop-index
invariant-loop-index l = record {
  search : SearchesFrom l.records (l.height + l.height / 2 + 1) l.from (numbers_by_height l.fn.by_height.items) l.by_height.items;
  answer :
      first_offer (good_offer l.records l.width l.height) (drop l.from (numbers_by_height l.fn.by_height.items))
      ≡ first_offer (good_offer l.records l.width l.height) (drop l.start (numbers_by_height l.fn.by_height.items));
  capacity : l.fn.by_height.capacity ≤ l.by_height.capacity;
}

abbrev pub decreases-loop-index : goal.decreases-loop-index
decreases-loop-index l = length l.by_height.items - l.from
