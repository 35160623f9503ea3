use Rattle.std.proofs.Common.{◌≡◌, ◌-◌, ◌≤◌, length}
use Rattle.shelf_heights.specs.Private.ByHeight.{numbers_by_height}
use Rattle.shelf_search.specs.Private.Opening.{AreLowered, AreSearchable, IsEarliest}
use Rattle.shelf_search.proofs.choosing.earliest_wide.Given as goal

-- what was found is the shelf in the first place up to here, and bounds have only fallen
abbrev pub invariant-loop-index : goal.invariant-loop-index
invariant-loop-index l = record {
  same : numbers_by_height l.by_height.items ≡ numbers_by_height l.fn.by_height.items;
  searchable : AreSearchable l.records l.by_height.items;
  lowered : AreLowered l.fn.by_height.items l.by_height.items;
  after : l.start ≤ l.from;
  within : l.from ≤ length l.by_height.items;
  earliest : IsEarliest l.records.shelves l.by_height.items l.start l.from l.width l.first;
  capacity : l.fn.by_height.capacity ≤ l.by_height.capacity;
}

abbrev pub decreases-loop-index : goal.decreases-loop-index
decreases-loop-index l = length l.by_height.items - l.from
