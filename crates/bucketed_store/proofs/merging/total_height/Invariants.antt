use Rattle.std.proofs.Common.{◌≡◌, ◌+◌, ◌*◌, ◌≤◌, drop}
use Rattle.bucketed_store.specs.Private.Placing.{kept_height}
use Rattle.bucketed_store.proofs.merging.total_height.Given as goal

-- the height so far and the heights of the shelves from here on make up the whole
abbrev pub invariant-loop-kept : goal.invariant-loop-kept
invariant-loop-kept l = record {
  whole : l.height + kept_height (drop l.kept-index l.shelves) ≡ kept_height l.shelves;
  small : l.height ≤ 65535 * l.kept-index;
}
