use Rattle.std.proofs.Common.{◌-◌, ◌≤◌}
use Rattle.bucket_index.specs.Private.Blocks.{AreBusy, AreKnownOf, Shelves}
use Rattle.bucket_index.proofs.blocks.behind_busy_of.Given as goal

-- the shelves up to here that have a height hold something live
abbrev pub invariant-loop-at : goal.invariant-loop-at
invariant-loop-at l = record {
  on : l.from ≤ l.at;
  busy : (shelves : Shelves) → AreKnownOf (λ number. Unit {0}) l.size l.blocks shelves → AreBusy l.from l.at shelves;
}

abbrev pub decreases-loop-at : goal.decreases-loop-at
decreases-loop-at l = l.end - l.at
