use Rattle.std.proofs.Common.{◌-◌, ◌≤◌}
use Rattle.bucket_index.specs.Private.Heights.{AreBelow, AreUnfit, Shelves}
use Rattle.bucket_index.proofs.heights.Heights.behind_unfit.Given as goal

-- the shelves up to here don't fit
abbrev pub invariant-loop-at : goal.invariant-loop-at
invariant-loop-at l = record {
  on : l.from ≤ l.at;
  unfit : (shelves : Shelves) → AreBelow l.self shelves → AreUnfit l.across l.limit l.from l.at shelves;
}

abbrev pub decreases-loop-at : goal.decreases-loop-at
decreases-loop-at l = l.count - l.at
