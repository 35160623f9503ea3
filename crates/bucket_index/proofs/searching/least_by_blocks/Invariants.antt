use Rattle.std.proofs.Common.{◌≡◌, ◌-◌, length, map, take}
use Rattle.etagere_base.specs.Least.{first_least}
use Rattle.bucket_index.specs.Private.Searching.{kept_waste}
use Rattle.bucket_index.proofs.searching.least_by_blocks.Given as goal

-- the best of the shelves so far
abbrev pub invariant-loop-from : goal.invariant-loop-from
invariant-loop-from l = l.best ≡ first_least (map (kept_waste l.adds l.sides) (take l.from l.shelves))

abbrev pub decreases-loop-from : goal.decreases-loop-from
decreases-loop-from l = length l.shelves - l.from
