use Rattle.std.proofs.Common.{◌≡◌, map, take}
use Rattle.etagere_base.specs.Least.{first_least}
use Rattle.bucket_index.specs.Private.Searching.{kept_waste, limit_beside}
use Rattle.bucket_index.proofs.searching.least_in.Given as goal

-- the best of the shelves so far, and what the next one has to waste less than
abbrev pub invariant-loop-number : goal.invariant-loop-number
invariant-loop-number l = record {
  best : l.best ≡ first_least (map (kept_waste l.adds l.sides) (take l.number l.shelves));
  limit : l.limit ≡ limit_beside l.adds l.sides l.best;
}
