use Rattle.std.proofs.Common.{◌≡◌, drop}
use Rattle.bucketed_store.specs.Private.Placing.{kept_mergeable}
use Rattle.bucketed_store.proofs.merging.mergeable_between.Given as goal

-- what is sought from the first shelf of the block on is what is sought from here on
abbrev pub invariant-loop-first : goal.invariant-loop-first
invariant-loop-first l =
    kept_mergeable l.sides l.first (drop l.first l.shelves) ≡ kept_mergeable l.sides l.from (drop l.from l.shelves)
