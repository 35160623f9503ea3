use Rattle.std.proofs.Common.{◌≡◌, ◌≤◌, drop}
use Rattle.bucket_index.specs.Private.Blocks.{AreBusy}
use Rattle.bucketed_store.specs.Private.Placing.{kept_mergeable}
use Rattle.bucketed_store.proofs.merging.mergeable_by_blocks.Given as goal

-- what is sought among all shelves is what is sought from one on, behind which each is busy or flat up to here
abbrev pub invariant-loop-block : goal.invariant-loop-block
invariant-loop-block l = record {
  rest : kept_mergeable l.sides l.first (drop l.first l.shelves) ≡ kept_mergeable l.sides 0 l.shelves;
  busy : AreBusy l.first l.from l.shelves;
  behind : l.first ≤ l.from;
  on : l._block ≤ l.from;
}
