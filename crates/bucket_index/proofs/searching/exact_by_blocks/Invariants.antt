use Rattle.std.proofs.Common.{◌≡◌, ◌≤◌, drop}
use Rattle.bucket_index.specs.Private.Searching.{exact_from}
use Rattle.bucket_index.proofs.searching.exact_by_blocks.Given as goal

-- what is sought from the first shelf on is what is sought from here on
abbrev pub invariant-loop-block : goal.invariant-loop-block
invariant-loop-block l = record {
  rest : exact_from l.sides l.buckets l.at (drop l.at l.shelves) ≡ exact_from l.sides l.buckets l.from (drop l.from l.shelves);
  on : l._block ≤ l.at;
}
