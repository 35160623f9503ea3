use Rattle.std.proofs.Common.{◌*◌, ◌<◌}
use Rattle.bucket_index.specs.Private.Blocks.{AreKnownOf}
use Rattle.bucket_index.proofs.blocks.count_first.Given as goal

-- the shelves of the blocks so far are known to them
abbrev pub invariant-loop-number : goal.invariant-loop-number
invariant-loop-number l = record {
  first : AreKnownOf (λ number. number < l.number * 8) 8 l.blocks l.shelves;
}
