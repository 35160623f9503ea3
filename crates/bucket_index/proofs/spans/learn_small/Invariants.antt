use Rattle.bucket_index.specs.Private.Spans.{AreSpansOf, block_of}
use Rattle.bucket_index.proofs.spans.learn_small.Given as goal

-- what is known so far
abbrev pub invariant-loop-span : goal.invariant-loop-span
invariant-loop-span l = AreSpansOf (block_of 1) l.fn.spans l.buckets → AreSpansOf (block_of 1) l.spans l.buckets
