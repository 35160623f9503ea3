use Rattle.std.proofs.Common.{List}
use Rattle.bucketed_records.specs.declared.records.LinkedBucket.{LinkedBucket}
use Rattle.bucket_index.specs.Private.Spans.{AreSpansOf, block_of, whole_of}
use Rattle.bucket_index.proofs.spans.gather.Given as goal

-- what is known so far
abbrev pub invariant-loop-span : goal.invariant-loop-span
invariant-loop-span l =
    (buckets : List LinkedBucket) → AreSpansOf (block_of l.scale) l.parts buckets → AreSpansOf (whole_of l.scale) l.fn.wholes buckets → AreSpansOf (whole_of l.scale) l.wholes buckets
