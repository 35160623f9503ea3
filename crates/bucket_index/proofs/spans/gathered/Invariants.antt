use Rattle.std.proofs.Common.{List}
use Rattle.bucketed_records.specs.declared.records.LinkedBucket.{LinkedBucket}
use Rattle.bucket_index.specs.Private.Spans.{AreSpansOf, IsKnownSpan, block_of, whole_of}
use Rattle.bucket_index.proofs.spans.gathered.Given as goal

-- what is gathered so far is a span of the block
abbrev pub invariant-loop-part : goal.invariant-loop-part
invariant-loop-part l =
    (buckets : List LinkedBucket) → AreSpansOf (block_of l.scale) l.parts buckets
    → IsKnownSpan (whole_of l.scale) (whole_of l.scale l.first) (record { first = l.begin.first; steps = l.steps; behind = l.behind; widest_room = l.widest }) buckets
