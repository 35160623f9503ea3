use Rattle.std.proofs.Common.{List}
use Rattle.bucketed_records.specs.declared.records.LinkedBucket.{LinkedBucket}
use Rattle.bucket_index.specs.Private.Spans.{AreSpansOf, IsPassed, block_of}
use Rattle.bucket_index.proofs.spans.behind_narrow.Given as goal

-- what is passed so far has less room
abbrev pub invariant-loop-number : goal.invariant-loop-number
invariant-loop-number l =
    (buckets : List LinkedBucket) → AreSpansOf (block_of l.scale) l.spans buckets → IsPassed l.width buckets l.fn.from l.most (record { at = l.at; left = l.left })

abbrev pub decreases-loop-number : goal.decreases-loop-number
decreases-loop-number l = l.left
