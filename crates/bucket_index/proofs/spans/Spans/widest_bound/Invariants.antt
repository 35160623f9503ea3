use Rattle.std.proofs.Common.{List, ◌+◌}
use Rattle.bucketed_model.specs.State.{most_buckets}
use Rattle.bucketed_records.specs.declared.records.LinkedBucket.{LinkedBucket}
use Rattle.bucket_index.specs.Private.Spans.{AreSpans, IsPassed}
use Rattle.bucket_index.proofs.spans.Spans.widest_bound.Given as goal

-- what is passed so far has no more room
abbrev pub invariant-loop-number : goal.invariant-loop-number
invariant-loop-number l =
    (buckets : List LinkedBucket) → AreSpans l.self buckets → IsPassed (l.bound + 1) buckets l.fn.first most_buckets (record { at = l.at; left = l.unseen })

abbrev pub decreases-loop-number : goal.decreases-loop-number
decreases-loop-number l = l.unseen
