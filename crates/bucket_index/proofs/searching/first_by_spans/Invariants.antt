use Rattle.std.proofs.Common.{◌≡◌}
use Rattle.bucketed_model.specs.State.{most_buckets}
use Rattle.bucket_index.specs.Private.Searching.{first_from}
use Rattle.bucket_index.proofs.searching.first_by_spans.Given as goal

-- what is sought from the first link on is what is sought from here on
abbrev pub invariant-loop-left : goal.invariant-loop-left
invariant-loop-left l = first_from l.left l.wanted l.buckets l.at ≡ first_from most_buckets l.wanted l.buckets l.fn.first

abbrev pub decreases-loop-left : goal.decreases-loop-left
decreases-loop-left l = l.left
