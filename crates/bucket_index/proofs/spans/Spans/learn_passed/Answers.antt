use Rattle.std.proofs.Common.{ℕ, List}
use Rattle.bucketed_records.specs.declared.records.LinkedBucket.{LinkedBucket}
use Rattle.bucket_index.specs.declared.spans.Spans.{Spans}
use Rattle.bucket_index.specs.Private.Spans.{AreSpans}
use Rattle.bucket_index.proofs.spans.Spans.learn_passed.Goals as goal

-- spans stay right where more records were passed
passing : (more : ℕ) (spans : Spans) (buckets : List LinkedBucket) → AreSpans spans buckets → AreSpans (record spans { passed = more }) buckets
passing more spans buckets are learned =
    let is = are learned in
    record {
      known = record { small = is.known.small; middle = is.known.middle; large = is.known.large };
      others = λ some. let bounds = is.others some in record { small = bounds.small; middle = bounds.middle; large = bounds.large };
    }

pub learn-requires : goal.learn-requires
learn-requires c = passing c.saturating_add-self.result c.args.self.now c.args.buckets.now c.requires

pub returns-else-self-ge-ENOUGH_PASSED : goal.returns-else-self-ge-ENOUGH_PASSED
returns-else-self-ge-ENOUGH_PASSED c = passing c.saturating_add-self.result c.args.self.now c.args.buckets.now c.requires
