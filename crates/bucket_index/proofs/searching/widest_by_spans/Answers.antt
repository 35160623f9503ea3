use Rattle.std.proofs.Common.{◌≤◌, ℕ, Option, None, Some, List, arith}
use Rattle.std.specs.Prelude.{IfSome, unwrap_or}
use Rattle.bucketed_model.specs.State.{most_buckets}
use Rattle.bucketed_records.specs.declared.records.LinkedBucket.{LinkedBucket}
use Rattle.bucket_index.specs.declared.spans.Spans.{Spans}
use Rattle.bucket_index.specs.Private.Searching.{widest_from}
use Rattle.bucket_index.specs.Private.Spans.{AreSpans}
use Rattle.bucket_index.proofs.searching.widest_by_spans.Goals as goal

-- the widest is bounded by what spans tell, or else by another bound
bounded : (known at : Option ℕ) (bound : ℕ) (spans : Spans) (bs : List LinkedBucket) → AreSpans spans bs
    → IfSome known (λ most. (buckets : List LinkedBucket) → AreSpans spans buckets → widest_from most_buckets buckets at ≤ most) → widest_from most_buckets bs at ≤ bound → widest_from most_buckets bs at ≤ unwrap_or known bound
bounded None at bound spans bs are tells other = other
bounded (Some most) at bound spans bs are tells other = tells bs are

pub widest_above-widest-requires-2-clause-most : goal.widest_above-widest-requires-2-clause-most
widest_above-widest-requires-2-clause-most c =
    let least = c.saturating_sub-least.result in
    let buckets = c.args.buckets.now in
    let below : widest_from most_buckets buckets c.args.first ≤ least = omega (arith, c.widest_above-widest.ensures, c.if-least-widest.false) in
    let told = bounded c.widest_bound.result c.args.first least c.args.spans.now buckets c.requires.spans c.widest_bound.ensures below in
    omega (arith, below, told, c.unwrap_or.ensures, c.min-bound.ensures)
