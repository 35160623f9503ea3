use Rattle.std.proofs.Common.{Some, ◌≤◌}
use Rattle.bucket_index.specs.Private.Spans.{IsWithin, Lead, block_of}
use Rattle.bucket_index.proofs.spans.span_from.Given as goal

-- so far the links lead through records of the block
abbrev pub invariant-loop-step : goal.invariant-loop-step
invariant-loop-step l = record {
  lead : Lead l.steps (IsWithin (block_of 1) (block_of 1 l.first) l.widest l.buckets) l.buckets (Some l.first) l.behind;
  some : 1 ≤ l.steps;
  few : l.steps ≤ l._step;
}
