use Rattle.std.proofs.Common.{◌≡◌, ◌+◌, ◌≤◌}
use Rattle.std.specs.Prelude.{max}
use Rattle.bucketed_model.specs.State.{most_buckets}
use Rattle.bucket_index.specs.Private.Searching.{widest_from}
use Rattle.bucket_index.proofs.searching.widest_above.Given as goal

-- the widest so far and that from here on make the widest of all
abbrev pub invariant-loop-step : goal.invariant-loop-step
invariant-loop-step l = record {
  rest : max l.widest (widest_from l.left l.buckets l.at) ≡ max l.least (widest_from most_buckets l.buckets l.fn.first);
  few : l.left + l._step ≤ most_buckets;
}
