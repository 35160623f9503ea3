use Rattle.std.proofs.Common.{◌≡◌, ◌+◌, ◌-◌, ◌≤◌}
use Rattle.bucketed_model.specs.State.{most_buckets}
use Rattle.bucketed_store.specs.Private.Refusals.{idle_from}
use Rattle.bucketed_store.proofs.usage.idle_buckets.Given as goal

-- those so far and those from here on make up all
abbrev pub invariant-loop-step : goal.invariant-loop-step
invariant-loop-step l = record {
  whole : l.idle + idle_from (most_buckets - l._step) l.buckets l.at ≡ idle_from most_buckets l.buckets l.fn.first;
  few : l.idle ≤ l._step;
}
