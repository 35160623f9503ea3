use Rattle.std.proofs.Common.{◌-◌, ◌≤◌}
use Rattle.bucketed_model.specs.State.{most_buckets}
use Rattle.bucket_index.specs.Private.Searching.{widest_from}
use Rattle.bucket_index.proofs.searching.has_room_within.Given as goal

-- the widest from here on is one of all
abbrev pub invariant-loop-step : goal.invariant-loop-step
invariant-loop-step l =
    widest_from (most_buckets - l._step) l.buckets l.at ≤ widest_from most_buckets l.buckets l.fn.first
