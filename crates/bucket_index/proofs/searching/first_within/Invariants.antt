use Rattle.std.proofs.Common.{◌≡◌, ◌-◌}
use Rattle.bucket_index.specs.Private.Searching.{first_from}
use Rattle.bucket_index.proofs.searching.first_within.Given as goal

-- what is sought from the first link on is what is sought from here on
abbrev pub invariant-loop-step : goal.invariant-loop-step
invariant-loop-step l =
    first_from (l.most - l._step) l.wanted l.buckets l.at ≡ first_from l.most l.wanted l.buckets l.fn.first
