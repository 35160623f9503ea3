use Rattle.std.proofs.Common.{◌≡◌, ◌≤◌, drop}
use Rattle.traffic.specs.Tallies as spec
use Rattle.traffic.proofs.tallies.live_counts.Given as goal

-- the counts of all replies are these, and then those of the replies that are left
abbrev pub invariant-loop-position : goal.invariant-loop-position
invariant-loop-position l =
    record {
      rest : spec.counts_from l.counts (drop l.position l.replies) ≡ spec.live_counts l.replies;
      few : l.counts.now ≤ l.position;
    }
