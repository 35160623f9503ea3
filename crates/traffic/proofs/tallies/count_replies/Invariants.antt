use Rattle.std.proofs.Common.{◌≡◌, ◌≤◌, take}
use Rattle.std.specs.List.{count_by}
use Rattle.traffic.specs.Tallies.{is_reply}
use Rattle.traffic.proofs.tallies.count_replies.Given as goal

-- the replies so far are counted
abbrev pub invariant-loop-position : goal.invariant-loop-position
invariant-loop-position l =
    record {
      counted : l.count ≡ count_by (is_reply l.fn.kind) (take l.position l.replies);
      few : l.count ≤ l.position;
    }
