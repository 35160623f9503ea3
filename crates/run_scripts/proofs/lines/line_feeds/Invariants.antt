use Rattle.std.proofs.Common.{length, ◌+◌, ◌≤◌}
use Rattle.run_scripts.proofs.lines.line_feeds.Given as goal

-- what was counted is at most what was looked through
abbrev pub invariant-loop-rest : goal.invariant-loop-rest
invariant-loop-rest l = l.count + length l.rest ≤ length l.bytes

abbrev pub decreases-loop-rest : goal.decreases-loop-rest
decreases-loop-rest l = length l.rest
