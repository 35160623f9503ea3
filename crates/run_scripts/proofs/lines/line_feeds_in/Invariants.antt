use Rattle.std.proofs.Common.{◌≤◌}
use Rattle.run_scripts.proofs.lines.line_feeds_in.Given as goal

-- what was counted is at most what was looked through
abbrev pub invariant-loop-index : goal.invariant-loop-index
invariant-loop-index l = l.count ≤ l.index
