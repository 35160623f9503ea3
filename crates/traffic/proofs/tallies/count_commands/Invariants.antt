use Rattle.std.proofs.Common.{◌≡◌, ◌≤◌, take}
use Rattle.std.specs.List.{count_by}
use Rattle.traffic.proofs.tallies.count_commands.Given as goal

-- the commands so far are counted
abbrev pub invariant-loop-position : goal.invariant-loop-position
invariant-loop-position g l =
    record {
      counted : l.count ≡ count_by (g.C.Sorted.sorted l.fn.kind) (take l.position l.commands);
      few : l.count ≤ l.position;
    }
