use Rattle.std.proofs.Common.{◌≡◌, ◌+◌, ◌*◌, ◌^◌, ◌≤◌, drop}
use Rattle.etagere_run.specs.Answers.Private.Tables.{entries_of}
use Rattle.traffic.specs.Tallies as spec
use Rattle.traffic.proofs.tallies.asked_space.Given as goal

-- what the commands so far asked for, and what those ask that are left, is all
abbrev pub invariant-loop-position : goal.invariant-loop-position
invariant-loop-position g l =
    record {
      rest : l.space + spec.asked_from g.C.Sorted.asked (entries_of l.ledger) l.position (drop l.position l.commands)
          ≡ spec.asked_space g.C.Sorted.asked (entries_of l.ledger) l.commands;
      bounded : l.space ≤ l.position * 2 ^ 62;
    }
