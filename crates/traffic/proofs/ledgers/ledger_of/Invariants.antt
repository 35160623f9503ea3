use Rattle.std.proofs.Common.{◌≡◌, ◌+◌, ◌≤◌, length, take}
use Rattle.std.specs.Prelude.{vec_capacity, vec_len}
use Rattle.etagere_run.specs.Answers.Private.Tables.{entries_of}
use Rattle.traffic.specs.Ledgers.{entries_from}
use Rattle.traffic.proofs.ledgers.ledger_of.Given as goal

-- the allocations so far have the first positions
abbrev pub invariant-loop-position : goal.invariant-loop-position
invariant-loop-position l =
    record {
      entries : entries_of l.ledger ≡ entries_from 0 (take l.position l.live);
      slots : vec_len l.ledger.slots ≡ l.position;
      room : length l.live + l.fn.commands ≤ vec_capacity l.ledger.slots;
    }
