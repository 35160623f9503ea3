use Rattle.std.proofs.Common.{◌≡◌, ◌+◌, ◌≤◌, length, take}
use Rattle.std.specs.Prelude.{vec_capacity, vec_len}
use Rattle.etagere_run.specs.Answers.Private.Tables.{entries_of}
use Rattle.traffic.proofs.Going.{IsGoing}
use Rattle.traffic.proofs.going_on.go_on.Given as goal

-- the commands so far were run, and each has a slot in the ledger, in which there is room for those that are left
abbrev pub invariant-loop-position : goal.invariant-loop-position
invariant-loop-position g l =
    record {
      going : IsGoing g.A.Answering.kind g.A.Answering.Tied g.A.Explaining.told (vec_len l.fn.ledger.slots)
          (entries_of l.fn.ledger) l.fn.atlas (take l.position l.commands) l.replies.items l.findings.items
          (entries_of l.ledger) l.atlas;
      slots : vec_len l.ledger.slots ≡ vec_len l.fn.ledger.slots + l.position;
      room : vec_len l.fn.ledger.slots + length l.commands ≤ vec_capacity l.ledger.slots;
    }
