use Rattle.std.proofs.Common.{◌≡◌, ◌≤◌, length, take}
use Rattle.std.specs.Prelude.{vec_capacity, vec_len}
use Rattle.etagere_run.specs.Answers.Private.Tables.{entries_of}
use Rattle.etagere_run.proofs.StreamsOn.{IsStreaming}
use Rattle.etagere_run.proofs.streaming.stream_all.Given as goal

-- the lines of the replies so far went out; each command so far has a place, and there is room for those that are left
abbrev pub invariant-loop-position : goal.invariant-loop-position
invariant-loop-position g l =
    let kind = g.A.Answering.kind in
    let contents = g.W.Write.contents in
    record {
      so_far : IsStreaming kind g.A.Answering.Tied (kind.frame l.fn.atlas) (take l.position l.commands) (entries_of l.ledger)
          l.atlas (contents l.fn.writer) (contents l.writer);
      slots : vec_len l.ledger.slots ≡ l.position;
      room : length l.commands ≤ vec_capacity l.ledger.slots;
    }
