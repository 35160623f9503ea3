use Rattle.std.proofs.Common.{◌≡◌, ◌≤◌, length, take}
use Rattle.std.specs.Prelude.{vec_capacity, vec_len}
use Rattle.etagere_run.specs.Answers.Runs.{RunKeepsPromisesThroughout}
use Rattle.etagere_run.specs.Answers.Private.Tables.{entries_of}
use Rattle.etagere_run.proofs.RunAnswers.RunsOn.{IsUnderWay}
use Rattle.etagere_run.proofs.answers.running.answer_all.Given as goal

-- the replies so far are a run that kept its promises; each command so far has a place, and there is room for those that
-- are left
abbrev pub invariant-loop-position : goal.invariant-loop-position
invariant-loop-position g l =
    let kind = g.A.Answering.kind in
    let frame = kind.frame l.fn.atlas in
    let so_far = take l.position l.commands in
    record {
      way : IsUnderWay kind g.A.Answering.Tied frame so_far l.replies.items (entries_of l.ledger) l.atlas;
      throughout : RunKeepsPromisesThroughout kind frame so_far l.replies.items;
      replies : vec_len l.replies ≡ l.position;
      space : length l.commands ≤ vec_capacity l.replies;
      slots : vec_len l.ledger.slots ≡ l.position;
      room : length l.commands ≤ vec_capacity l.ledger.slots;
    }
