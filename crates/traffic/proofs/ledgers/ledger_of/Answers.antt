use Rattle.std.proofs.Common.{◌<◌, Some, List, length, arith, ap, ◌∙◌}
use Rattle.etagere_run.specs.Answers.Live.{Entry}
use Rattle.etagere_run.specs.Answers.Private.Given.{with_entry}
use Rattle.etagere_run.specs.Answers.Private.Tables.{entries_of}
use Rattle.traffic.proofs.FirstEntries.{entries-more}
use Rattle.traffic.proofs.ledgers.ledger_of.Goals as goal

pub loop-position-preserved : goal.loop-position-preserved
loop-position-preserved c =
    let position = c.loop-position.position in
    let allocation = c.index-live-position.result in
    let so_far = c.loop-position.invariant in
    let within : position < length c.args.live.now = omega arith in
    record {
      entries = c.add.ensures.added
          ∙ ap (λ n. with_entry n (Some allocation) (entries_of c.loop-position.ledger)) so_far.slots
          ∙ ap (λ (l : List Entry). with_entry position (Some allocation) l) so_far.entries
          ∙ entries-more c.args.live.now position allocation within c.index-live-position.is;
      slots = omega (arith, c.add.ensures.length, so_far.slots);
      room = omega (arith, c.add.ensures.room, so_far.room);
    }
