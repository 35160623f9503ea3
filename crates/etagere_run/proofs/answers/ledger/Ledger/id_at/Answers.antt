use Rattle.std.proofs.Common.{◌∙◌, arith}
use Rattle.etagere_run.proofs.RunAnswers.TableEntries.{as-many, id_at-none, id_at-slot}
use Rattle.etagere_run.proofs.answers.ledger.Ledger.id_at.Goals as goal

pub returns-in_err-slot : goal.returns-in_err-slot
returns-in_err-slot c =
    let ledger = c.args.self.now in
    let many = as-many ledger.slots.items ledger.table.slots ledger.ids in
    c.from_residual.ensures
    ∙ id_at-none ledger.floor c.args.position ledger.table.slots
    (λ counts. c.in_err-slot.ensures (counts.0, omega (arith, counts.1, ledger.slots.ok.0, many)))

pub returns : goal.returns
returns c =
    let ledger = c.args.self.now in
    let found = c.in_ok-slot.ensures in
    let many = as-many ledger.slots.items ledger.table.slots ledger.ids in
    let read = rw found.1 at c.index.ensures in
    id_at-slot ledger.floor c.args.position ledger.table.slots c.index.result.now found.0.0
    (omega (arith, found.0.1, ledger.slots.ok.0, many)) (rw ledger.ids at read)
