use Rattle.std.proofs.Common.{ℕ, ◌∙◌, ap, arith}
use Rattle.etagere_run.specs.Answers.Private.Given.{with_entry}
use Rattle.etagere_run.specs.Answers.Private.Tables.{entries_above, entries_of}
use Rattle.etagere_run.proofs.RunAnswers.TableEntries.{as-many, more-slots}
use Rattle.etagere_run.proofs.answers.ledger.Ledger.add.Goals as goal

pub returns-clause-added : goal.returns-clause-added
returns-clause-added c =
    let ledger = c.args.self.now in
    let many = as-many ledger.slots.items ledger.table.slots ledger.ids in
    ap (entries_above ledger.floor) c.after-self.ensures
    ∙ more-slots ledger.floor ledger.table.slots c.args.given (omega (arith, ledger.within, ledger.slots.ok.0, many))
    ∙ ap (λ (n : ℕ). with_entry n c.args.given (entries_of ledger)) (omega (arith, ledger.slots.ok.0, many))
