use Rattle.std.proofs.Common.{◌∙◌, ap, arith, None, refl, sym}
use Rattle.std.specs.Prelude.{slice_set}
use Rattle.etagere_run.specs.Answers.Private.Ids.{ids_in}
use Rattle.etagere_run.specs.Answers.Private.Tables.{entries_above}
use Rattle.etagere_run.proofs.RunAnswers.TableEntries.{as-many, emptied-none, id_at-none, id_at-slot, ids-emptied, none-taken, some-taken, without-slot}
use Rattle.etagere_run.proofs.answers.ledger.Ledger.take.Goals as goal

pub invariant_of-self-clause-ids : goal.invariant_of-self-clause-ids
invariant_of-self-clause-ids c =
    let ledger = c.args.self.now in
    ids-emptied ledger.slots.items _ ledger.table.slots c.in_ok-slot.slot c.take.new.self ledger.ids refl c.take.ensures.after
    ∙ sym (ap ids_in c.after-self.ensures)

pub returns-in_err-slot-clause-found : goal.returns-in_err-slot-clause-found
returns-in_err-slot-clause-found c =
    let ledger = c.args.self.now in
    let many = as-many ledger.slots.items ledger.table.slots ledger.ids in
    c.from_residual.ensures
    ∙ id_at-none ledger.floor c.args.position ledger.table.slots
    (λ counts. c.in_err-slot.ensures (counts.0, omega (arith, counts.1, ledger.slots.ok.0, many)))

pub returns-clause-found : goal.returns-clause-found
returns-clause-found c =
    let ledger = c.args.self.now in
    let found = c.in_ok-slot.ensures in
    let many = as-many ledger.slots.items ledger.table.slots ledger.ids in
    let read = rw found.1 at c.index_mut.ensures.value in
    c.take.ensures.value
    ∙ id_at-slot ledger.floor c.args.position ledger.table.slots c.index_mut.result.now found.0.0
    (omega (arith, found.0.1, ledger.slots.ok.0, many)) (rw ledger.ids at read)

pub returns-clause-taken : goal.returns-clause-taken
returns-clause-taken c =
    let ledger = c.args.self.now in
    let found = c.in_ok-slot.ensures in
    some-taken c.take.result
    (ap (entries_above ledger.floor) c.after-self.ensures
    ∙ ap (λ n. entries_above ledger.floor (slice_set ledger.table.slots n None)) found.1
    ∙ without-slot ledger.floor c.args.position ledger.table.slots found.0.0)

pub returns-clause-none : goal.returns-clause-none
returns-clause-none c =
    let ledger = c.args.self.now in
    let found = c.in_ok-slot.ensures in
    let many = as-many ledger.slots.items ledger.table.slots ledger.ids in
    let read = rw ledger.ids at (rw found.1 at c.index_mut.ensures.value) in
    none-taken c.take.result
    (λ none. ap (entries_above ledger.floor) (c.after-self.ensures
    ∙ ap (λ n. slice_set ledger.table.slots n None) found.1
    ∙ emptied-none ledger.table.slots c.args.position c.index_mut.result.now (omega (arith, found.0.1, ledger.slots.ok.0, many)) read
    (sym c.take.ensures.value ∙ none)))
