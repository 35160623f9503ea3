use Rattle.std.proofs.Common.{◌≡◌, ◌+◌, ◌∷◌, length, ap, sym, ◌∙◌, arith}
use Rattle.shelf_records.specs.Private.Reading.{recorded_from}
use Rattle.shelf_store.proofs.Recorded.RecordedListing.{end-from, none-found, step-found}
use Rattle.etagere_shelves.proofs.listing.IterIterator.next.Goals as goal

pub returns-in_default-clause-steps : goal.returns-in_default-clause-steps
returns-in_default-clause-steps c =
    let frame = c.self.inside.frame.now in
    let records = c.self.inside.records.now in (
      sym c.self.view_is ∙ none-found frame records c.items.result.now c.self.inside.number c.items.ensures c.in_default.ensures,
      end-from frame records (length c.items-in_default.result.now) (ap length c.items-in_default.ensures),
    )

pub overflow_add-self : goal.overflow_add-self
overflow_add-self c =
    let step = step-found c.self.inside.frame.now c.self.inside.records.now c.items.result.now c.self.inside.number c.in-Some.number c.self.invariant.within c.items.ensures c.in-Some.ensures in
    omega (arith, step.within, ap length c.items.ensures)

pub recorded_allocation-requires-clause-allocated : goal.recorded_allocation-requires-clause-allocated
recorded_allocation-requires-clause-allocated c =
    (step-found c.self.inside.frame.now c.self.inside.records.now c.items.result.now c.self.inside.number c.in-Some.number c.self.invariant.within c.items.ensures c.in-Some.ensures).marked

pub invariant_of-self-2 : goal.invariant_of-self-2
invariant_of-self-2 c =
    let step = step-found c.self.inside.frame.now c.self.inside.records.now c.items.result.now c.self.inside.number c.in-Some.number c.self.invariant.within c.items.ensures c.in-Some.ensures in
    record { kept = c.self.invariant.kept; within = omega (arith, step.within) }

pub returns-clause-steps : goal.returns-clause-steps
returns-clause-steps c =
    let frame = c.self.inside.frame.now in
    let records = c.self.inside.records.now in
    sym c.self.view_is
    ∙ (step-found frame records c.items.result.now c.self.inside.number c.in-Some.number c.self.invariant.within c.items.ensures c.in-Some.ensures).first
    ∙ ap (λ a. a ∷ recorded_from frame records (c.in-Some.number + 1)) (sym c.recorded_allocation.ensures)

pub returns-clause-goes : goal.returns-clause-goes
returns-clause-goes c =
    let whole : c.args.self.now ≡ c.recorded_allocation.result ∷ recorded_from c.self.inside.frame.now c.self.inside.records.now (c.in-Some.number + 1) = returns-clause-steps c in
    record { on = λ _. (tt, tt, omega (arith, ap length whole)); keeps = tt; rests = λ _. tt }
