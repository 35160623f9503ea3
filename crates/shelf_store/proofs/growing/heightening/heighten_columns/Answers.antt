use Rattle.std.proofs.Common.{◌≡◌, ◌+◌, ◌-◌, length, ap, ◌∙◌, arith}
use Rattle.etagere_links.specs.Edits.{link_at}
use Rattle.shelf_records.specs.Records.{shelf_chain}
use Rattle.shelf_store.specs.Private.RecordsGrown as spec
use Rattle.shelf_store.proofs.Grown.GrowSteps.{can-heighten, can-heighten-next, growing-is, heightened-next}
use Rattle.shelf_store.proofs.growing.heightening.heighten_columns.Goals as goal

pub heighten_end-requires : goal.heighten_end-requires
heighten_end-requires c =
    let count = length c.args.records.now.shelves in
    can-heighten c.args.width c.args.height (count - c.loop-step._step) (count - (c.loop-step._step + 1)) c.in-Some.shelf c.loop-step.at
    c.number-at-in-loop-step.result (record { records = c.loop-step.records; made = c.loop-step.made })
    (omega (arith, c.loop-step-test.true, ap length c.shelves-step-end.ensures)) c.in-Some.is
    (c.number-at-in-loop-step.ensures.value ∙ c.next_of.ensures ∙ ap (λ shelves. link_at shelf_chain.next shelves c.in-Some.shelf) c.shelves.ensures)
    c.loop-step.invariant.can

pub loop-step-preserved : goal.loop-step-preserved
loop-step-preserved c =
    let count = length c.args.records.now.shelves in
    let growing : spec.Growing = record { records = c.loop-step.records; made = c.loop-step.made } in
    let new : spec.Growing = record { records = c.heighten_end.new.records; made = c.heighten_end.new.made } in
    let heightened : new ≡ spec.end_heightened c.args.width c.in-Some.shelf c.args.height c.number-at-in-loop-step.result growing =
    growing-is c.heighten_end.new.records c.heighten_end.new.made
    (spec.end_heightened c.args.width c.in-Some.shelf c.args.height c.number-at-in-loop-step.result growing) c.heighten_end.ensures.records
    c.heighten_end.ensures.made in
    let follows : c.number-at-in-loop-step.result ≡ link_at shelf_chain.next c.loop-step.records.shelves c.in-Some.shelf =
    c.number-at-in-loop-step.ensures.value ∙ c.next_of.ensures ∙ ap (λ shelves. link_at shelf_chain.next shelves c.in-Some.shelf) c.shelves.ensures in
    record {
      rest =
          heightened-next c.args.width c.args.height (count - c.loop-step._step) (count - (c.loop-step._step + 1)) c.in-Some.shelf c.loop-step.at
          c.number-at-in-loop-step.result growing new (omega (arith, c.loop-step-test.true, ap length c.shelves-step-end.ensures)) c.in-Some.is follows heightened
          ∙ c.loop-step.invariant.rest;
      can =
          can-heighten-next c.args.width c.args.height (count - c.loop-step._step) (count - (c.loop-step._step + 1)) c.in-Some.shelf c.loop-step.at
          c.number-at-in-loop-step.result growing new (omega (arith, c.loop-step-test.true, ap length c.shelves-step-end.ensures)) c.in-Some.is follows heightened
          c.loop-step.invariant.can;
    }
