use Rattle.std.proofs.Common.{◌≡◌, ◌+◌, ◌-◌, length, ap, ◌∙◌, arith}
use Rattle.etagere_links.specs.Edits.{link_at}
use Rattle.shelf_records.specs.Records.{shelf_chain}
use Rattle.shelf_store.specs.Private.RecordsGrown as spec
use Rattle.shelf_store.proofs.Grown.GrowSteps.{can-widen, can-widen-next, growing-is, widened-next}
use Rattle.shelf_store.proofs.growing.widening.widen_shelves.Goals as goal

pub widen_shelf-requires : goal.widen_shelf-requires
widen_shelf-requires c =
    let count = length c.args.records.now.shelves in
    can-widen c.args.place c.args.width (count - c.loop-step._step) (count - (c.loop-step._step + 1)) c.in-Some.shelf c.loop-step.at
    (record { records = c.loop-step.records; made = c.loop-step.made }) (omega (arith, c.loop-step-test.true, ap length c.shelves-step-end.ensures)) c.in-Some.is
    c.loop-step.invariant.can

pub loop-step-preserved : goal.loop-step-preserved
loop-step-preserved c =
    let count = length c.args.records.now.shelves in
    let growing : spec.Growing = record { records = c.loop-step.records; made = c.loop-step.made } in
    let new : spec.Growing = record { records = c.widen_shelf.new.records; made = c.widen_shelf.new.made } in
    let widened : new ≡ spec.shelf_widened c.in-Some.shelf c.args.place c.args.width growing =
    growing-is c.widen_shelf.new.records c.widen_shelf.new.made (spec.shelf_widened c.in-Some.shelf c.args.place c.args.width growing) c.widen_shelf.ensures.records
    c.widen_shelf.ensures.made in
    let follows : c.number-at-in-loop-step.result ≡ link_at shelf_chain.next c.widen_shelf.new.records.shelves c.in-Some.shelf =
    c.number-at-in-loop-step.ensures.value ∙ c.next_of.ensures ∙ ap (λ shelves. link_at shelf_chain.next shelves c.in-Some.shelf) c.shelves.ensures in
    record {
      rest =
          widened-next c.args.place c.args.width (count - c.loop-step._step) (count - (c.loop-step._step + 1)) c.in-Some.shelf c.loop-step.at
          c.number-at-in-loop-step.result growing new (omega (arith, c.loop-step-test.true, ap length c.shelves-step-end.ensures)) c.in-Some.is widened follows
          ∙ c.loop-step.invariant.rest;
      can =
          can-widen-next c.args.place c.args.width (count - c.loop-step._step) (count - (c.loop-step._step + 1)) c.in-Some.shelf c.loop-step.at
          c.number-at-in-loop-step.result growing new (omega (arith, c.loop-step-test.true, ap length c.shelves-step-end.ensures)) c.in-Some.is widened follows
          c.loop-step.invariant.can;
    }
