use Rattle.std.proofs.Common.{◌≡◌, ◌+◌, ◌-◌, Some, length, ap, sym, ◌∙◌, arith}
use Rattle.etagere_links.specs.Edits.{link_at}
use Rattle.shelf_records.specs.Records.{shelf_chain}
use Rattle.shelf_store.proofs.Grown.GrowSteps.{last-next}
use Rattle.shelf_store.proofs.growing.appending.last_shelf.Goals as goal

pub loop-step-preserved : goal.loop-step-preserved
loop-step-preserved c =
    let shelves = c.args.records.now.shelves in
    let link : link_at shelf_chain.next shelves c.loop-step.last ≡ Some c.in-Some.next =
    ap (λ shelves. link_at shelf_chain.next shelves c.loop-step.last) (sym c.shelves.ensures) ∙ sym c.next_of.ensures ∙ sym c.number-in-loop-step.ensures.value
    ∙ c.in-Some.is in
    record {
      last =
          ap Some (last-next shelf_chain.next shelves (length shelves - c.loop-step._step) (length shelves - (c.loop-step._step + 1)) c.loop-step.last c.in-Some.next
          (omega (arith, c.loop-step-test.true, ap length c.shelves-step-end.ensures)) link)
          ∙ c.loop-step.invariant.last;
      small = c.in-Some.ensures.small;
    }
