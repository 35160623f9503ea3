use Rattle.std.proofs.Common.{◌≡◌, ◌+◌, ◌-◌, Some, length, ap, sym, ◌∙◌, arith}
use Rattle.etagere_links.specs.Edits.{link_at}
use Rattle.shelf_records.specs.Records.{item_chain}
use Rattle.shelf_store.proofs.Grown.GrowSteps.{last-next}
use Rattle.shelf_store.proofs.growing.counting.last_item.Goals as goal

pub loop-step-preserved : goal.loop-step-preserved
loop-step-preserved c =
    let items = c.args.records.now.items in
    let link : link_at item_chain.next items c.loop-step.last ≡ Some c.in-Some.next =
    ap (λ items. link_at item_chain.next items c.loop-step.last) (sym c.items-items.ensures) ∙ sym c.next_of.ensures ∙ sym c.number.ensures.value ∙ c.in-Some.is in
    record {
      last =
          ap Some (last-next item_chain.next items (length items - c.loop-step._step) (length items - (c.loop-step._step + 1)) c.loop-step.last c.in-Some.next
          (omega (arith, c.loop-step-test.true, ap length c.items-items.ensures)) link)
          ∙ c.loop-step.invariant.last;
      small = c.in-Some.ensures.small;
    }
