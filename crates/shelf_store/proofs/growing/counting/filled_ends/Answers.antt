use Rattle.std.proofs.Common.{◌≡◌, ℕ, ◌+◌, ◌-◌, Bool, cond, length, ap, ◌∙◌, arith}
use Rattle.etagere_links.specs.Edits.{link_at}
use Rattle.shelf_records.specs.Records.{shelf_chain}
use Rattle.shelf_store.specs.Private.RecordsGrown as spec
use Rattle.shelf_store.proofs.Grown.GrowSteps.{bit-le, counted-next}
use Rattle.shelf_store.proofs.growing.counting.filled_ends.Goals as goal

pub loop-step-preserved : goal.loop-step-preserved
loop-step-preserved c =
    let shelves = c.args.records.now.shelves in
    let follows : c.number-at-in-loop-step.result ≡ link_at shelf_chain.next shelves c.in-Some.shelf =
    c.number-at-in-loop-step.ensures.value ∙ c.next_of.ensures ∙ ap (λ shelves. link_at shelf_chain.next shelves c.in-Some.shelf) c.shelves.ensures in
    record {
      counted = omega (
        arith,
        counted-next (spec.is_filled_end shelves) shelves (length shelves - c.loop-step._step) (length shelves - (c.loop-step._step + 1)) c.in-Some.shelf c.loop-step.at
            c.number-at-in-loop-step.result (omega (arith, c.loop-step-test.true, ap length c.shelves-step-end.ensures)) c.in-Some.is follows,
        c.loop-step.invariant.counted,
        c.one_if-count.ensures,
        ap {B = ℕ} (λ (b : Bool). cond b 1 0) c.is_filled_end.ensures,
      );
      few = omega (arith, c.loop-step.invariant.few, c.one_if-count.ensures, bit-le c.is_filled_end.result);
    }
