use Rattle.std.proofs.Common.{◌≡◌, suc, ◌+◌, sym, ◌∙◌, arith}
use Rattle.bucketed_store.proofs.BusyShelves.{mergeable-past}
use Rattle.bucketed_store.proofs.merging.mergeable_between.Goals as goal

pub loop-first-preserved : goal.loop-first-preserved
loop-first-preserved c =
    let next : c.loop-first.first + 1 ≡ suc c.loop-first.first = omega arith in
    let past = mergeable-past c.args.sides.now c.loop-first.first c.loop-first.first c.args.shelves.now (omega arith) (sym c.serves.ensures ∙ c.if-serves.false) (sym c.serves-in-loop-first.ensures ∙ c.if-serves-2.false) in
    rw next (sym past ∙ c.loop-first.invariant)
