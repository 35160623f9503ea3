use Rattle.std.proofs.Common.{Bool, Global, Vec, inl, inr, ap, arith}
use Rattle.shelf_restoring.proofs.Judged.UsedMarks.{used-more}
use Rattle.shelf_restoring.proofs.judging.freeing.used_marks.Goals as goal
use Rattle.shelf_restoring.proofs.judging.freeing.used_marks.Goals.{then-item-len, else-item-len}

pub loop-number-preserved : goal.loop-number-preserved
loop-number-preserved c =
    let marks = c.loop-number.marks.items in
    let kept = c.loop-number.invariant in
    let more = used-more c.args.count c.loop-number.number-index c.from-item.result c.args.unused.now marks c.if-item-len.marks.items c.loop-number-test.true c.from-item.ensures kept.marks
    (elim c.if-item-len.branch [
      | then-item-len w ↦ inl (omega (arith, w.if-item-len.true, c.len.ensures), ap (λ (m : Vec Bool Global). m.items) w.marks-is)
      | else-item-len w ↦ inr (omega (arith, w.if-item-len.false, c.len.ensures), ap (λ (m : Vec Bool Global). m.items) w.marks-is)
    ]) kept.used in
    record { marks = more.0; used = more.1 }
