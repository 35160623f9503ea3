use Rattle.std.proofs.Common.{◌≡◌, Bool, true, [], OnErr, rules, subst, sym}
use Rattle.std.specs.Prelude.{nat_lt, if◌then◌else◌}
use Rattle.etagere_base.specs.Drawing.{drawn_line}
use Rattle.pictures.specs.Gathering.{SendsBeginning}
use Rattle.etagere_base.specs.declared.drawing.Drawn.{Drawn}
use Rattle.bucketed_store.specs.Private.DrawnRecords.{recorded_free}
use Rattle.bucketed_store.proofs.drawing.push_free.Goals as goal

-- a beginning went out of the line
pub returns-clause-err : goal.returns-clause-err
returns-clause-err g c =
    let old = g.W.Write.contents c.args.writer.now in
    let new = g.W.Write.contents c.push_drawn.new.writer in
    let drawn : Drawn = recorded_free c.args.frame.now c.args.shelf.now c.args.bucket.now in
    let some : nat_lt 0 c.args.bucket.now.free_space ≡ true = search rules in
    subst (λ (b : Bool). OnErr c.push_drawn.result (SendsBeginning old c.args.text.now new (if b then drawn_line drawn else []))) (sym some)
    (subst (λ (d : Drawn). OnErr c.push_drawn.result (SendsBeginning old c.args.text.now new (drawn_line d))) c.free_part.ensures
    c.push_drawn.ensures.err)
