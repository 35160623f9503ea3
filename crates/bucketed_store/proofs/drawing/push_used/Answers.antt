use Rattle.std.proofs.Common.{OnErr, OnOk, subst}
use Rattle.etagere_base.specs.Drawing.{drawn_line}
use Rattle.pictures.specs.Gathering.{GathersMore, SendsBeginning}
use Rattle.etagere_base.specs.declared.drawing.Drawn.{Drawn}
use Rattle.bucketed_store.proofs.drawing.push_used.Goals as goal

-- the line is gathered
pub returns-clause-ok : goal.returns-clause-ok
returns-clause-ok g c =
    subst (λ (d : Drawn). OnOk c.push_drawn.result (GathersMore (g.W.Write.contents c.args.writer.now) c.args.text.now (g.W.Write.contents c.push_drawn.new.writer) c.push_drawn.new.text (drawn_line d))) c.used_part.ensures
    c.push_drawn.ensures.ok

-- a beginning went out of the line
pub returns-clause-err : goal.returns-clause-err
returns-clause-err g c =
    subst (λ (d : Drawn). OnErr c.push_drawn.result (SendsBeginning (g.W.Write.contents c.args.writer.now) c.args.text.now (g.W.Write.contents c.push_drawn.new.writer) (drawn_line d))) c.used_part.ensures
    c.push_drawn.ensures.err
