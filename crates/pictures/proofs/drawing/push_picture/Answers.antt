-- The whole atlas, and then what lies in it.
use Rattle.std.proofs.Common.{subst}
use Rattle.std.proofs.lemmas.Result.{on_ok_weaker, on_err_weaker}
use Rattle.etagere_base.specs.Drawing.{background, drawn_line, drawn_lines}
use Rattle.pictures.specs.Gathering.{GathersMore, SendsBeginning}
use Rattle.etagere_base.specs.declared.drawing.Drawn.{Drawn}
use Rattle.etagere_base.specs.declared.frames.Frame.{Frame}
use Rattle.pictures.proofs.GatheringLemmas.{begins-both, begins-more, gathers-both, on-err}
use Rattle.pictures.proofs.drawing.push_picture.Goals as goal

-- a beginning went out with the whole atlas
pub returns-in_err-push_drawn-clause-err : goal.returns-in_err-push_drawn-clause-err
returns-in_err-push_drawn-clause-err g c =
    let old = g.W.Write.contents c.args.writer.now in
    let new = g.W.Write.contents c.push_drawn.new.writer in
    on-err c.from_residual.result
    (begins-more old new c.args.text.now (drawn_line (background (g.P.Pictured.framed c.args.atlas.now))) (drawn_lines (g.P.Pictured.shown c.args.atlas.now))
    (subst (λ (frame : Frame). SendsBeginning old c.args.text.now new (drawn_line (background frame))) c.frame.ensures
    (subst (λ (drawn : Drawn). SendsBeginning old c.args.text.now new (drawn_line drawn)) c.background.ensures c.in_err-push_drawn.ensures.err)))

-- both pieces are gathered
pub returns-clause-ok : goal.returns-clause-ok
returns-clause-ok g c =
    let old = g.W.Write.contents c.args.writer.now in
    let middle = g.W.Write.contents c.push_drawn.new.writer in
    on_ok_weaker c.push_shown.result
    (gathers-both old middle (g.W.Write.contents c.push_shown.new.writer) c.args.text.now c.push_drawn.new.text c.push_shown.new.text
    (drawn_line (background (g.P.Pictured.framed c.args.atlas.now))) (drawn_lines (g.P.Pictured.shown c.args.atlas.now))
    (subst (λ (frame : Frame). GathersMore old c.args.text.now middle c.push_drawn.new.text (drawn_line (background frame))) c.frame.ensures
    (subst (λ (drawn : Drawn). GathersMore old c.args.text.now middle c.push_drawn.new.text (drawn_line drawn)) c.background.ensures c.in_ok-push_drawn.ensures.ok)))
    c.push_shown.ensures.ok

-- a beginning went out with what lies in it
pub returns-clause-err : goal.returns-clause-err
returns-clause-err g c =
    let old = g.W.Write.contents c.args.writer.now in
    let middle = g.W.Write.contents c.push_drawn.new.writer in
    on_err_weaker c.push_shown.result
    (begins-both old middle (g.W.Write.contents c.push_shown.new.writer) c.args.text.now c.push_drawn.new.text
    (drawn_line (background (g.P.Pictured.framed c.args.atlas.now))) (drawn_lines (g.P.Pictured.shown c.args.atlas.now))
    (subst (λ (frame : Frame). GathersMore old c.args.text.now middle c.push_drawn.new.text (drawn_line (background frame))) c.frame.ensures
    (subst (λ (drawn : Drawn). GathersMore old c.args.text.now middle c.push_drawn.new.text (drawn_line drawn)) c.background.ensures c.in_ok-push_drawn.ensures.ok)))
    c.push_shown.ensures.err
