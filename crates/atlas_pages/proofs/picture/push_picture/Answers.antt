use Rattle.std.proofs.Common.{subst}
use Rattle.std.proofs.lemmas.Result.{on_ok_weaker, on_err_weaker}
use Rattle.pictures.proofs.GatheringLemmas.{begins-both, begins-more, gathers-both, on-err}
use Rattle.etagere_base.specs.Drawing.{background, drawn_line, drawn_lines}
use Rattle.pictures.specs.Gathering.{GathersMore, SendsBeginning}
use Rattle.etagere_base.specs.declared.frames.Frame.{Frame}
use Rattle.shelf_model.specs.Svg.{drawn_items}
use Rattle.atlas_pages.proofs.picture.push_picture.Goals as goal

-- a beginning went out with the background
pub returns-in_err-push_drawn-clause-err : goal.returns-in_err-push_drawn-clause-err
returns-in_err-push_drawn-clause-err g c =
    let old = g.W.Write.contents c.args.writer.now in
    let new = g.W.Write.contents c.push_drawn.new.writer in
    on-err c.from_residual.result
    (begins-more old new c.args.text.now (drawn_line (background c.args.page.now.frame)) (drawn_lines (drawn_items c.args.page.now))
    (subst (λ (frame : Frame). SendsBeginning old c.args.text.now new (drawn_line (background frame))) c.frame-frame.ensures c.in_err-push_drawn.ensures.err))

-- all is gathered
pub returns-clause-ok : goal.returns-clause-ok
returns-clause-ok g c =
    let old = g.W.Write.contents c.args.writer.now in
    let drawn = g.W.Write.contents c.push_drawn.new.writer in
    let new = g.W.Write.contents c.push_shown.new.writer in
    on_ok_weaker c.push_shown.result
    (λ out. gathers-both old drawn new c.args.text.now c.push_drawn.new.text c.push_shown.new.text (drawn_line (background c.args.page.now.frame)) (drawn_lines (drawn_items c.args.page.now))
    (subst (λ (frame : Frame). GathersMore old c.args.text.now drawn c.push_drawn.new.text (drawn_line (background frame))) c.frame-frame.ensures c.in_ok-push_drawn.ensures.ok) out)
    c.push_shown.ensures.ok

-- a beginning went out with the items
pub returns-clause-err : goal.returns-clause-err
returns-clause-err g c =
    let old = g.W.Write.contents c.args.writer.now in
    let drawn = g.W.Write.contents c.push_drawn.new.writer in
    let new = g.W.Write.contents c.push_shown.new.writer in
    on_err_weaker c.push_shown.result
    (λ out. begins-both old drawn new c.args.text.now c.push_drawn.new.text (drawn_line (background c.args.page.now.frame)) (drawn_lines (drawn_items c.args.page.now))
    (subst (λ (frame : Frame). GathersMore old c.args.text.now drawn c.push_drawn.new.text (drawn_line (background frame))) c.frame-frame.ensures c.in_ok-push_drawn.ensures.ok) out)
    c.push_shown.ensures.err
