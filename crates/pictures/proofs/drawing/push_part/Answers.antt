-- A picture that fills a rectangle of a document.
use Rattle.std.proofs.Common.{◌++◌, subst}
use Rattle.std.proofs.lemmas.Result.{on_ok_weaker, on_err_weaker}
use Rattle.std.specs.Prelude.{codes}
use Rattle.etagere_base.specs.Drawing.{drawn_lines, part_begin, picture_of}
use Rattle.pictures.specs.Gathering.{GathersMore, SendsBeginning}
use Rattle.etagere_base.specs.declared.frames.Frame.{Frame}
use Rattle.pictures.proofs.GatheringLemmas.{begins-both, begins-more, gathers-both, on-err}
use Rattle.pictures.proofs.drawing.push_part.Goals as goal

-- a beginning went out with the first line
pub returns-in_err-push_part_begin-clause-err : goal.returns-in_err-push_part_begin-clause-err
returns-in_err-push_part_begin-clause-err g c =
    let old = g.W.Write.contents c.args.writer.now in
    let new = g.W.Write.contents c.push_part_begin.new.writer in
    let lines = drawn_lines (picture_of (g.P.Pictured.framed c.args.atlas.now) (g.P.Pictured.shown c.args.atlas.now)) in
    on-err c.from_residual.result
    (begins-more old new c.args.text.now (part_begin (g.P.Pictured.framed c.args.atlas.now).width (g.P.Pictured.framed c.args.atlas.now).height c.args.rectangle.now) (lines ++ codes "    </svg>\n")
    (subst (λ (frame : Frame). SendsBeginning old c.args.text.now new (part_begin frame.width frame.height c.args.rectangle.now)) c.frame-frame.ensures c.in_err-push_part_begin.ensures.err))

-- a beginning went out with the lines
pub returns-in_err-push_picture-clause-err : goal.returns-in_err-push_picture-clause-err
returns-in_err-push_picture-clause-err g c =
    let old = g.W.Write.contents c.args.writer.now in
    let begun = g.W.Write.contents c.push_part_begin.new.writer in
    let new = g.W.Write.contents c.push_picture.new.writer in
    let lines = drawn_lines (picture_of (g.P.Pictured.framed c.args.atlas.now) (g.P.Pictured.shown c.args.atlas.now)) in
    on-err c.from_residual-in_err-push_picture.result
    (begins-both old begun new c.args.text.now c.push_part_begin.new.text (part_begin (g.P.Pictured.framed c.args.atlas.now).width (g.P.Pictured.framed c.args.atlas.now).height c.args.rectangle.now) (lines ++ codes "    </svg>\n")
    (subst (λ (frame : Frame). GathersMore old c.args.text.now begun c.push_part_begin.new.text (part_begin frame.width frame.height c.args.rectangle.now)) c.frame-frame.ensures c.in_ok-push_part_begin.ensures.ok)
    (begins-more begun new c.push_part_begin.new.text lines (codes "    </svg>\n") c.in_err-push_picture.ensures.err))

-- all pieces are gathered
pub returns-clause-ok : goal.returns-clause-ok
returns-clause-ok g c =
    let old = g.W.Write.contents c.args.writer.now in
    let begun = g.W.Write.contents c.push_part_begin.new.writer in
    let drawn = g.W.Write.contents c.push_picture.new.writer in
    let new = g.W.Write.contents c.push.new.writer in
    let lines = drawn_lines (picture_of (g.P.Pictured.framed c.args.atlas.now) (g.P.Pictured.shown c.args.atlas.now)) in
    on_ok_weaker c.push.result
    (λ out. gathers-both old begun new c.args.text.now c.push_part_begin.new.text c.push.new.self (part_begin (g.P.Pictured.framed c.args.atlas.now).width (g.P.Pictured.framed c.args.atlas.now).height c.args.rectangle.now) (lines ++ codes "    </svg>\n")
    (subst (λ (frame : Frame). GathersMore old c.args.text.now begun c.push_part_begin.new.text (part_begin frame.width frame.height c.args.rectangle.now)) c.frame-frame.ensures c.in_ok-push_part_begin.ensures.ok)
    (gathers-both begun drawn new c.push_part_begin.new.text c.push_picture.new.text c.push.new.self lines (codes "    </svg>\n") c.in_ok-push_picture.ensures.ok out))
    c.push.ensures.ok

-- a beginning went out with the end
pub returns-clause-err : goal.returns-clause-err
returns-clause-err g c =
    let old = g.W.Write.contents c.args.writer.now in
    let begun = g.W.Write.contents c.push_part_begin.new.writer in
    let drawn = g.W.Write.contents c.push_picture.new.writer in
    let new = g.W.Write.contents c.push.new.writer in
    let lines = drawn_lines (picture_of (g.P.Pictured.framed c.args.atlas.now) (g.P.Pictured.shown c.args.atlas.now)) in
    on_err_weaker c.push.result
    (λ out. begins-both old begun new c.args.text.now c.push_part_begin.new.text (part_begin (g.P.Pictured.framed c.args.atlas.now).width (g.P.Pictured.framed c.args.atlas.now).height c.args.rectangle.now) (lines ++ codes "    </svg>\n")
    (subst (λ (frame : Frame). GathersMore old c.args.text.now begun c.push_part_begin.new.text (part_begin frame.width frame.height c.args.rectangle.now)) c.frame-frame.ensures c.in_ok-push_part_begin.ensures.ok)
    (begins-both begun drawn new c.push_part_begin.new.text c.push_picture.new.text lines (codes "    </svg>\n") c.in_ok-push_picture.ensures.ok out))
    c.push.ensures.err
