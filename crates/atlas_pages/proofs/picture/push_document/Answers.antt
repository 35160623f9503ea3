use Rattle.std.proofs.Common.{◌++◌, length}
use Rattle.std.proofs.lemmas.Result.{on_ok_weaker, on_err_weaker}
use Rattle.std.specs.Prelude.{codes}
use Rattle.pictures.proofs.GatheringLemmas.{begins-both, begins-more, gathers-both, on-err}
use Rattle.etagere_base.specs.Drawing.{document_begin}
use Rattle.atlas_pages.specs.Picture.{page_texts, pages_width}
use Rattle.atlas_pages.proofs.picture.push_document.Goals as goal

-- a beginning went out with the first line
pub returns-in_err-push_document_begin-clause-err : goal.returns-in_err-push_document_begin-clause-err
returns-in_err-push_document_begin-clause-err g c =
    let first = document_begin (pages_width c.args.frame.now.width (length c.args.pages.now)) c.args.frame.now.height in
    on-err c.from_residual.result
    (begins-more (g.W.Write.contents c.args.writer.now) (g.W.Write.contents c.push_document_begin.new.writer) c.args.text.now first (page_texts c.args.pages.now ++ codes "</svg>\n")
    c.in_err-push_document_begin.ensures.err)

-- a beginning went out with the pages
pub returns-in_err-push_pages-clause-err : goal.returns-in_err-push_pages-clause-err
returns-in_err-push_pages-clause-err g c =
    let begun = g.W.Write.contents c.push_document_begin.new.writer in
    let new = g.W.Write.contents c.push_pages.new.writer in
    let first = document_begin (pages_width c.args.frame.now.width (length c.args.pages.now)) c.args.frame.now.height in
    on-err c.from_residual-in_err-push_pages.result
    (begins-both (g.W.Write.contents c.args.writer.now) begun new c.args.text.now c.push_document_begin.new.text first (page_texts c.args.pages.now ++ codes "</svg>\n")
    c.in_ok-push_document_begin.ensures.ok
    (begins-more begun new c.push_document_begin.new.text (page_texts c.args.pages.now) (codes "</svg>\n") c.in_err-push_pages.ensures.err))

-- all is gathered
pub returns-clause-ok : goal.returns-clause-ok
returns-clause-ok g c =
    let begun = g.W.Write.contents c.push_document_begin.new.writer in
    let drawn = g.W.Write.contents c.push_pages.new.writer in
    let new = g.W.Write.contents c.push.new.writer in
    let first = document_begin (pages_width c.args.frame.now.width (length c.args.pages.now)) c.args.frame.now.height in
    on_ok_weaker c.push.result
    (λ out. gathers-both (g.W.Write.contents c.args.writer.now) begun new c.args.text.now c.push_document_begin.new.text c.push.new.self first (page_texts c.args.pages.now ++ codes "</svg>\n")
    c.in_ok-push_document_begin.ensures.ok
    (gathers-both begun drawn new c.push_document_begin.new.text c.push_pages.new.text c.push.new.self (page_texts c.args.pages.now) (codes "</svg>\n") c.in_ok-push_pages.ensures.ok out))
    c.push.ensures.ok

-- a beginning went out with the end
pub returns-clause-err : goal.returns-clause-err
returns-clause-err g c =
    let begun = g.W.Write.contents c.push_document_begin.new.writer in
    let drawn = g.W.Write.contents c.push_pages.new.writer in
    let new = g.W.Write.contents c.push.new.writer in
    let first = document_begin (pages_width c.args.frame.now.width (length c.args.pages.now)) c.args.frame.now.height in
    on_err_weaker c.push.result
    (λ out. begins-both (g.W.Write.contents c.args.writer.now) begun new c.args.text.now c.push_document_begin.new.text first (page_texts c.args.pages.now ++ codes "</svg>\n")
    c.in_ok-push_document_begin.ensures.ok
    (begins-both begun drawn new c.push_document_begin.new.text c.push_pages.new.text (page_texts c.args.pages.now) (codes "</svg>\n") c.in_ok-push_pages.ensures.ok out))
    c.push.ensures.err
