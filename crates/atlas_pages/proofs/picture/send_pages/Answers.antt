-- A document of pages, from gathering to the end.
use Rattle.std.proofs.Common.{List, ℕ, subst}
use Rattle.std.proofs.lemmas.Result.{on_ok_weaker, on_err_weaker}
use Rattle.atlas_pages.specs.Picture.{pages_document}
use Rattle.pictures.specs.Gathering.{GathersMore, SendsBeginning}
use Rattle.pictures.proofs.GatheringLemmas.{begins-all, begins-last, on-err, sends-all}
use Rattle.atlas_pages.proofs.picture.send_pages.Goals as goal

-- a beginning went out while the text was gathered
pub returns-in_err-push_document-clause-err : goal.returns-in_err-push_document-clause-err
returns-in_err-push_document-clause-err g c =
    let old = g.W.Write.contents c.args.writer.now in
    let new = g.W.Write.contents c.push_document.new.writer in
    let text = pages_document c.args.frame.now c.args.pages.now in
    on-err c.from_residual.result
    (begins-all old new text (subst (λ (t : List ℕ). SendsBeginning old t new text) c.new-text.ensures c.in_err-push_document.ensures.err))

-- all went out
pub returns-clause-ok : goal.returns-clause-ok
returns-clause-ok g c =
    let old = g.W.Write.contents c.args.writer.now in
    let gathered = g.W.Write.contents c.push_document.new.writer in
    let new = g.W.Write.contents c.finish.new.writer in
    let text = pages_document c.args.frame.now c.args.pages.now in
    on_ok_weaker c.finish.result
    (sends-all old gathered new c.push_document.new.text text
    (subst (λ (t : List ℕ). GathersMore old t gathered c.push_document.new.text text) c.new-text.ensures c.in_ok-push_document.ensures.ok))
    c.finish.ensures.ok

-- a beginning went out at the end
pub returns-clause-err : goal.returns-clause-err
returns-clause-err g c =
    let old = g.W.Write.contents c.args.writer.now in
    let gathered = g.W.Write.contents c.push_document.new.writer in
    let new = g.W.Write.contents c.finish.new.writer in
    let text = pages_document c.args.frame.now c.args.pages.now in
    on_err_weaker c.finish.result
    (begins-last old gathered new c.push_document.new.text text
    (subst (λ (t : List ℕ). GathersMore old t gathered c.push_document.new.text text) c.new-text.ensures c.in_ok-push_document.ensures.ok))
    c.finish.ensures.err
