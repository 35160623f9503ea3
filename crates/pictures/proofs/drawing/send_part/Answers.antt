-- A picture that fills a rectangle, from gathering to the end.
use Rattle.std.proofs.Common.{List, ◌≡◌, ℕ, Bool, true, [], OnErr, OnOk, rules, subst, sym}
use Rattle.std.proofs.lemmas.Result.{on_ok_weaker, on_err_weaker}
use Rattle.std.specs.Prelude.{if◌then◌else◌}
use Rattle.std.specs.Io.KnownBytes.{Appends}
use Rattle.etagere_base.specs.Drawing.{has_area, part, picture_of}
use Rattle.pictures.specs.Gathering.{GathersMore, SendsBeginning}
use Rattle.pictures.specs.Sending.{AppendsBeginning}
use Rattle.pictures.proofs.GatheringLemmas.{begins-all, begins-last, on-err, sends-all}
use Rattle.pictures.proofs.drawing.send_part.Goals as goal

-- a beginning went out while the text was gathered
pub returns-in_err-push_part-clause-err : goal.returns-in_err-push_part-clause-err
returns-in_err-push_part-clause-err g c =
    let old = g.W.Write.contents c.args.writer.now in
    let new = g.W.Write.contents c.push_part.new.writer in
    let text = part (g.P.Pictured.framed c.args.atlas.now).width (g.P.Pictured.framed c.args.atlas.now).height (picture_of (g.P.Pictured.framed c.args.atlas.now) (g.P.Pictured.shown c.args.atlas.now)) c.args.rectangle.now in
    let has : has_area c.args.rectangle.now ≡ true = search rules in
    subst (λ (b : Bool). OnErr c.from_residual.result (AppendsBeginning (g.W.Write.contents c.args.writer.now) new (if b then text else []))) (sym has)
    (on-err c.from_residual.result
    (begins-all old new text (subst (λ (t : List ℕ). SendsBeginning old t new text) c.new-text.ensures c.in_err-push_part.ensures.err)))

-- all went out
pub returns-clause-ok : goal.returns-clause-ok
returns-clause-ok g c =
    let old = g.W.Write.contents c.args.writer.now in
    let gathered = g.W.Write.contents c.push_part.new.writer in
    let new = g.W.Write.contents c.finish.new.writer in
    let text = part (g.P.Pictured.framed c.args.atlas.now).width (g.P.Pictured.framed c.args.atlas.now).height (picture_of (g.P.Pictured.framed c.args.atlas.now) (g.P.Pictured.shown c.args.atlas.now)) c.args.rectangle.now in
    let has : has_area c.args.rectangle.now ≡ true = search rules in
    subst (λ (b : Bool). OnOk c.finish.result (Appends (g.W.Write.contents c.args.writer.now) new (if b then text else []))) (sym has)
    (on_ok_weaker c.finish.result
    (sends-all old gathered new c.push_part.new.text text
    (subst (λ (t : List ℕ). GathersMore old t gathered c.push_part.new.text text) c.new-text.ensures c.in_ok-push_part.ensures.ok))
    c.finish.ensures.ok)

-- a beginning went out at the end
pub returns-clause-err : goal.returns-clause-err
returns-clause-err g c =
    let old = g.W.Write.contents c.args.writer.now in
    let gathered = g.W.Write.contents c.push_part.new.writer in
    let new = g.W.Write.contents c.finish.new.writer in
    let text = part (g.P.Pictured.framed c.args.atlas.now).width (g.P.Pictured.framed c.args.atlas.now).height (picture_of (g.P.Pictured.framed c.args.atlas.now) (g.P.Pictured.shown c.args.atlas.now)) c.args.rectangle.now in
    let has : has_area c.args.rectangle.now ≡ true = search rules in
    subst (λ (b : Bool). OnErr c.finish.result (AppendsBeginning (g.W.Write.contents c.args.writer.now) new (if b then text else []))) (sym has)
    (on_err_weaker c.finish.result
    (begins-last old gathered new c.push_part.new.text text
    (subst (λ (t : List ℕ). GathersMore old t gathered c.push_part.new.text text) c.new-text.ensures c.in_ok-push_part.ensures.ok))
    c.finish.ensures.err)
