use Rattle.std.proofs.Common.{List, ℕ, OnErr, subst, sym}
use Rattle.pictures.specs.Gathering.{SendsBeginning}
use Rattle.atlas_pages.specs.declared.picture.Piece.{Piece}
use Rattle.atlas_pages.specs.Private.Pieces.{piece_text}
use Rattle.atlas_pages.proofs.picture.push_piece.Goals as goal

pub returns-in-Text-clause-err : goal.returns-in-Text-clause-err
returns-in-Text-clause-err g c =
    let old = g.W.Write.contents c.args.writer.now in
    let new = g.W.Write.contents c.push.new.writer in
    subst (λ (p : Piece). OnErr c.push.result (SendsBeginning old c.args.text.now new (piece_text p))) (sym c.in-Text.is) c.push.ensures.err

pub returns-in-Number-clause-err : goal.returns-in-Number-clause-err
returns-in-Number-clause-err g c =
    let old = g.W.Write.contents c.args.writer.now in
    let new = g.W.Write.contents c.push-in-Number.new.writer in
    subst (λ (p : Piece). OnErr c.push-in-Number.result (SendsBeginning old c.args.text.now new (piece_text p))) (sym c.in-Number.is)
    (subst (λ (l : List ℕ). OnErr c.push-in-Number.result (SendsBeginning old c.args.text.now new l)) c.format.ensures.text c.push-in-Number.ensures.err)
