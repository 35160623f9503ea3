use Rattle.std.proofs.Common.{◌+◌, [], drop, get_or}
use Rattle.std.proofs.lemmas.List.{drop_all}
use Rattle.pictures.proofs.GatheringLemmas.{along-begins, along-begun, along-ends, along-passed, on-err}
use Rattle.atlas_pages.proofs.PictureLemmas.{next-left}
use Rattle.atlas_pages.specs.declared.picture.Piece.{Piece}
use Rattle.atlas_pages.specs.declared.picture.Piece.TheVariants.{Text}
use Rattle.atlas_pages.specs.Private.Pieces.{piece_text}
use Rattle.atlas_pages.proofs.picture.push_pieces.Goals as goal

-- what is read past the end
abbrev no_piece : Piece
no_piece = Text (record { ref_ptr = (0, 0); now = [] })

pub loop-piece-init : goal.loop-piece-init
loop-piece-init g c = along-begins piece_text (g.W.Write.contents c.args.writer.now) c.args.text.now c.args.pieces.now

-- a beginning went out with a piece
pub returns-in_err-push_piece-clause-err : goal.returns-in_err-push_piece-clause-err
returns-in_err-push_piece-clause-err g c =
    let pieces = c.args.pieces.now in
    let n = c.loop-piece.piece-index in
    on-err c.from_residual.result
    (along-begun piece_text (g.W.Write.contents c.args.writer.now) c.args.text.now (g.W.Write.contents c.loop-piece.writer) (g.W.Write.contents c.push_piece.new.writer)
    c.loop-piece.text (get_or pieces n no_piece) (drop n pieces) (drop (n + 1) pieces) pieces c.loop-piece.invariant
    (next-left pieces n no_piece c.loop-piece-test.true) c.in_err-push_piece.ensures.err)

-- one more is gathered
pub loop-piece-preserved : goal.loop-piece-preserved
loop-piece-preserved g c =
    let pieces = c.args.pieces.now in
    let n = c.loop-piece.piece-index in
    along-passed piece_text (g.W.Write.contents c.args.writer.now) c.args.text.now (g.W.Write.contents c.loop-piece.writer) (g.W.Write.contents c.push_piece.new.writer)
    c.loop-piece.text c.push_piece.new.text (get_or pieces n no_piece) (drop n pieces) (drop (n + 1) pieces) pieces c.loop-piece.invariant
    (next-left pieces n no_piece c.loop-piece-test.true) c.in_ok-push_piece.ensures.ok

-- all are
pub returns-clause-ok : goal.returns-clause-ok
returns-clause-ok g c =
    let pieces = c.args.pieces.now in
    let n = c.loop-piece.piece-index in
    along-ends piece_text (g.W.Write.contents c.args.writer.now) c.args.text.now (g.W.Write.contents c.loop-piece.writer) c.loop-piece.text
    (drop n pieces) pieces c.loop-piece.invariant (drop_all n pieces c.loop-piece-test.false)
