use Rattle.std.proofs.Common.{drop}
use Rattle.pictures.proofs.GatheringLemmas.{GathersAlong}
use Rattle.atlas_pages.specs.Private.Pieces.{piece_text}
use Rattle.atlas_pages.proofs.picture.push_pieces.Given as goal

-- the pieces so far and those that are left make the whole
abbrev pub invariant-loop-piece : goal.invariant-loop-piece
invariant-loop-piece g l =
    GathersAlong piece_text (g.W.Write.contents l.fn.writer) l.fn.text (g.W.Write.contents l.writer) l.text (drop l.piece-index l.pieces) l.pieces
