use Rattle.glyph_shelf.specs.Placing.{LacksRoom}
use Rattle.glyph_shelf.proofs.FullFrames.{IsTried}
use Rattle.glyph_shelf.proofs.kept.Kept.room_without.Given as goal

abbrev pub invariant-loop-gone : goal.invariant-loop-gone
invariant-loop-gone l =
    record {
      tried : IsTried l.self l.gone l.left l.atlas;
      lacks : LacksRoom l.self l.size l.gone;
    }
