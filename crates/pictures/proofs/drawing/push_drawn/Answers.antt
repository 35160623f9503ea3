use Rattle.std.proofs.Common.{[]}
use Rattle.etagere_base.specs.Drawing.{drawn_line}
use Rattle.pictures.proofs.GatheringLemmas.{begins-more, gathers-added, on-err}
use Rattle.pictures.proofs.drawing.push_drawn.Goals as goal

-- a beginning went out before the line
pub returns-in_err-make_room-clause-err : goal.returns-in_err-make_room-clause-err
returns-in_err-make_room-clause-err g c =
    on-err c.from_residual.result
    (begins-more (g.W.Write.contents c.args.writer.now) (g.W.Write.contents c.make_room.new.writer) c.args.text.now [] (drawn_line c.args.drawn.now) c.in_err-make_room.ensures.err)

-- the line is gathered
pub returns-clause-ok : goal.returns-clause-ok
returns-clause-ok g c =
    gathers-added (g.W.Write.contents c.args.writer.now) (g.W.Write.contents c.make_room.new.writer) c.args.text.now c.make_room.new.self c.append_drawn.new.text (drawn_line c.args.drawn.now) c.in_ok-make_room.ensures.ok c.append_drawn.ensures
