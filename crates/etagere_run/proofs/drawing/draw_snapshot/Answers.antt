use Rattle.std.proofs.Common.{rules}
use Rattle.etagere_run.proofs.SavedDrawings.{saved-draws}
use Rattle.etagere_run.proofs.drawing.draw_snapshot.Goals as goal

pub returns-in-Ok : goal.returns-in-Ok
returns-in-Ok g c =
    saved-draws c.args.bytes.now c.in-Ok.saved (g.W.Write.contents c.args.writer.now)
    (g.W.Write.contents c.draw_saved.new.writer) c.draw_saved.result (search rules) c.draw_saved.ensures
