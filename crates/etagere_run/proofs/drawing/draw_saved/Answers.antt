use Rattle.std.proofs.Common.{◌≡◌, refl, rules}
use Rattle.shelf_model.specs.Svg as shelves
use Rattle.bucketed_model.specs.Svg as buckets
use Rattle.etagere_run.proofs.SavedDrawings.{sent-draws}
use Rattle.etagere_run.proofs.drawing.draw_saved.Goals as goal
use Rattle.saved_json.specs.declared.saved.Saved.TheVariants.{Atlas, Bucketed}

pub returns-in-Ok : goal.returns-in-Ok
returns-in-Ok g c =
    let is : c.args.saved ≡ Atlas c.in-Atlas.snapshot = search rules in
    let atlas = c.in-Ok.atlas in
    rw is (sent-draws (Atlas c.in-Atlas.snapshot) (shelves.svg atlas) (g.W.Write.contents c.args.writer.now)
    (g.W.Write.contents c.dump_svg.new.output) c.dump_svg.result c.fine_if_sent.result
    (atlas, search rules, refl) c.dump_svg.ensures.ok c.dump_svg.ensures.err c.fine_if_sent.ensures.ok
    c.fine_if_sent.ensures.err)

pub returns-in-Ok-restore : goal.returns-in-Ok-restore
returns-in-Ok-restore g c =
    let is : c.args.saved ≡ Bucketed c.in-Bucketed.snapshot = search rules in
    let atlas = c.in-Ok-restore.atlas in
    rw is (sent-draws (Bucketed c.in-Bucketed.snapshot) (buckets.svg atlas) (g.W.Write.contents c.args.writer.now)
    (g.W.Write.contents c.dump_svg-in-Ok-restore.new.output) c.dump_svg-in-Ok-restore.result
    c.fine_if_sent-in-Ok-restore.result (atlas, search rules, refl) c.dump_svg-in-Ok-restore.ensures.ok
    c.dump_svg-in-Ok-restore.ensures.err c.fine_if_sent-in-Ok-restore.ensures.ok
    c.fine_if_sent-in-Ok-restore.ensures.err)
