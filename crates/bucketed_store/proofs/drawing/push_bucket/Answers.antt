-- The used part, and then the free one.
use Rattle.std.proofs.lemmas.Result.{on_ok_weaker, on_err_weaker}
use Rattle.pictures.proofs.GatheringLemmas.{begins-both, begins-more, gathers-both, on-err}
use Rattle.bucketed_store.specs.Private.DrawnRecords.{free_line, used_line}
use Rattle.bucketed_store.proofs.drawing.push_bucket.Goals as goal

-- a beginning went out of the used part
pub returns-in_err-push_used-clause-err : goal.returns-in_err-push_used-clause-err
returns-in_err-push_used-clause-err g c =
    on-err c.from_residual.result
    (begins-more (g.W.Write.contents c.args.writer.now) (g.W.Write.contents c.push_used.new.writer) c.args.text.now (used_line c.args.frame.now c.args.shelf.now c.args.bucket.now) (free_line c.args.frame.now c.args.shelf.now c.args.bucket.now)
    c.in_err-push_used.ensures.err)

-- both are gathered
pub returns-clause-ok : goal.returns-clause-ok
returns-clause-ok g c =
    on_ok_weaker c.push_free.result
    (gathers-both (g.W.Write.contents c.args.writer.now) (g.W.Write.contents c.push_used.new.writer) (g.W.Write.contents c.push_free.new.writer) c.args.text.now c.push_used.new.text c.push_free.new.text (used_line c.args.frame.now c.args.shelf.now c.args.bucket.now) (free_line c.args.frame.now c.args.shelf.now c.args.bucket.now)
    c.in_ok-push_used.ensures.ok)
    c.push_free.ensures.ok

-- a beginning went out of the free part
pub returns-clause-err : goal.returns-clause-err
returns-clause-err g c =
    on_err_weaker c.push_free.result
    (begins-both (g.W.Write.contents c.args.writer.now) (g.W.Write.contents c.push_used.new.writer) (g.W.Write.contents c.push_free.new.writer) c.args.text.now c.push_used.new.text (used_line c.args.frame.now c.args.shelf.now c.args.bucket.now) (free_line c.args.frame.now c.args.shelf.now c.args.bucket.now)
    c.in_ok-push_used.ensures.ok)
    c.push_free.ensures.err
