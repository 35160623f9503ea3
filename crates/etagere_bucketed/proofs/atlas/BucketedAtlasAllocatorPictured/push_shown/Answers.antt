-- What an atlas draws: the lines of all that lies in it.
use Rattle.std.proofs.Common.{OnErr, OnOk, subst}
use Rattle.etagere_base.specs.Drawing.{drawn_lines}
use Rattle.pictures.specs.Gathering.{GathersMore, SendsBeginning}
use Rattle.bucketed_model.specs.State.{BucketedState}
use Rattle.bucketed_model.specs.Svg.{drawn_buckets}
use Rattle.etagere_bucketed.proofs.atlas.BucketedAtlasAllocatorPictured.push_shown.Goals as goal

-- the lines are gathered
pub returns-clause-ok : goal.returns-clause-ok
returns-clause-ok g c =
    subst (λ (s : BucketedState). OnOk c.push_store.result (GathersMore (g.W.Write.contents c.args.writer.now) c.args.text.now (g.W.Write.contents c.push_store.new.writer) c.push_store.new.text (drawn_lines (drawn_buckets s))))
    c.self.view_is c.push_store.ensures.ok

-- a beginning went out of the lines
pub returns-clause-err : goal.returns-clause-err
returns-clause-err g c =
    subst (λ (s : BucketedState). OnErr c.push_store.result (SendsBeginning (g.W.Write.contents c.args.writer.now) c.args.text.now (g.W.Write.contents c.push_store.new.writer) (drawn_lines (drawn_buckets s))))
    c.self.view_is c.push_store.ensures.err
