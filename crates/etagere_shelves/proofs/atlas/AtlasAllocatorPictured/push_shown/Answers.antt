-- What an atlas draws: the lines of all that lies in it.
use Rattle.std.proofs.Common.{OnErr, OnOk, subst}
use Rattle.etagere_base.specs.Drawing.{drawn_lines}
use Rattle.pictures.specs.Gathering.{GathersMore, SendsBeginning}
use Rattle.shelf_model.specs.State.{AtlasState}
use Rattle.shelf_model.specs.Svg.{drawn_items}
use Rattle.etagere_shelves.proofs.atlas.AtlasAllocatorPictured.push_shown.Goals as goal

-- the lines are gathered
pub returns-clause-ok : goal.returns-clause-ok
returns-clause-ok g c =
    subst (λ (s : AtlasState). OnOk c.push_shelves.result (GathersMore (g.W.Write.contents c.args.writer.now) c.args.text.now (g.W.Write.contents c.push_shelves.new.writer) c.push_shelves.new.text (drawn_lines (drawn_items s))))
    c.self.view_is c.push_shelves.ensures.ok

-- a beginning went out of the lines
pub returns-clause-err : goal.returns-clause-err
returns-clause-err g c =
    subst (λ (s : AtlasState). OnErr c.push_shelves.result (SendsBeginning (g.W.Write.contents c.args.writer.now) c.args.text.now (g.W.Write.contents c.push_shelves.new.writer) (drawn_lines (drawn_items s))))
    c.self.view_is c.push_shelves.ensures.err
