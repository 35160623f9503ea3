use Rattle.std.proofs.Common.{ap, arith, length, subst, ◌∙◌}
use Rattle.pictures.proofs.GatheringLemmas.{on-err}
use Rattle.pictures.specs.Gathering.{GathersMore, SendsBeginning}
use Rattle.etagere_links.specs.Edits.{link_at}
use Rattle.shelf_records.specs.RecordLists.{shelf_walk}
use Rattle.shelf_records.specs.Records.{shelf_chain}
use Rattle.shelf_search.specs.Private.DrawnRecords.{shelf_lines}
use Rattle.shelf_search.proofs.Recorded.DrawnLines.{kept-lines}
use Rattle.shelf_search.proofs.Recorded.DrawnWalks.{walk-begins, walk-begun, walk-ends, walk-here, walk-out, walk-passed}
use Rattle.shelf_records.proofs.Spelled.StandsKept.{witnesses}
use Rattle.shelf_records.proofs.AllLists.LinkedParts.{shelves-left}
use Rattle.shelf_search.proofs.drawing.push_shelves.Goals as goal

-- the walk begins with all
pub loop-step-init : goal.loop-step-init
loop-step-init g c =
    walk-begins shelf_chain.next c.args.records.now.shelves (shelf_lines c.args.frame.now c.args.records.now) (shelf_walk c.args.records.now).met (g.W.Write.contents c.args.writer.now) c.args.text.now
    (c.args.records.now.first_shelf) c.number-at.result
    (shelves-left c.args.records.now (witnesses c.requires).linked)
    (c.number-at.ensures.value ∙ c.first_shelf.ensures)

-- at the end all are drawn
pub returns-in_default-clause-ok : goal.returns-in_default-clause-ok
returns-in_default-clause-ok g c =
    subst (GathersMore (g.W.Write.contents c.args.writer.now) c.args.text.now (g.W.Write.contents c.loop-step.writer) c.loop-step.text) (kept-lines c.args.frame.now c.args.records.now c.requires)
    (walk-ends shelf_chain.next c.args.records.now.shelves (shelf_lines c.args.frame.now c.args.records.now) (shelf_walk c.args.records.now).met (g.W.Write.contents c.args.writer.now) c.args.text.now
    (g.W.Write.contents c.loop-step.writer) c.loop-step.text c.loop-step.at c.loop-step._step c.loop-step.invariant c.in_default.is)

-- the shelf at hand is in use
pub push_items-requires-clause-stands : goal.push_items-requires-clause-stands
push_items-requires-clause-stands g c =
    walk-here shelf_chain.next c.args.records.now.shelves (shelf_lines c.args.frame.now c.args.records.now) (shelf_walk c.args.records.now).met (g.W.Write.contents c.args.writer.now) c.args.text.now
    (g.W.Write.contents c.loop-step.writer) c.loop-step.text c.loop-step.at c.in-Some.shelf c.loop-step._step c.loop-step.invariant c.in-Some.is

-- a beginning went out of what was to be drawn
pub returns-in_err-push_items-clause-err : goal.returns-in_err-push_items-clause-err
returns-in_err-push_items-clause-err g c =
    on-err c.from_residual.result
    (subst (SendsBeginning (g.W.Write.contents c.args.writer.now) c.args.text.now (g.W.Write.contents c.push_items.new.writer)) (kept-lines c.args.frame.now c.args.records.now c.requires)
    (walk-begun shelf_chain.next c.args.records.now.shelves (shelf_lines c.args.frame.now c.args.records.now) (shelf_walk c.args.records.now).met (g.W.Write.contents c.args.writer.now) c.args.text.now
    (g.W.Write.contents c.loop-step.writer) (g.W.Write.contents c.push_items.new.writer) c.loop-step.text c.loop-step.at c.in-Some.shelf c.loop-step._step c.loop-step.invariant c.in-Some.is
    c.in_err-push_items.ensures.err))

-- one more was drawn
pub loop-step-preserved : goal.loop-step-preserved
loop-step-preserved g c =
    walk-passed shelf_chain.next c.args.records.now.shelves (shelf_lines c.args.frame.now c.args.records.now) (shelf_walk c.args.records.now).met (g.W.Write.contents c.args.writer.now) c.args.text.now
    (g.W.Write.contents c.loop-step.writer) (g.W.Write.contents c.push_items.new.writer) c.loop-step.text c.push_items.new.text c.loop-step.at c.number-at-in-loop-step.result c.in-Some.shelf c.loop-step._step c.loop-step.invariant c.in-Some.is
    c.in_ok-push_items.ensures.ok
    (c.number-at-in-loop-step.ensures.value ∙ c.next_of.ensures ∙ ap (λ shelves. link_at shelf_chain.next shelves c.in-Some.shelf) c.shelves.ensures)

-- after as many steps as there are records all are drawn
pub returns-clause-ok : goal.returns-clause-ok
returns-clause-ok g c =
    subst (GathersMore (g.W.Write.contents c.args.writer.now) c.args.text.now (g.W.Write.contents c.loop-step.writer) c.loop-step.text) (kept-lines c.args.frame.now c.args.records.now c.requires)
    (walk-out shelf_chain.next c.args.records.now.shelves (shelf_lines c.args.frame.now c.args.records.now) (shelf_walk c.args.records.now).met (g.W.Write.contents c.args.writer.now) c.args.text.now
    (g.W.Write.contents c.loop-step.writer) c.loop-step.text c.loop-step.at c.loop-step._step c.loop-step.invariant
    (omega (arith, ap length c.shelves-step-end.ensures)))

pub push_items-requires-clause-linked : goal.push_items-requires-clause-linked
push_items-requires-clause-linked g c = (witnesses c.requires).linked
