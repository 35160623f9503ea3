use Rattle.std.proofs.Common.{ap, arith, length, subst, ◌∙◌}
use Rattle.etagere_base.specs.Drawing.{drawn_line}
use Rattle.pictures.specs.Gathering.{GathersMore, SendsBeginning}
use Rattle.etagere_base.specs.declared.drawing.Drawn.{Drawn}
use Rattle.pictures.proofs.GatheringLemmas.{on-err}
use Rattle.etagere_links.specs.Edits.{link_at}
use Rattle.shelf_records.specs.RecordLists.{first_item_of, item_walk}
use Rattle.shelf_records.specs.Records.{item_chain}
use Rattle.shelf_search.specs.Private.DrawnRecords.{item_line}
use Rattle.shelf_search.proofs.Recorded.DrawnWalks.{walk-begins, walk-begun, walk-ends, walk-out, walk-passed}
use Rattle.shelf_records.proofs.AllLists.LinkedParts.{items-left}
use Rattle.shelf_search.proofs.drawing.push_items.Goals as goal

-- the walk begins with all
pub loop-step-init : goal.loop-step-init
loop-step-init g c =
    walk-begins item_chain.next c.args.records.now.items (item_line c.args.frame.now c.args.records.now c.args.shelf) (item_walk c.args.records.now c.args.shelf).met (g.W.Write.contents c.args.writer.now) c.args.text.now
    (first_item_of c.args.records.now.shelves c.args.shelf) c.first_item-at.result
    (items-left c.args.records.now c.args.shelf c.requires.linked c.requires.stands)
    (c.first_item-at.ensures.value ∙ ap (λ shelves. first_item_of shelves c.args.shelf) c.shelves.ensures)

-- at the end all are drawn
pub returns-in_default-clause-ok : goal.returns-in_default-clause-ok
returns-in_default-clause-ok g c =
    walk-ends item_chain.next c.args.records.now.items (item_line c.args.frame.now c.args.records.now c.args.shelf) (item_walk c.args.records.now c.args.shelf).met (g.W.Write.contents c.args.writer.now) c.args.text.now
    (g.W.Write.contents c.loop-step.writer) c.loop-step.text c.loop-step.at c.loop-step._step c.loop-step.invariant c.in_default.is

-- a beginning went out of what was to be drawn
pub returns-in_err-push_drawn-clause-err : goal.returns-in_err-push_drawn-clause-err
returns-in_err-push_drawn-clause-err g c =
    on-err c.from_residual.result
    (walk-begun item_chain.next c.args.records.now.items (item_line c.args.frame.now c.args.records.now c.args.shelf) (item_walk c.args.records.now c.args.shelf).met (g.W.Write.contents c.args.writer.now) c.args.text.now
    (g.W.Write.contents c.loop-step.writer) (g.W.Write.contents c.push_drawn.new.writer) c.loop-step.text c.loop-step.at c.in-Some.number c.loop-step._step c.loop-step.invariant c.in-Some.is
    (subst (λ (d : Drawn). SendsBeginning (g.W.Write.contents c.loop-step.writer) c.loop-step.text (g.W.Write.contents c.push_drawn.new.writer) (drawn_line d)) c.drawn_item.ensures c.in_err-push_drawn.ensures.err))

-- one more was drawn
pub loop-step-preserved : goal.loop-step-preserved
loop-step-preserved g c =
    walk-passed item_chain.next c.args.records.now.items (item_line c.args.frame.now c.args.records.now c.args.shelf) (item_walk c.args.records.now c.args.shelf).met (g.W.Write.contents c.args.writer.now) c.args.text.now
    (g.W.Write.contents c.loop-step.writer) (g.W.Write.contents c.push_drawn.new.writer) c.loop-step.text c.push_drawn.new.text c.loop-step.at c.number-at.result c.in-Some.number c.loop-step._step c.loop-step.invariant c.in-Some.is
    (subst (λ (d : Drawn). GathersMore (g.W.Write.contents c.loop-step.writer) c.loop-step.text (g.W.Write.contents c.push_drawn.new.writer) c.push_drawn.new.text (drawn_line d)) c.drawn_item.ensures c.in_ok-push_drawn.ensures.ok)
    (c.number-at.ensures.value ∙ c.next_of.ensures ∙ ap (λ items. link_at item_chain.next items c.in-Some.number) c.items.ensures)

-- after as many steps as there are records all are drawn
pub returns-clause-ok : goal.returns-clause-ok
returns-clause-ok g c =
    walk-out item_chain.next c.args.records.now.items (item_line c.args.frame.now c.args.records.now c.args.shelf) (item_walk c.args.records.now c.args.shelf).met (g.W.Write.contents c.args.writer.now) c.args.text.now
    (g.W.Write.contents c.loop-step.writer) c.loop-step.text c.loop-step.at c.loop-step._step c.loop-step.invariant
    (omega (arith, ap length c.items-step-end.ensures))
