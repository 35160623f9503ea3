use Rattle.std.proofs.Common.{length, ap, arith, refl, ◌∙◌}
use Rattle.etagere_links.specs.Edits.{link_at}
use Rattle.shelf_records.specs.RecordLists.{shelf_walk}
use Rattle.shelf_records.specs.Records.{shelf_chain}
use Rattle.shelf_model.specs.Widest.{greatest}
use Rattle.shelf_search.specs.Private.Asking.{widest_at}
use Rattle.shelf_records.proofs.AllLists.LinkedParts.{shelves-left}
use Rattle.shelf_search.proofs.Searched.OneMore.{greatest-more}
use Rattle.shelf_search.proofs.Searched.PassedWalks.{walk-goes, walk-meets, walk-spent, walk-starts, walk-stops}
use Rattle.shelf_search.proofs.asking.widest_free.Goals as goal

pub loop-step-init : goal.loop-step-init
loop-step-init c =
    let records = c.args.records.now in
    walk-starts shelf_chain.next records.shelves (shelf_walk records).met (greatest (widest_at records c.args.height)) records.first_shelf c.number-at.result 0
    (shelves-left records c.requires.linked) (c.number-at.ensures.value ∙ c.first_shelf.ensures) refl

pub returns-in_default : goal.returns-in_default
returns-in_default c =
    let records = c.args.records.now in
    walk-stops shelf_chain.next records.shelves (shelf_walk records).met (greatest (widest_at records c.args.height)) c.loop-step.widest c.loop-step.at c.loop-step._step c.loop-step.invariant c.in_default.is

pub widest_at-requires-clause-stands : goal.widest_at-requires-clause-stands
widest_at-requires-clause-stands c =
    let records = c.args.records.now in
    (walk-meets shelf_chain.next records.shelves (shelf_walk records).met (greatest (widest_at records c.args.height)) c.loop-step.widest c.loop-step.at c.in-Some.shelf c.loop-step._step c.loop-step.invariant c.in-Some.is).stands

pub loop-step-preserved : goal.loop-step-preserved
loop-step-preserved c =
    let records = c.args.records.now in
    walk-goes shelf_chain.next records.shelves (shelf_walk records).met (greatest (widest_at records c.args.height)) c.loop-step.widest _ c.loop-step.at c.number-at-in-loop-step.result c.in-Some.shelf c.loop-step._step c.loop-step.invariant c.in-Some.is
    (c.number-at-in-loop-step.ensures.value ∙ c.next_of.ensures ∙ ap (λ shelves. link_at shelf_chain.next shelves c.in-Some.shelf) c.shelves.ensures)
    (λ passed holds.
    omega (arith, holds, c.max-widest.ensures, c.widest_at.ensures, greatest-more (widest_at records c.args.height) passed c.in-Some.shelf))

pub returns : goal.returns
returns c =
    let records = c.args.records.now in
    walk-spent shelf_chain.next records.shelves (shelf_walk records).met (greatest (widest_at records c.args.height)) c.loop-step.widest c.loop-step.at c.loop-step._step c.loop-step.invariant
    (omega (arith, ap length c.shelves-step-end.ensures))
