use Rattle.std.proofs.Common.{length, ap, arith, refl, ◌∙◌}
use Rattle.etagere_links.specs.Edits.{link_at}
use Rattle.shelf_records.specs.RecordLists.{first_free_of, free_walk}
use Rattle.shelf_records.specs.Records.{free_list}
use Rattle.shelf_records.specs.AtlasRecords.{width_of}
use Rattle.shelf_search.specs.Private.Asking.{free_items_at}
use Rattle.shelf_search.specs.declared.free_items.FreeItems.{FreeItems}
use Rattle.shelf_records.proofs.AllLists.LinkedParts.{free-left}
use Rattle.shelf_search.proofs.Searched.OneMore.{free-more}
use Rattle.shelf_search.proofs.Searched.PassedWalks.{walk-goes, walk-meets, walk-spent, walk-starts, walk-stops}
use Rattle.shelf_search.proofs.free_items.free_items_of.Goals as goal

pub loop-step-init : goal.loop-step-init
loop-step-init c =
    let records = c.args.records.now in
    walk-starts free_list.next records.items (free_walk records c.args.shelf).met (free_items_at records.items) (first_free_of records.shelves c.args.shelf) c.number-at.result _
    (free-left records c.args.shelf c.requires.linked c.requires.stands)
    (c.number-at.ensures.value ∙ c.first_free_link.ensures ∙ ap (λ shelves. first_free_of shelves c.args.shelf) c.shelves.ensures) refl

pub returns-in_default : goal.returns-in_default
returns-in_default c =
    let records = c.args.records.now in
    walk-stops free_list.next records.items (free_walk records c.args.shelf).met (free_items_at records.items) _ c.loop-step.at c.loop-step._step c.loop-step.invariant c.in_default.is

pub overflow_add-count : goal.overflow_add-count
overflow_add-count c =
    let records = c.args.records.now in
    let meets = walk-meets free_list.next records.items (free_walk records c.args.shelf).met (free_items_at records.items) _ c.loop-step.at c.in-Some.number c.loop-step._step c.loop-step.invariant c.in-Some.is in
    omega (arith, ap (λ (f : FreeItems). f.count) meets.holds, meets.count, c.loop-step-test.true, ap length c.items-items.ensures, c.requires.few)

pub loop-step-preserved : goal.loop-step-preserved
loop-step-preserved c =
    let records = c.args.records.now in
    walk-goes free_list.next records.items (free_walk records c.args.shelf).met (free_items_at records.items) _ _ c.loop-step.at c.number-at-in-loop-step.result c.in-Some.number c.loop-step._step c.loop-step.invariant c.in-Some.is
    (c.number-at-in-loop-step.ensures.value ∙ c.next_of.ensures ∙ ap (λ items. link_at free_list.next items c.in-Some.number) c.items-items.ensures)
    (λ passed holds.
    free-more records.items passed c.in-Some.number _ _
    (omega (arith, ap (λ (f : FreeItems). f.count) holds))
    (omega (arith, ap (λ (f : FreeItems). f.widest) holds, c.max-widest.ensures, c.width.ensures, ap (λ items. width_of items c.in-Some.number) c.items-items.ensures)))

pub returns : goal.returns
returns c =
    let records = c.args.records.now in
    walk-spent free_list.next records.items (free_walk records c.args.shelf).met (free_items_at records.items) _ c.loop-step.at c.loop-step._step c.loop-step.invariant
    (omega (arith, ap length c.items-items.ensures))
