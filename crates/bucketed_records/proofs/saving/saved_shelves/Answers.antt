use Rattle.std.proofs.Common.{◌∙◌, ap, arith, map, sym}
use Rattle.std.proofs.lemmas.List.{length-map, take_all}
use Rattle.std.proofs.Math.ListN.{get_or-map}
use Rattle.bucketed_records.specs.Private.Store.{shelf_record}
use Rattle.bucketed_records.specs.Restoring.{linked_shelf}
use Rattle.bucketed_records.proofs.Saved.{saved-next}
use Rattle.bucketed_records.proofs.saving.saved_shelves.Goals as goal

pub loop-kept-init : goal.loop-kept-init
loop-kept-init c = ap (map linked_shelf) c.in_ok-saved.ensures.items

pub loop-kept-preserved : goal.loop-kept-preserved
loop-kept-preserved c =
    let shelves = c.args.shelves.now in
    let i = c.loop-kept.kept-index in
    let kept = c.kept-item.result in
    ap (map linked_shelf) c.in_ok-push.ensures.items
    ∙ saved-next linked_shelf c.loop-kept.saved.items (map shelf_record shelves) i c.saved_shelf.result (shelf_record kept)
    (omega (arith, c.loop-kept-test.true, length-map shelves shelf_record)) (ap shelf_record c.kept-item.is ∙ sym (get_or-map shelf_record shelves i kept)) c.saved_shelf.ensures c.loop-kept.invariant

pub returns : goal.returns
returns c =
    let shelves = map shelf_record c.args.shelves.now in
    c.loop-kept.invariant ∙ take_all c.loop-kept.kept-index shelves (omega (arith, c.loop-kept-test.false, length-map c.args.shelves.now shelf_record))
