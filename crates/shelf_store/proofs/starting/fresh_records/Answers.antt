use Rattle.std.proofs.Common.{◌∷◌, [], ◌∙◌, ap, add-one, arith, length}
use Rattle.std.proofs.lemmas.List.{length-append}
use Rattle.shelf_store.specs.Private.FreshRecords.{fresh_item, fresh_shelf}
use Rattle.shelf_store.proofs.Spelled.NumberedLists.{numbered-more}
use Rattle.shelf_store.proofs.starting.fresh_records.Goals as goal

pub loop-column-preserved : goal.loop-column-preserved
loop-column-preserved c =
    let frame = c.args.frame.now in
    let column = c.loop-column.column in
    let shelves = c.loop-column.shelves.items in
    let items = c.loop-column.items.items in
    record {
      shelves = rw (c.push_reserved.ensures.items, add-one) (numbered-more (fresh_shelf frame) column frame.columns shelves c.fresh_shelf.result c.loop-column-test.true c.fresh_shelf.ensures ∙ c.loop-column.invariant.shelves);
      items = rw (c.push_reserved-in-loop-column.ensures.items, add-one) (numbered-more (fresh_item frame) column frame.columns items c.fresh_item.result c.loop-column-test.true c.fresh_item.ensures ∙ c.loop-column.invariant.items);
      shelf_count = omega (arith, ap length c.push_reserved.ensures.items, length-append shelves (c.fresh_shelf.result ∷ []), c.loop-column.invariant.shelf_count);
      item_count = omega (arith, ap length c.push_reserved-in-loop-column.ensures.items, length-append items (c.fresh_item.result ∷ []), c.loop-column.invariant.item_count);
      shelf_room = omega (arith, c.push_reserved.ensures.capacity, c.loop-column.invariant.shelf_room);
      item_room = omega (arith, c.push_reserved-in-loop-column.ensures.capacity, c.loop-column.invariant.item_room);
    }
