use Rattle.std.proofs.Common.{◌≡◌, ◌<◌, ◌∙◌, Some, ap, add-one, arith, length}
use Rattle.shelf_records.specs.declared.records.LinkedItem.{LinkedItem}
use Rattle.shelf_records.specs.declared.records.LinkedShelf.{LinkedShelf}
use Rattle.etagere_links.specs.Edits.{changed_at}
use Rattle.shelf_records.specs.RecordLists.{Records}
use Rattle.etagere_links.proofs.RecordChanges.{length-changed_by}
use Rattle.shelf_store.specs.Private.FreshRecords.{fresh_item, fresh_shelf}
use Rattle.shelf_store.proofs.Spelled.NumberedLists.{numbered-written}
use Rattle.shelf_store.proofs.starting.reset_records.Goals as goal

pub loop-column-preserved : goal.loop-column-preserved
loop-column-preserved c =
    let frame = c.args.frame.now in
    let column = c.loop-column.column in
    let old = c.loop-column.records in
    let shelf = c.fresh_shelf.result in
    let item = c.fresh_item.result in
    let shelves : c.write_item.new.self.shelves ≡ changed_at column (λ (_ : LinkedShelf). shelf) old.shelves =
    ap (λ (r : Records). r.shelves) c.write_item.ensures ∙ ap (λ (r : Records). r.shelves) c.write_shelf.ensures in
    let items : c.write_item.new.self.items ≡ changed_at column (λ (_ : LinkedItem). item) old.items =
    ap (λ (r : Records). r.items) c.write_item.ensures ∙ ap (λ (r : Records). changed_at column (λ (_ : LinkedItem). item) r.items) c.write_shelf.ensures in
    let below_shelves : column < length old.shelves = omega (arith, c.loop-column.invariant.shelf_count, c.loop-column-test.true) in
    let below_items : column < length old.items = omega (arith, c.loop-column.invariant.item_count, c.loop-column-test.true) in
    record {
      shelves = rw (shelves, add-one) (numbered-written (fresh_shelf frame) column frame.columns old.shelves shelf c.loop-column-test.true below_shelves c.fresh_shelf.ensures ∙ c.loop-column.invariant.shelves);
      items = rw (items, add-one) (numbered-written (fresh_item frame) column frame.columns old.items item c.loop-column-test.true below_items c.fresh_item.ensures ∙ c.loop-column.invariant.items);
      shelf_count = ap (λ xs. length xs) shelves ∙ length-changed_by (λ (_ : LinkedShelf). shelf) old.shelves (Some column) ∙ c.loop-column.invariant.shelf_count;
      item_count = ap (λ xs. length xs) items ∙ length-changed_by (λ (_ : LinkedItem). item) old.items (Some column) ∙ c.loop-column.invariant.item_count;
    }
