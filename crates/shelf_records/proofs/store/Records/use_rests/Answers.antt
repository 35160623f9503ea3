use Rattle.std.proofs.Common.{ap, arith, length}
use Rattle.std.specs.Prelude.{vec_capacity}
use Rattle.shelf_records.specs.RecordUses.{items_used, unused_after, rests_used}
use Rattle.shelf_records.specs.RecordLists.{Records}
use Rattle.shelf_records.specs.Records.{item_chain}
use Rattle.shelf_records.proofs.UsedRecords.{used-length, used-room}
use Rattle.shelf_records.proofs.store.Records.use_rests.Goals as goal

pub use_item-shelf_item-requires-clause-few : goal.use_item-shelf_item-requires-clause-few
use_item-shelf_item-requires-clause-few c =
    let unused = c.self.inside.unused_items in
    let items = c.self.inside.item_records.items in
    let first = items_used c.args.of_shelf unused items in
    rw c.in_ok-reserve_items.ensures.same
    (omega (arith, c.requires.items, ap (λ (r : Records). length (rests_used c.args.of_shelf c.args.of_item r).items) c.self.view_is, used-length c.args.of_item (unused_after item_chain c.args.of_shelf unused items) first))

pub use_item-item-requires-clause-room : goal.use_item-item-requires-clause-room
use_item-item-requires-clause-room c =
    let unused = c.self.inside.unused_items in
    let items = c.self.inside.item_records.items in
    let same = c.in_ok-reserve_items.ensures.same in
    rw (c.use_item-shelf_item.ensures.items, c.use_item-shelf_item.ensures.unused, c.use_item-shelf_item.ensures.capacity, same)
    (used-room c.args.of_shelf c.args.of_item unused items (vec_capacity c.reserve_items.new.items) c.in_ok-reserve_items.ensures.room)
