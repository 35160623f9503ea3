use Rattle.std.proofs.Common.{arith}
use Rattle.shelf_records.specs.Records.{item_chain, shelf_chain}
use Rattle.shelf_records.proofs.MissingRecords.{missing-le}
use Rattle.shelf_store.proofs.growing.make_missing.Goals as goal

pub returns-in_err-make_records-clause-some : goal.returns-in_err-make_records-clause-some
returns-in_err-make_records-clause-some c =
    let some = c.in_err-make_records.ensures.some in
    let items = missing-le item_chain c.args.needed.items c.args.records.now.unused_items c.args.records.now.items in
    let shelves = missing-le shelf_chain c.args.needed.shelves c.args.records.now.unused_shelves c.args.records.now.shelves in
    search (arith, some, items, shelves, c.missing_items-items.ensures, c.missing_shelves-shelves.ensures)
