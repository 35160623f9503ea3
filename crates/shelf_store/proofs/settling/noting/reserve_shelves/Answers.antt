use Rattle.std.proofs.Common.{rules}
use Rattle.shelf_records.specs.Records.{shelf_chain}
use Rattle.shelf_records.proofs.MissingRecords.{missing-le}
use Rattle.shelf_store.proofs.settling.noting.reserve_shelves.Goals as goal

pub overflow_add-room : goal.overflow_add-room
overflow_add-room c =
    let records = c.args.records.now in
    let few = missing-le shelf_chain c.args.wanted records.unused_shelves records.shelves in
    search (rules, few)

pub overflow_add-room-2 : goal.overflow_add-room-2
overflow_add-room-2 c =
    let records = c.args.records.now in
    let few = missing-le shelf_chain c.args.wanted records.unused_shelves records.shelves in
    search (rules, few)
