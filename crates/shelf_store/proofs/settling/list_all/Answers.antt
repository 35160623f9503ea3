use Rattle.std.proofs.Common.{ap, arith, length}
use Rattle.shelf_records.proofs.AllLists.LinkedWalks.{walked-numbers}
use Rattle.shelf_records.specs.RecordLists.{shelf_walk}
use Rattle.shelf_store.proofs.ByHeight.RoomByHeight.{shelves-count}
use Rattle.shelf_store.proofs.settling.list_all.Goals as goal

pub sort_shelves-requires-clause-room : goal.sort_shelves-requires-clause-room
sort_shelves-requires-clause-room c =
    omega (
      arith,
      shelves-count c.args.frame.now c.args.records.now c.requires.kept,
      ap length (walked-numbers c.args.records.now (shelf_walk c.args.records.now).met),
      c.requires.room,
    )

pub settle_notes-requires-clause-list : goal.settle_notes-requires-clause-list
settle_notes-requires-clause-list c = record { frame = c.args.frame.now; kept = c.requires.kept; by_height = rw c.keep_positions.ensures c.sort_shelves.ensures.by_height }

pub returns-clause-by_height : goal.returns-clause-by_height
returns-clause-by_height c = rw c.keep_positions.ensures c.sort_shelves.ensures.by_height
