use Rattle.shelf_store.proofs.ByHeight.ParkedShelves.{settled-none}
use Rattle.shelf_store.proofs.ByHeight.SplitByHeight.{settled-holds}
use Rattle.shelf_store.proofs.settling.settle_noted.Goals as goal

pub take_out_moved-requires : goal.take_out_moved-requires
take_out_moved-requires c = record { list = record { frame = c.args.frame.now; kept = c.requires.kept; by_height = c.requires.by_height } }

pub returns-then-are_many-clause-by_height : goal.returns-then-are_many-clause-by_height
returns-then-are_many-clause-by_height c =
    settled-holds c.args.frame.now c.args.records.now c.list_all.new.pending.notes c.list_all.new.by_height.items c.requires.kept c.list_all.ensures.by_height c.list_all.ensures.settled

pub returns-then-are_many-clause-none_waits : goal.returns-then-are_many-clause-none_waits
returns-then-are_many-clause-none_waits c = settled-none c.args.records.now c.list_all.new.pending.notes c.list_all.ensures.settled
