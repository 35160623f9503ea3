use Rattle.shelf_heights.proofs.ByHeight.Edited.{by_height-in_order}
use Rattle.shelf_store.proofs.ByHeight.Followed.{follows-all}
use Rattle.shelf_store.proofs.ByHeight.SettledShelves.{follows-settled}
use Rattle.shelf_store.proofs.settling.noting.settle_all_notes.Goals as goal

pub returns-clause-settled : goal.returns-clause-settled
returns-clause-settled c by_height list all =
    follows-settled list.frame c.args.records.now c.restart.new.self.notes by_height list.kept list.by_height
    (follows-all c.args.records.now.shelves by_height c.restart.new.self.notes
    (by_height-in_order list.frame c.args.records.now by_height list.kept list.by_height) all
    (rw (← c.shelves.ensures) c.restart.ensures.notes))
