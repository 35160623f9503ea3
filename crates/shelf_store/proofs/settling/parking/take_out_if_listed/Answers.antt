use Rattle.shelf_store.proofs.ByHeight.SettledShelves.{gone-holds}
use Rattle.shelf_store.proofs.settling.parking.take_out_if_listed.Goals as goal

pub returns-then-lists-clause-by_height : goal.returns-then-lists-clause-by_height
returns-then-lists-clause-by_height c frame kept holds =
    rw (c.unlist.ensures.notes, c.take_out.ensures.by_height)
    (gone-holds frame c.args.records.now c.args.pending.now.notes c.args.by_height.now.items kept holds c.args.shelf c.requires.known c.requires.noted)
