use Rattle.shelf_heights.proofs.ByHeight.Edited.{by_height-in_order}
use Rattle.shelf_store.specs.Private.Settling.{Follows}
use Rattle.shelf_records.specs.declared.records.LinkedShelf.{LinkedShelf}
use Rattle.std.proofs.Common.{List, subst}
use Rattle.shelf_records.proofs.Spelled.StandsKept.{witnesses}
use Rattle.shelf_store.proofs.ByHeight.SettledShelves.{follows-settled}
use Rattle.shelf_store.proofs.settling.noting.settle_notes.Goals as goal

pub follow-requires-clause-order : goal.follow-requires-clause-order
follow-requires-clause-order c =
    rw c.shelves.ensures (by_height-in_order c.requires.list.frame c.args.records.now c.args.by_height.now.items c.requires.list.kept c.requires.list.by_height)

pub follow-requires-clause-few : goal.follow-requires-clause-few
follow-requires-clause-few c = rw c.shelves.ensures ((witnesses c.requires.list.kept).counts.shelves.1)

pub returns-clause-settled : goal.returns-clause-settled
returns-clause-settled c =
    follows-settled c.requires.list.frame c.args.records.now c.follow.new.pending.notes c.args.by_height.now.items c.requires.list.kept c.requires.list.by_height
    (subst (λ (shelves : List LinkedShelf). Follows shelves c.args.by_height.now.items c.follow.new.pending.notes) c.shelves.ensures c.follow.ensures.notes)
