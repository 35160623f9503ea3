use Rattle.std.proofs.Common.{refl}
use Rattle.shelf_store.proofs.ByHeight.NewByHeight.{numbered-by_height}
use Rattle.shelf_store.proofs.starting.reset_by_height.Goals as goal

pub returns-clause-by_height : goal.returns-clause-by_height
returns-clause-by_height c =
    numbered-by_height c.args.frame.now c.renumber.new.self.items c.args.frame.now.column_width c.requires.frame c.requires.columns refl c.renumber.ensures.len c.renumber.ensures.items
