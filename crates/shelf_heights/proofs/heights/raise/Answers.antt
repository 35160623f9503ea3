use Rattle.std.proofs.Common.{refl}
use Rattle.shelf_heights.proofs.ByHeight.Edited.{in_order-once}
use Rattle.shelf_heights.proofs.heights.raise.Goals as goal

pub raise_at-requires-clause-once : goal.raise_at-requires-clause-once
raise_at-requires-clause-once c =
    rw (c.position_of-index.ensures.same, c.position_of-index.ensures.shelf) (in_order-once c.args.shelves.now c.args.by_height.now.items c.args.shelf c.requires.order)

pub returns-clause-by_height : goal.returns-clause-by_height
returns-clause-by_height c =
    rw (c.raise_at.ensures.by_height, c.position_of-index.ensures.same, c.position_of-index.ensures.shelf) refl
