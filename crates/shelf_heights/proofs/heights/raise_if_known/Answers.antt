use Rattle.shelf_heights.specs.Private.ByHeight.{bounded_at}
use Rattle.shelf_heights.proofs.ByHeight.Edited.{in_order-once}
use Rattle.shelf_heights.proofs.heights.raise_if_known.Goals as goal

pub raise_at-requires-clause-once : goal.raise_at-requires-clause-once
raise_at-requires-clause-once c = in_order-once c.args.shelves.now c.args.by_height.now.items (bounded_at c.args.by_height.now.items c.in-Some.index).shelf c.requires.order
