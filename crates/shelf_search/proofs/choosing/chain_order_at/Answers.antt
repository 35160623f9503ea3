use Rattle.std.proofs.Common.{length, ◌<◌}
use Rattle.shelf_heights.proofs.ByHeight.Positions.{read-number}
use Rattle.shelf_search.proofs.choosing.chain_order_at.Goals as goal

pub chain_order_of-requires : goal.chain_order_of-requires
chain_order_of-requires c =
    rw c.shelf.ensures (read-number (λ shelf. shelf < length c.args.shelves.now) c.args.index c.args.by_height.now.items (record { widest = 0; shelf = 0 }) c.requires.index c.requires.order.within)
