use Rattle.std.proofs.Common.{arith, length, ◌<◌}
use Rattle.shelf_heights.proofs.ByHeight.Positions.{read-number}
use Rattle.shelf_search.proofs.choosing.are_of_many_heights.Goals as goal

pub own_height-own-requires : goal.own_height-own-requires
own_height-own-requires c =
    rw c.shelf.ensures
    (read-number (λ shelf. shelf < length c.args.shelves.now) c.loop-index.index c.args.by_height.now.items (record { widest = 0; shelf = 0 })
    (omega (arith, c.loop-index-test.true, c.len-in-loop-index.ensures))
    c.requires.order.within)
