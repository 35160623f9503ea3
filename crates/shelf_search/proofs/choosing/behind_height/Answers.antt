use Rattle.std.proofs.Common.{arith, ap, length, ◌+◌, ◌<◌, ◌≡◌, ◌∙◌}
use Rattle.shelf_records.specs.AtlasRecords.{height_of}
use Rattle.shelf_heights.specs.Private.ByHeight.{bounded_at}
use Rattle.shelf_search.proofs.ByHeight.EarliestShelves.{height-behind}
use Rattle.shelf_heights.proofs.ByHeight.Positions.{read-number}
use Rattle.shelf_search.proofs.choosing.behind_height.Goals as goal

pub own_height-height-requires : goal.own_height-height-requires
own_height-height-requires c =
    rw c.shelf.ensures (read-number (λ shelf. shelf < length c.args.shelves.now) c.args.index c.args.by_height.now.items (record { widest = 0; shelf = 0 }) c.requires.index c.requires.order.within)

pub own_height-requires : goal.own_height-requires
own_height-requires c =
    rw c.shelf-else-next-len.ensures (read-number (λ shelf. shelf < length c.args.shelves.now) (c.args.index + 1) c.args.by_height.now.items (record { widest = 0; shelf = 0 }) (omega (arith, c.requires.index, c.if-next-len.false, c.len.ensures)) c.requires.order.within)

pub returns-clause-behind : goal.returns-clause-behind
returns-clause-behind c =
    let height : c.own_height-height.result ≡ height_of c.args.shelves.now (bounded_at c.args.by_height.now.items c.args.index).shelf = c.own_height-height.ensures.value ∙ ap (height_of c.args.shelves.now) c.shelf.ensures in
    height-behind c.args.shelves.now c.args.by_height.now.items c.args.index c.first_as_tall.result c.requires.order c.requires.in_chain c.requires.index c.first_as_tall.ensures.within
    (rw height at c.first_as_tall.ensures.before) (rw height at c.first_as_tall.ensures.after)
