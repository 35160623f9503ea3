use Rattle.std.proofs.Common.{ap, get_or, set, ◌≡◌, ◌∙◌}
use Rattle.shelf_heights.specs.Private.ByHeight.{bound_of}
use Rattle.shelf_heights.specs.Private.ListFields.{ListByHeight}
use Rattle.shelf_heights.specs.declared.by_height.BoundedShelf.{BoundedShelf}
use Rattle.shelf_heights.proofs.ByHeight.Edited.{bounded_as, in_order-once}
use Rattle.shelf_heights.proofs.ByHeight.Positions.{StandsAt, stands-there}
use Rattle.shelf_heights.proofs.heights.rebound.Goals as goal
use Rattle.shelf_heights.proofs.heights.rebound.Goals.{After-get-one}

-- the shelf stands where it was found
found : (c : After-get-one) → StandsAt c.args.shelf c.position_of-position.result c.args.by_height.now.items
found c =
    stands-there c.args.shelf c.position_of-position.result c.args.by_height.now.items (in_order-once c.args.shelves.now c.args.by_height.now.items c.args.shelf c.requires.order)
    c.position_of-position.ensures.within c.position_of-position.ensures.shelf

-- it was read
read : (c : After-get-one) → c.get-one.result ≡ bounded_as c.args.shelf (bound_of c.args.shelf c.args.by_height.now.items)
read c =
    c.get-one.ensures
    ∙ ap (λ (list : ListByHeight). get_or list.items c.position_of-position.result c.get-one.result) c.position_of-position.ensures.same
    ∙ (found c).read c.get-one.result

pub returns-clause-by_height : goal.returns-clause-by_height
returns-clause-by_height c =
    let got = (goal.at.returns-clause-by_height c).After-get-one in
    let by_height = c.args.by_height.now.items in
    let index = c.position_of-position.result in
    c.set.ensures.items
    ∙ ap (λ (list : ListByHeight). set list.items index (record c.get-one.result { widest = c.args.width })) c.position_of-position.ensures.same
    ∙ ap (λ (one : BoundedShelf). set by_height index (record one { widest = c.args.width })) (read got)
    ∙ (found got).another c.args.width
