use Rattle.std.proofs.Common.{ap, get_or, ◌∙◌}
use Rattle.std.specs.Prelude.{remove}
use Rattle.shelf_heights.specs.Private.ListFields.{ListByHeight}
use Rattle.shelf_heights.specs.declared.by_height.BoundedShelf.{BoundedShelf}
use Rattle.shelf_heights.proofs.ByHeight.Edited.{in_order-once}
use Rattle.shelf_heights.proofs.ByHeight.Positions.{StandsAt, stands-there}
use Rattle.shelf_heights.proofs.heights.take_out.Goals as goal

-- the shelf stands where it was found
found : (c : goal.After-remove) → StandsAt c.args.shelf c.position_of-index.result c.args.by_height.now.items
found c =
    stands-there c.args.shelf c.position_of-index.result c.args.by_height.now.items (in_order-once c.args.shelves.now c.args.by_height.now.items c.args.shelf c.requires.order)
    c.position_of-index.ensures.within c.position_of-index.ensures.shelf

pub returns-clause-by_height : goal.returns-clause-by_height
returns-clause-by_height c =
    c.remove.ensures.items
    ∙ ap (λ (list : ListByHeight). remove list.items c.position_of-index.result) c.position_of-index.ensures.same
    ∙ (found c).taken

pub returns-clause-bound : goal.returns-clause-bound
returns-clause-bound c =
    ap (λ (one : BoundedShelf). one.widest)
    (c.remove.ensures.value
    ∙ ap (λ (list : ListByHeight). get_or list.items c.position_of-index.result c.remove.result) c.position_of-index.ensures.same
    ∙ (found c).read c.remove.result)
