use Rattle.std.proofs.Common.{ap, arith, ◌∙◌}
use Rattle.shelf_heights.specs.declared.by_height.BoundedShelf.{BoundedShelf}
use Rattle.shelf_heights.proofs.ByHeight.UsedLists.{used-at, used-few, used-within}
use Rattle.shelf_heights.proofs.by_height.ShelvesByHeight.shelf.Goals as goal

pub overflow_add-self-inside : goal.overflow_add-self-inside
overflow_add-self-inside c = omega (arith, used-few c.self.inside c.args.self.now c.self.invariant c.self.view_is c.args.index (omega (arith, c.requires)))

pub shelf-requires : goal.shelf-requires
shelf-requires c = used-within c.self.inside c.args.self.now c.self.invariant c.self.view_is c.args.index c.requires

pub returns : goal.returns
returns c = c.shelf.ensures ∙ ap (λ (one : BoundedShelf). one.shelf) (used-at c.self.inside c.args.self.now c.self.invariant c.self.view_is c.args.index (record { widest = 0; shelf = 0 }))
