use Rattle.std.proofs.Common.{arith, ◌∙◌}
use Rattle.shelf_heights.proofs.ByHeight.UsedLists.{used-at, used-few, used-within}
use Rattle.shelf_heights.proofs.by_height.ShelvesByHeight.get.Goals as goal

pub overflow_add-self-inside : goal.overflow_add-self-inside
overflow_add-self-inside c = omega (arith, used-few c.self.inside c.args.self.now c.self.invariant c.self.view_is c.args.index (omega (arith, c.requires)))

pub get-requires : goal.get-requires
get-requires c = used-within c.self.inside c.args.self.now c.self.invariant c.self.view_is c.args.index c.requires

pub returns : goal.returns
returns c = c.get.ensures ∙ used-at c.self.inside c.args.self.now c.self.invariant c.self.view_is c.args.index c.get.result
