use Rattle.std.proofs.Common.{ap, arith, drop, set, ◌∙◌}
use Rattle.shelf_heights.specs.Private.ListFields.{ListByHeight}
use Rattle.shelf_heights.proofs.ByHeight.LeftOver.{set-drop}
use Rattle.shelf_heights.proofs.ByHeight.UsedLists.{used-few, used-within}
use Rattle.shelf_heights.proofs.by_height.ShelvesByHeight.set.Goals as goal

pub overflow_add-self-inside : goal.overflow_add-self-inside
overflow_add-self-inside c = omega (arith, used-few c.self.inside c.args.self.now c.self.invariant c.self.view_is c.args.index (omega (arith, c.requires)))

pub set-requires : goal.set-requires
set-requires c = used-within c.self.inside c.args.self.now c.self.invariant c.self.view_is c.args.index c.requires

pub returns-clause-items : goal.returns-clause-items
returns-clause-items c =
    ap (drop c.self.inside.start) c.set.ensures.items
    ∙ set-drop c.self.inside.start c.args.index c.self.inside.list.items c.args.one c.self.invariant.within
    ∙ ap (λ (value : ListByHeight). set value.items c.args.index c.args.one) c.self.view_is
