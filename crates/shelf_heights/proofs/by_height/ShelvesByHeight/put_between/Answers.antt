use Rattle.std.proofs.Common.{ℕ, ◌+◌, ◌-◌, List, ap, arith, drop, insert, set, ◌∙◌}
use Rattle.shelf_heights.specs.Private.ByHeight.{bounded_at}
use Rattle.shelf_heights.specs.Private.ListFields.{ListByHeight}
use Rattle.shelf_heights.specs.declared.by_height.BoundedShelf.{BoundedShelf}
use Rattle.shelf_heights.proofs.ByHeight.LeftOver.{insert-drop, taken-slot}
use Rattle.shelf_heights.proofs.ByHeight.UsedLists.{used-count}
use Rattle.shelf_heights.proofs.by_height.ShelvesByHeight.put_between.Goals as goal

pub returns-then-at_front-clause-items : goal.returns-then-at_front-clause-items
returns-then-at_front-clause-items c =
    let start : ℕ = c.self.inside.start in
    let xs : List BoundedShelf = c.self.inside.list.items in
    ap (drop (start - 1))
    (c.set.ensures.items ∙ ap (λ (l : List BoundedShelf). set l (start - 1 + c.args.index) c.args.one) c.shift.ensures.items)
    ∙ taken-slot start c.args.index xs (bounded_at xs (start - 1)) c.args.one (omega (arith, c.if-self-gt0.true))
    (omega (arith, c.requires.within, used-count c.self.inside c.args.self.now c.self.invariant c.self.view_is))
    ∙ ap (λ (value : ListByHeight). insert value.items c.args.index c.args.one) c.self.view_is

pub returns-else-self-gt0-clause-items : goal.returns-else-self-gt0-clause-items
returns-else-self-gt0-clause-items c =
    ap (drop c.self.inside.start) c.insert.ensures.items
    ∙ insert-drop c.self.inside.start c.args.index c.self.inside.list.items c.args.one c.self.invariant.within
    ∙ ap (λ (value : ListByHeight). insert value.items c.args.index c.args.one) c.self.view_is
