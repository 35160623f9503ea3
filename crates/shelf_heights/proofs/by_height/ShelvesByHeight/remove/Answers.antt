use Rattle.std.proofs.Common.{ℕ, ◌+◌, List, ap, drop, insert, remove, ◌∙◌}
use Rattle.shelf_heights.specs.Private.ByHeight.{bounded_at}
use Rattle.shelf_heights.specs.Private.ListFields.{ListByHeight}
use Rattle.shelf_heights.specs.declared.by_height.BoundedShelf.{BoundedShelf}
use Rattle.shelf_heights.proofs.ByHeight.LeftOver.{left-over, remove-drop}
use Rattle.shelf_heights.proofs.ByHeight.UsedLists.{used-within}
use Rattle.shelf_heights.proofs.by_height.ShelvesByHeight.remove.Goals as goal

pub returns-then-index-front_half-clause-items : goal.returns-then-index-front_half-clause-items
returns-then-index-front_half-clause-items c =
    ap (drop c.self.inside.start) c.remove.ensures.items
    ∙ remove-drop c.self.inside.start c.args.index c.self.inside.list.items c.self.invariant.within
    ∙ ap (λ (value : ListByHeight). remove value.items c.args.index) c.self.view_is

pub returns-clause-items : goal.returns-clause-items
returns-clause-items c =
    let start : ℕ = c.self.inside.start in
    let position : ℕ = start + c.args.index in
    ap (drop (start + 1))
    (c.shift.ensures.items ∙ ap (λ (l : List BoundedShelf). insert (remove l position) start (bounded_at l position)) c.set.ensures.items)
    ∙ left-over start c.args.index c.self.inside.list.items _ _ (used-within c.self.inside c.args.self.now c.self.invariant c.self.view_is c.args.index c.requires)
    ∙ ap (λ (value : ListByHeight). remove value.items c.args.index) c.self.view_is
