use Rattle.std.proofs.Common.{ℕ, ◌+◌, ap, drop, insert, remove, ◌∙◌}
use Rattle.shelf_heights.specs.Private.ByHeight.{bounded_at}
use Rattle.shelf_heights.specs.Private.ListFields.{ListByHeight}
use Rattle.shelf_heights.specs.declared.by_height.BoundedShelf.{BoundedShelf}
use Rattle.shelf_heights.proofs.ByHeight.LeftOver.{shift-drop}
use Rattle.shelf_heights.proofs.ByHeight.UsedLists.{used-at, used-within}
use Rattle.shelf_heights.proofs.by_height.ShelvesByHeight.shift.Goals as goal

pub returns-else-abs_diff-len-clause-items : goal.returns-else-abs_diff-len-clause-items
returns-else-abs_diff-len-clause-items c =
    let start : ℕ = c.self.inside.start in
    let one : BoundedShelf = bounded_at c.self.inside.list.items (start + c.args.from) in
    ap (drop start) c.shift.ensures.items
    ∙ shift-drop start c.args.from c.args.to c.self.inside.list.items one (used-within c.self.inside c.args.self.now c.self.invariant c.self.view_is c.args.from c.requires.from)
    ∙ ap (λ (value : ListByHeight). insert (remove value.items c.args.from) c.args.to one) c.self.view_is
    ∙ ap (insert (remove c.args.self.now.items c.args.from) c.args.to) (used-at c.self.inside c.args.self.now c.self.invariant c.self.view_is c.args.from (record { widest = 0; shelf = 0 }))
