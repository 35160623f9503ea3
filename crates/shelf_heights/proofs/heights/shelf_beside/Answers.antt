use Rattle.std.proofs.Common.{ap, arith, sym, ◌∙◌}
use Rattle.std.proofs.lemmas.List.Edits.{get_or-remove_above, get_or-remove_below, length-remove}
use Rattle.shelf_heights.specs.declared.by_height.BoundedShelf.{BoundedShelf}
use Rattle.shelf_heights.proofs.heights.shelf_beside.Goals as goal

-- a shelf of zeros
abbrev none : BoundedShelf
none = record { widest = 0; shelf = 0 }

pub overflow_add-index : goal.overflow_add-index
overflow_add-index c = omega (arith, c.requires.index, c.requires.few, length-remove c.args.by_height.now.items c.args.left_out c.requires.left_out)

pub returns-then-index-left_out : goal.returns-then-index-left_out
returns-then-index-left_out c =
    c.shelf.ensures
    ∙ sym (ap (λ (one : BoundedShelf). one.shelf) (get_or-remove_below c.args.by_height.now.items c.args.left_out none c.args.index c.if-index-left_out.true c.requires.left_out))

pub returns-else-index-left_out : goal.returns-else-index-left_out
returns-else-index-left_out c =
    c.shelf-else-index-left_out.ensures
    ∙ sym (ap (λ (one : BoundedShelf). one.shelf) (get_or-remove_above c.args.by_height.now.items c.args.left_out none c.args.index c.if-index-left_out.false c.requires.left_out))
