use Rattle.std.proofs.Common.{◌++◌, ◌∷◌, [], ℕ, ap, arith, drop, ◌∙◌}
use Rattle.std.proofs.lemmas.List.{drop-append-le}
use Rattle.std.specs.Prelude.{insert}
use Rattle.shelf_heights.specs.Private.ListFields.{ListByHeight}
use Rattle.shelf_heights.proofs.ByHeight.PairedShelves.{insert-end}
use Rattle.shelf_heights.proofs.by_height.ShelvesByHeight.push.Goals as goal

pub push-requires : goal.push-requires
push-requires c = omega (arith, c.if-len-self.true, c.len.ensures, c.self.invariant.room)

pub returns-then-len-self-clause-items : goal.returns-then-len-self-clause-items
returns-then-len-self-clause-items c =
    ap (drop c.self.inside.start) c.push.ensures.items
    ∙ drop-append-le c.self.inside.start c.self.inside.list.items (c.args.one ∷ []) c.self.invariant.within
    ∙ ap (λ (value : ListByHeight). value.items ++ c.args.one ∷ []) c.self.view_is

pub returns-else-len-self-clause-items : goal.returns-else-len-self-clause-items
returns-else-len-self-clause-items c =
    c.insert.ensures.items
    ∙ ap (λ (n : ℕ). insert c.args.self.now.items n c.args.one) c.len-else-len-self.ensures
    ∙ insert-end c.args.self.now.items c.args.one
