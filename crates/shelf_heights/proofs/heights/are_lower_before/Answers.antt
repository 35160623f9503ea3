use Rattle.std.proofs.Common.{◌≡◌, ℕ, suc, ◌-◌, ◌<◌, length, arith, subst, sym, take, ◌∙◌}
use Rattle.std.specs.List.{AllByRecursion}
use Rattle.shelf_heights.specs.Private.ByHeight.{bounded_at, order_at, order_of}
use Rattle.shelf_heights.specs.declared.by_height.BoundedShelf.{BoundedShelf}
use Rattle.shelf_heights.proofs.ByHeight.Positions.{before-probed, read-number, tells-before}
use Rattle.shelf_heights.proofs.heights.are_lower_before.Goals as goal

-- a shelf of zeros
abbrev none : BoundedShelf
none = record { widest = 0; shelf = 0 }

pub comes_before-requires : goal.comes_before-requires
comes_before-requires c =
    subst (λ (n : ℕ). n < length c.args.shelves.now) (sym c.shelf.ensures)
    (read-number (λ n. n < length c.args.shelves.now) (c.args.index - 1) c.args.by_height.now.items none (omega (arith, c.requires.within, c.if-index-eq0.false)) c.requires.order.within)

pub returns : goal.returns
returns c = λ is.
    let order : ℕ = order_at c.args.height 0 in
    let last : ℕ = c.args.index - 1 in
    let next : suc last ≡ c.args.index = omega (arith, c.if-index-eq0.false) in
    subst (λ (n : ℕ). AllByRecursion (λ (one : BoundedShelf). order_of c.args.shelves.now one.shelf < order) (take n c.args.by_height.now.items)) next
    (before-probed c.args.shelves.now 0 order last c.args.by_height.now.items none (omega (arith, c.requires.within, c.if-index-eq0.false)) c.requires.order.rising
    (tells-before c.args.shelves.now c.shelf.result order (bounded_at c.args.by_height.now.items last) c.shelf.ensures (sym is ∙ c.comes_before.ensures)))
