use Rattle.std.proofs.Common.{◌≡◌, ℕ, ◌<◌, Bool, true, false, length, arith, subst, sym}
use Rattle.std.specs.Prelude.{not}
use Rattle.shelf_heights.specs.Private.ByHeight.{bounded_at, order_at}
use Rattle.shelf_heights.specs.declared.by_height.BoundedShelf.{BoundedShelf}
use Rattle.shelf_heights.proofs.ByHeight.Positions.{after-probed, read-number, tells-after}
use Rattle.shelf_heights.proofs.heights.are_as_tall_from.Goals as goal

-- a shelf of zeros
abbrev none : BoundedShelf
none = record { widest = 0; shelf = 0 }

-- what isn't so is false
denied : (b t : Bool) → not b ≡ true → b ≡ t → false ≡ t
denied true t is same = absurd (cc is)
denied false t is same = same

pub comes_before-requires : goal.comes_before-requires
comes_before-requires c =
    subst (λ (n : ℕ). n < length c.args.shelves.now) (sym c.shelf.ensures)
    (read-number (λ n. n < length c.args.shelves.now) c.args.index c.args.by_height.now.items none (omega (arith, c.requires.within, c.if-index-len.false, c.len.ensures)) c.requires.order.within)

pub returns : goal.returns
returns c = λ is.
    let order : ℕ = order_at c.args.height 0 in
    after-probed c.args.shelves.now 0 order c.args.index c.args.by_height.now.items none (omega (arith, c.requires.within, c.if-index-len.false, c.len.ensures)) c.requires.order.rising
    (tells-after c.args.shelves.now c.shelf.result order (bounded_at c.args.by_height.now.items c.args.index) c.shelf.ensures (denied c.comes_before.result _ is c.comes_before.ensures))
