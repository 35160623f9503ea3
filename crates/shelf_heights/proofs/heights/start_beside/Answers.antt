use Rattle.std.proofs.Common.{◌≡◌, ℕ, suc, ◌+◌, ◌-◌, ◌<◌, ◌≤◌, List, drop, length, arith, subst, sym, take}
use Rattle.std.specs.Prelude.{remove, ◌/◌}
use Rattle.std.specs.List.{AllByRecursion}
use Rattle.shelf_heights.specs.Private.ByHeight.{order_at, order_of, bounded_at}
use Rattle.shelf_heights.specs.declared.by_height.BoundedShelf.{BoundedShelf}
use Rattle.shelf_heights.proofs.ByHeight.Positions.{after-probed, before-probed, order-read, read-number, tells-after, tells-before}
use Rattle.shelf_heights.proofs.heights.start_beside.Goals as goal

-- a shelf of zeros
abbrev none : BoundedShelf
none = record { widest = 0; shelf = 0 }

-- the middle is before the end
below : (from end : ℕ) → from < end → from + (end - from) / 2 < end
below from end less = omega (arith, less)

pub comes_before-requires : goal.comes_before-requires
comes_before-requires c =
    let from : ℕ = c.loop-between.between.from in
    let end : ℕ = c.loop-between.between.end in
    let others : List BoundedShelf = remove c.args.by_height.now.items c.args.left_out in
    subst (λ (n : ℕ). n < length c.args.shelves.now) (sym c.shelf_beside-beside.ensures)
    (read-number (λ n. n < length c.args.shelves.now) (from + (end - from) / 2) others none
    (omega (arith, below from end c.loop-between-test.true, c.loop-between.invariant.within)) c.requires.order.within)

pub loop-between-preserved-then-comes_before : goal.loop-between-preserved-then-comes_before
loop-between-preserved-then-comes_before c =
    let from : ℕ = c.loop-between.between.from in
    let end : ℕ = c.loop-between.between.end in
    let middle : ℕ = from + (end - from) / 2 in
    let others : List BoundedShelf = remove c.args.by_height.now.items c.args.left_out in
    let order : ℕ = order_at c.from-height.result c.chain_order-in_chain.result in
    let within : middle < length others = omega (arith, below from end c.loop-between-test.true, c.loop-between.invariant.within) in
    let next : suc middle ≡ middle + 1 = omega arith in
    record {
      bounds = omega (arith, below from end c.loop-between-test.true);
      few = c.loop-between.invariant.few;
      within = c.loop-between.invariant.within;
      before = subst (λ (n : ℕ). AllByRecursion (λ (one : BoundedShelf). order_of c.args.shelves.now one.shelf < order) (take n others)) next
          (before-probed c.args.shelves.now 0 order middle others none within c.requires.order.rising
          (tells-before c.args.shelves.now c.shelf_beside-beside.result order (bounded_at others middle) c.shelf_beside-beside.ensures c.if-comes_before.ensures));
      after = c.loop-between.invariant.after;
    }

pub loop-between-preserved : goal.loop-between-preserved
loop-between-preserved c =
    let from : ℕ = c.loop-between.between.from in
    let end : ℕ = c.loop-between.between.end in
    let middle : ℕ = from + (end - from) / 2 in
    let others : List BoundedShelf = remove c.args.by_height.now.items c.args.left_out in
    let order : ℕ = order_at c.from-height.result c.chain_order-in_chain.result in
    let within : middle < length others = omega (arith, below from end c.loop-between-test.true, c.loop-between.invariant.within) in
    record {
      bounds = omega arith;
      few = c.loop-between.invariant.few;
      within = omega (arith, within);
      before = c.loop-between.invariant.before;
      after = after-probed c.args.shelves.now 0 order middle others none within c.requires.order.rising
          (tells-after c.args.shelves.now c.shelf_beside-beside.result order (bounded_at others middle) c.shelf_beside-beside.ensures c.if-comes_before.ensures);
    }

pub returns-clause-before : goal.returns-clause-before
returns-clause-before c =
    subst (λ (n : ℕ). AllByRecursion (λ (one : BoundedShelf). order_of c.args.shelves.now one.shelf < n) (take c.loop-between.between.from (remove c.args.by_height.now.items c.args.left_out)))
    (order-read c.args.shelves.now c.args.shelf c.from-height.result c.chain_order-in_chain.result c.index-shelves-shelf.result c.requires.within c.index-shelves-shelf.is c.from-height.ensures c.chain_order-in_chain.ensures)
    c.loop-between.invariant.before

pub returns-clause-after : goal.returns-clause-after
returns-clause-after c =
    let others : List BoundedShelf = remove c.args.by_height.now.items c.args.left_out in
    let same : c.loop-between.between.end ≡ c.loop-between.between.from = omega (arith, c.loop-between.invariant.bounds, c.loop-between-test.false) in
    subst (λ (n : ℕ). AllByRecursion (λ (one : BoundedShelf). n ≤ order_of c.args.shelves.now one.shelf) (drop c.loop-between.between.from others))
    (order-read c.args.shelves.now c.args.shelf c.from-height.result c.chain_order-in_chain.result c.index-shelves-shelf.result c.requires.within c.index-shelves-shelf.is c.from-height.ensures c.chain_order-in_chain.ensures)
    (subst (λ (n : ℕ). AllByRecursion (λ (one : BoundedShelf). order_at c.from-height.result c.chain_order-in_chain.result ≤ order_of c.args.shelves.now one.shelf) (drop n others)) same
    c.loop-between.invariant.after)
