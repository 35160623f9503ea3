use Rattle.std.proofs.Common.{◌≡◌, ℕ, suc, ◌+◌, ◌<◌, ◌≤◌, List, drop, length, arith, subst, sym, take}
use Rattle.std.specs.List.{AllByRecursion}
use Rattle.shelf_heights.specs.Private.ByHeight.{order_at, order_of, bounded_at}
use Rattle.shelf_heights.specs.declared.by_height.BoundedShelf.{BoundedShelf}
use Rattle.shelf_heights.proofs.ByHeight.Positions.{after-probed, before-probed, order-read, read-number, tells-after, tells-before}
use Rattle.shelf_heights.proofs.heights.start_near.Goals as goal

-- a shelf of zeros
abbrev none : BoundedShelf
none = record { widest = 0; shelf = 0 }

pub comes_before-requires : goal.comes_before-requires
comes_before-requires c =
    let from : ℕ = c.loop-from.from in
    let end : ℕ = c.loop-from.end in
    let others : List BoundedShelf = c.args.by_height.now.items in
    subst (λ (n : ℕ). n < length c.args.shelves.now) (sym c.shelf.ensures)
    (read-number (λ n. n < length c.args.shelves.now) c.probed_near-middle.result others none (omega (arith, c.probed_near-middle.ensures.end, c.loop-from.invariant.within)) c.requires.order.within)

pub loop-from-preserved-then-comes_before : goal.loop-from-preserved-then-comes_before
loop-from-preserved-then-comes_before c =
    let from : ℕ = c.loop-from.from in
    let end : ℕ = c.loop-from.end in
    let middle : ℕ = c.probed_near-middle.result in
    let others : List BoundedShelf = c.args.by_height.now.items in
    let order : ℕ = order_at c.from-height.result c.chain_order-in_chain.result in
    let within : middle < length others = omega (arith, c.probed_near-middle.ensures.end, c.loop-from.invariant.within) in
    let next : suc middle ≡ middle + 1 = omega arith in
    record {
      bounds = omega (arith, c.probed_near-middle.ensures.end);
      few = c.loop-from.invariant.few;
      within = c.loop-from.invariant.within;
      before = subst (λ (n : ℕ). AllByRecursion (λ (one : BoundedShelf). order_of c.args.shelves.now one.shelf < order) (take n others)) next
          (before-probed c.args.shelves.now 0 order middle others none within c.requires.order.rising
          (tells-before c.args.shelves.now c.shelf.result order (bounded_at others middle) c.shelf.ensures c.if-comes_before.ensures));
      after = c.loop-from.invariant.after;
    }

pub loop-from-preserved : goal.loop-from-preserved
loop-from-preserved c =
    let from : ℕ = c.loop-from.from in
    let end : ℕ = c.loop-from.end in
    let middle : ℕ = c.probed_near-middle.result in
    let others : List BoundedShelf = c.args.by_height.now.items in
    let order : ℕ = order_at c.from-height.result c.chain_order-in_chain.result in
    let within : middle < length others = omega (arith, c.probed_near-middle.ensures.end, c.loop-from.invariant.within) in
    record {
      bounds = c.probed_near-middle.ensures.from;
      few = c.loop-from.invariant.few;
      within = omega (arith, within);
      before = c.loop-from.invariant.before;
      after = after-probed c.args.shelves.now 0 order middle others none within c.requires.order.rising
          (tells-after c.args.shelves.now c.shelf.result order (bounded_at others middle) c.shelf.ensures c.if-comes_before.ensures);
    }

pub returns-clause-before : goal.returns-clause-before
returns-clause-before c =
    subst (λ (n : ℕ). AllByRecursion (λ (one : BoundedShelf). order_of c.args.shelves.now one.shelf < n) (take c.loop-from.from c.args.by_height.now.items))
    (order-read c.args.shelves.now c.args.shelf c.from-height.result c.chain_order-in_chain.result c.index-shelves-shelf.result c.requires.within c.index-shelves-shelf.is c.from-height.ensures c.chain_order-in_chain.ensures) c.loop-from.invariant.before

pub returns-clause-after : goal.returns-clause-after
returns-clause-after c =
    let same : c.loop-from.end ≡ c.loop-from.from = omega (arith, c.loop-from.invariant.bounds, c.loop-from-test.false) in
    subst (λ (n : ℕ). AllByRecursion (λ (one : BoundedShelf). n ≤ order_of c.args.shelves.now one.shelf) (drop c.loop-from.from c.args.by_height.now.items))
    (order-read c.args.shelves.now c.args.shelf c.from-height.result c.chain_order-in_chain.result c.index-shelves-shelf.result c.requires.within c.index-shelves-shelf.is c.from-height.ensures c.chain_order-in_chain.ensures)
    (subst (λ (n : ℕ). AllByRecursion (λ (one : BoundedShelf). order_at c.from-height.result c.chain_order-in_chain.result ≤ order_of c.args.shelves.now one.shelf) (drop n c.args.by_height.now.items)) same c.loop-from.invariant.after)
