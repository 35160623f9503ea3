use Rattle.std.proofs.Common.{◌≡◌, ℕ, suc, ◌+◌, ◌-◌, ◌<◌, ◌≤◌, true, false, List, length, ap, arith, sym, subst, take, get_or}
use Rattle.std.proofs.lemmas.Bool.Decides.{nat_tests}
use Rattle.std.specs.Prelude.{nat_lt, ◌/◌}
use Rattle.std.specs.List.{AllByRecursion}
use Rattle.shelf_records.specs.declared.records.LinkedShelf.{LinkedShelf}
use Rattle.shelf_heights.specs.Private.ByHeight.{order_at, order_of}
use Rattle.shelf_heights.specs.declared.by_height.BoundedShelf.{BoundedShelf}
use Rattle.shelf_heights.proofs.ByHeight.Positions.{HasDigits, after-probed, before-probed, digits-halved, read-number}
use Rattle.shelf_heights.proofs.heights.first_from.Goals as goal

-- a shelf of zeros
abbrev none : BoundedShelf
none = record { widest = 0; shelf = 0 }

-- the middle is before the end
below : (index end : ℕ) → index < end → index + (end - index) / 2 < end
below index end less = omega (arith, less)

pub overflow_add-start : goal.overflow_add-start
overflow_add-start c =
    let has : HasDigits (c.loop-start.end - c.loop-start.start.index) c.loop-start.start.probes 64 = c.loop-start.invariant.digits 64 c.loop-start.invariant.few in
    omega (arith, has.sum)

pub comes_before-requires : goal.comes_before-requires
comes_before-requires c =
    let middle : ℕ = c.loop-start.start.index + (c.loop-start.end - c.loop-start.start.index) / 2 in
    subst (λ (n : ℕ). n < length c.args.shelves.now) (sym c.shelf.ensures)
    (read-number (λ n. n < length c.args.shelves.now) middle c.args.by_height.now.items none
    (omega (arith, below c.loop-start.start.index c.loop-start.end c.loop-start-test.true, c.loop-start.invariant.within)) c.requires.within)

-- the shelf that was read in the middle comes before the order
before : (shelves : List LinkedShelf) (by_height : List BoundedShelf) (middle number order : ℕ) → true ≡ nat_lt (order_of shelves number) order → number ≡ (get_or by_height middle none).shelf
    → order_of shelves (get_or by_height middle none).shelf < order
before shelves by_height middle number order is at =
    let less : order_of shelves number < order = grind (arith, nat_tests) in
    omega (arith, less, ap (order_of shelves) at)

-- it doesn't
after : (shelves : List LinkedShelf) (by_height : List BoundedShelf) (middle number order : ℕ) → false ≡ nat_lt (order_of shelves number) order → number ≡ (get_or by_height middle none).shelf
    → order ≤ order_of shelves (get_or by_height middle none).shelf
after shelves by_height middle number order is at =
    let more : order ≤ order_of shelves number = grind (arith, nat_tests) in
    omega (arith, more, ap (order_of shelves) at)

pub loop-start-preserved-then-comes_before : goal.loop-start-preserved-then-comes_before
loop-start-preserved-then-comes_before c =
    let index : ℕ = c.loop-start.start.index in
    let end : ℕ = c.loop-start.end in
    let middle : ℕ = index + (end - index) / 2 in
    let within : middle < length c.args.by_height.now.items = omega (arith, below index end c.loop-start-test.true, c.loop-start.invariant.within) in
    let next : suc middle ≡ middle + 1 = omega arith in
    record {
      bounds = omega (arith, below index end c.loop-start-test.true);
      few = c.loop-start.invariant.few;
      within = c.loop-start.invariant.within;
      before = subst (λ (n : ℕ). AllByRecursion (λ (one : BoundedShelf). order_of c.args.shelves.now one.shelf < (order_at c.args.height c.args.in_chain)) (take n c.args.by_height.now.items)) next
          (before-probed c.args.shelves.now 0 (order_at c.args.height c.args.in_chain) middle c.args.by_height.now.items none within c.requires.rising
          (before c.args.shelves.now c.args.by_height.now.items middle c.shelf.result (order_at c.args.height c.args.in_chain) c.if-comes_before.ensures c.shelf.ensures));
      after = c.loop-start.invariant.after;
      digits = λ digits enough.
          digits-halved (end - index) (end - (middle + 1)) c.loop-start.start.probes digits (omega arith) (omega (arith, c.loop-start-test.true))
          (c.loop-start.invariant.digits digits enough);
    }

pub loop-start-preserved : goal.loop-start-preserved
loop-start-preserved c =
    let index : ℕ = c.loop-start.start.index in
    let end : ℕ = c.loop-start.end in
    let middle : ℕ = index + (end - index) / 2 in
    let within : middle < length c.args.by_height.now.items = omega (arith, below index end c.loop-start-test.true, c.loop-start.invariant.within) in
    record {
      bounds = omega arith;
      few = c.loop-start.invariant.few;
      within = omega (arith, within);
      before = c.loop-start.invariant.before;
      after = after-probed c.args.shelves.now 0 (order_at c.args.height c.args.in_chain) middle c.args.by_height.now.items none within c.requires.rising
          (after c.args.shelves.now c.args.by_height.now.items middle c.shelf.result (order_at c.args.height c.args.in_chain) c.if-comes_before.ensures c.shelf.ensures);
      digits = λ digits enough.
          digits-halved (end - index) (middle - index) c.loop-start.start.probes digits (omega arith) (omega (arith, c.loop-start-test.true))
          (c.loop-start.invariant.digits digits enough);
    }
