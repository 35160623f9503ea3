use Rattle.std.proofs.Common.{◌≡◌, ℕ, zero, suc, ◌+◌, ◌-◌, ◌<◌, ◌≤◌, List, drop, length, arith, subst, sym, take}
use Rattle.std.specs.Prelude.{remove}
use Rattle.std.specs.List.{AllByRecursion}
use Rattle.std.proofs.lemmas.List.Edits.{length-remove}
use Rattle.shelf_records.specs.declared.records.LinkedShelf.{LinkedShelf}
use Rattle.shelf_heights.specs.Private.ByHeight.{order_at, order_of, bounded_at}
use Rattle.shelf_heights.specs.declared.by_height.BoundedShelf.{BoundedShelf}
use Rattle.shelf_heights.proofs.ByHeight.Positions.{after-probed, before-probed, none-behind, read-number, tells-after, tells-before}
use Rattle.shelf_heights.proofs.heights.between_beside.Goals as goal
use Rattle.shelf_heights.proofs.heights.between_beside.Goals.{then-left_out-end+else-comes_before, else-left_out-end}

-- a shelf of zeros
abbrev none : BoundedShelf
none = record { widest = 0; shelf = 0 }

pub comes_before-requires : goal.comes_before-requires
comes_before-requires c =
    let items : List BoundedShelf = c.args.by_height.now.items in
    let others : List BoundedShelf = remove items c.args.left_out in
    subst (λ (n : ℕ). n < length c.args.shelves.now) (sym c.shelf_beside-behind.ensures)
    (read-number (λ n. n < length c.args.shelves.now) c.args.left_out others none
    (omega (arith, c.if-left_out-end.true, c.len-end.ensures, length-remove items c.args.left_out c.requires.left_out)) c.requires.order.within)

pub comes_before-requires-2 : goal.comes_before-requires-2
comes_before-requires-2 c =
    let items : List BoundedShelf = c.args.by_height.now.items in
    let others : List BoundedShelf = remove items c.args.left_out in
    subst (λ (n : ℕ). n < length c.args.shelves.now) (sym c.shelf_beside-front.ensures)
    (read-number (λ n. n < length c.args.shelves.now) (c.args.left_out - 1) others none
    (omega (arith, c.if-left_out-eq0.false, c.requires.left_out, length-remove items c.args.left_out c.requires.left_out)) c.requires.order.within)

pub returns-then-comes_before-clause-before : goal.returns-then-comes_before-clause-before
returns-then-comes_before-clause-before c =
    let items : List BoundedShelf = c.args.by_height.now.items in
    let others : List BoundedShelf = remove items c.args.left_out in
    let order : ℕ = order_at c.args.height c.args.in_chain in
    let next : suc c.args.left_out ≡ c.args.left_out + 1 = omega arith in
    subst (λ (n : ℕ). AllByRecursion (λ (one : BoundedShelf). order_of c.args.shelves.now one.shelf < order) (take n others)) next
    (before-probed c.args.shelves.now 0 order c.args.left_out others none
    (omega (arith, c.if-left_out-end.true, c.len-end.ensures, length-remove items c.args.left_out c.requires.left_out)) c.requires.order.rising
    (tells-before c.args.shelves.now c.shelf_beside-behind.result order (bounded_at others c.args.left_out) c.shelf_beside-behind.ensures c.if-comes_before.ensures))

pub returns-then-left_out-eq0-clause-after : goal.returns-then-left_out-eq0-clause-after
returns-then-left_out-eq0-clause-after c =
    let shelves : List LinkedShelf = c.args.shelves.now in
    let items : List BoundedShelf = c.args.by_height.now.items in
    let at : ℕ = c.args.left_out in
    let others : List BoundedShelf = remove items at in
    let order : ℕ = order_at c.args.height c.args.in_chain in
    let size = length-remove items at c.requires.left_out in
    let first : at ≡ zero = omega (arith, c.if-left_out-eq0.true) in
    subst (λ (n : ℕ). AllByRecursion (λ (one : BoundedShelf). order ≤ order_of shelves one.shelf) (drop n others)) first
    (elim c.if-left_out-end.branch [
      | then-left_out-end+else-comes_before w ↦
          after-probed shelves 0 order at others none (omega (arith, w.if-left_out-end.true, c.len-end.ensures, size)) c.requires.order.rising
          (tells-after shelves w.shelf_beside-behind.result order (bounded_at others at) w.shelf_beside-behind.ensures w.if-comes_before.ensures)
      | else-left_out-end w ↦ none-behind shelves order at others (omega (arith, w.if-left_out-end.false, c.len-end.ensures, size))
    ])

pub returns-then-comes_before-2-clause-before : goal.returns-then-comes_before-2-clause-before
returns-then-comes_before-2-clause-before c =
    let items : List BoundedShelf = c.args.by_height.now.items in
    let others : List BoundedShelf = remove items c.args.left_out in
    let order : ℕ = order_at c.args.height c.args.in_chain in
    let next : suc (c.args.left_out - 1) ≡ c.args.left_out = omega (arith, c.if-left_out-eq0.false) in
    subst (λ (n : ℕ). AllByRecursion (λ (one : BoundedShelf). order_of c.args.shelves.now one.shelf < order) (take n others)) next
    (before-probed c.args.shelves.now 0 order (c.args.left_out - 1) others none
    (omega (arith, c.if-left_out-eq0.false, c.requires.left_out, length-remove items c.args.left_out c.requires.left_out)) c.requires.order.rising
    (tells-before c.args.shelves.now c.shelf_beside-front.result order (bounded_at others (c.args.left_out - 1)) c.shelf_beside-front.ensures c.if-comes_before-2.ensures))

pub returns-then-comes_before-2-clause-after : goal.returns-then-comes_before-2-clause-after
returns-then-comes_before-2-clause-after c =
    let shelves : List LinkedShelf = c.args.shelves.now in
    let items : List BoundedShelf = c.args.by_height.now.items in
    let at : ℕ = c.args.left_out in
    let others : List BoundedShelf = remove items at in
    let order : ℕ = order_at c.args.height c.args.in_chain in
    let size = length-remove items at c.requires.left_out in
    elim c.if-left_out-end.branch [
      | then-left_out-end+else-comes_before w ↦
          after-probed shelves 0 order at others none (omega (arith, w.if-left_out-end.true, c.len-end.ensures, size)) c.requires.order.rising
          (tells-after shelves w.shelf_beside-behind.result order (bounded_at others at) w.shelf_beside-behind.ensures w.if-comes_before.ensures)
      | else-left_out-end w ↦ none-behind shelves order at others (omega (arith, w.if-left_out-end.false, c.len-end.ensures, size))
    ]

pub returns-clause-after : goal.returns-clause-after
returns-clause-after c =
    let items : List BoundedShelf = c.args.by_height.now.items in
    let at : ℕ = c.args.left_out in
    let others : List BoundedShelf = remove items at in
    let order : ℕ = order_at c.args.height c.args.in_chain in
    after-probed c.args.shelves.now 0 order (at - 1) others none
    (omega (arith, c.if-left_out-eq0.false, c.requires.left_out, length-remove items at c.requires.left_out)) c.requires.order.rising
    (tells-after c.args.shelves.now c.shelf_beside-front.result order (bounded_at others (at - 1)) c.shelf_beside-front.ensures c.if-comes_before-2.ensures)
