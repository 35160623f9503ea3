use Rattle.std.proofs.Common.{◌≡◌, ◌≤◌, ◌<◌, ℕ, List, ap, arith, drop, get_or-set_same, length, length-set, refl, set, subst, sym, take, ◌∙◌}
use Rattle.std.specs.Prelude.{insert, remove}
use Rattle.std.specs.List.{AllByRecursion}
use Rattle.etagere_base.specs.Lists.{times}
use Rattle.shelf_heights.specs.Private.ByHeight.{AreInOrder, bounded_at, numbers_by_height, order_of, put_in, taken_out}
use Rattle.shelf_heights.specs.Private.ListFields.{ListByHeight}
use Rattle.shelf_heights.specs.declared.by_height.BoundedShelf.{BoundedShelf}
use Rattle.shelf_heights.proofs.ByHeight.LeftOver.{remove-set}
use Rattle.shelf_heights.proofs.ByHeight.Positions.{put-back, put_in-at, stands-there}
use Rattle.shelf_heights.proofs.heights.settle.Goals as goal
use Rattle.shelf_heights.proofs.heights.settle.Goals.{After-from-shelf, After-start_beside-to}

-- the other shelves, once one is written over the one at the position
others : (by_height new : List BoundedShelf) (one : BoundedShelf) (index : ℕ) → new ≡ set by_height index one → times (bounded_at by_height index).shelf (numbers_by_height by_height) ≤ 1
    → index < length by_height → remove new index ≡ taken_out (bounded_at by_height index).shelf by_height
others by_height new one index is once within =
    ap (λ (l : List BoundedShelf). remove l index) is
    ∙ remove-set index by_height one
    ∙ (stands-there (bounded_at by_height index).shelf index by_height once within refl).taken

-- it stands at the position
here : (c : After-from-shelf) → bounded_at c.set.new.self.items c.args.index ≡ c.args.settled
here c =
    ap (λ (l : List BoundedShelf). bounded_at l c.args.index) c.set.ensures.items
    ∙ get_or-set_same c.args.by_height.now.items c.args.index c.args.settled (record { widest = 0; shelf = 0 }) c.requires.index

-- where it is put in among the others
placed : (c : After-start_beside-to) → insert (remove c.set.new.self.items c.args.index) c.start_beside-to.result c.args.settled
    ≡ put_in c.args.shelves.now c.args.settled (taken_out (bounded_at c.args.by_height.now.items c.args.index).shelf c.args.by_height.now.items)
placed c =
    let left = remove c.set.new.self.items c.args.index in
    let to = c.start_beside-to.result in
    put_in-at c.args.shelves.now c.args.settled to left c.start_beside-to.ensures.within
    (subst (λ n. AllByRecursion (λ (one : BoundedShelf). order_of c.args.shelves.now one.shelf < order_of c.args.shelves.now n) (take to left)) c.from-shelf.ensures c.start_beside-to.ensures.before)
    (subst (λ n. AllByRecursion (λ (one : BoundedShelf). order_of c.args.shelves.now n ≤ order_of c.args.shelves.now one.shelf) (drop to left)) c.from-shelf.ensures c.start_beside-to.ensures.after)
    ∙ ap (put_in c.args.shelves.now c.args.settled) (others c.args.by_height.now.items c.set.new.self.items c.args.settled c.args.index c.set.ensures.items c.requires.once c.requires.index)

pub start_beside-to-requires-clause-order : goal.start_beside-to-requires-clause-order
start_beside-to-requires-clause-order c =
    subst (AreInOrder c.args.shelves.now) (sym (others c.args.by_height.now.items c.set.new.self.items c.args.settled c.args.index c.set.ensures.items c.requires.once c.requires.index)) c.requires.order

pub returns-then-to-index-clause-by_height : goal.returns-then-to-index-clause-by_height
returns-then-to-index-clause-by_height c =
    let at = goal.at.returns-then-to-index-clause-by_height c in
    c.move_to.ensures.items
    ∙ ap (insert (remove c.set.new.self.items c.args.index) c.start_beside-to.result) (here at.After-from-shelf)
    ∙ placed at.After-start_beside-to

pub returns-else-to-index-clause-by_height : goal.returns-else-to-index-clause-by_height
returns-else-to-index-clause-by_height c =
    let at = goal.at.returns-else-to-index-clause-by_height c in
    let new = c.set.new.self.items in
    let within : c.args.index < length new = omega (arith, ap length c.set.ensures.items, length-set c.args.by_height.now.items c.args.index c.args.settled, c.requires.index) in
    ap (λ (list : ListByHeight). list.items) c.keep_position.ensures
    ∙ put-back c.args.index new (record { widest = 0; shelf = 0 }) within
    ∙ ap (insert (remove new c.args.index) c.args.index) (here at.After-from-shelf)
    ∙ ap (λ n. insert (remove new c.args.index) n c.args.settled) (sym c.if-to-index.false)
    ∙ placed at.After-start_beside-to
