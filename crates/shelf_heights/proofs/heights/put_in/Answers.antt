use Rattle.std.proofs.Common.{◌<◌, ◌≤◌, ℕ, ap, drop, subst, take, ◌∙◌}
use Rattle.std.specs.List.{AllByRecursion}
use Rattle.shelf_heights.specs.Private.ByHeight.{order_of}
use Rattle.shelf_heights.specs.Private.ListFields.{ListByHeight}
use Rattle.shelf_heights.specs.declared.by_height.BoundedShelf.{BoundedShelf}
use Rattle.shelf_heights.proofs.ByHeight.Positions.{put_in-at}
use Rattle.shelf_heights.proofs.heights.put_in.Goals as goal

pub returns-clause-by_height : goal.returns-clause-by_height
returns-clause-by_height c =
    let shelves = c.args.shelves.now in
    let by_height = c.args.by_height.now.items in
    let index = c.start_near-index.result in
    ap (λ (list : ListByHeight). list.items) c.keep_position.ensures
    ∙ c.insert.ensures.items
    ∙ put_in-at shelves c.args.one index by_height c.start_near-index.ensures.within
    (subst (λ (n : ℕ). AllByRecursion (λ (other : BoundedShelf). order_of shelves other.shelf < order_of shelves n) (take index by_height)) c.from-shelf.ensures c.start_near-index.ensures.before)
    (subst (λ (n : ℕ). AllByRecursion (λ (other : BoundedShelf). order_of shelves n ≤ order_of shelves other.shelf) (drop index by_height)) c.from-shelf.ensures c.start_near-index.ensures.after)
