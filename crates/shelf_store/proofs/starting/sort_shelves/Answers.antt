use Rattle.std.proofs.Common.{List, ap, map, subst, ◌∙◌}
use Rattle.std.specs.List.Sorted.{IsNonDecreasingBy, IsPermutation}
use Rattle.shelf_records.specs.declared.records.LinkedShelf.{LinkedShelf}
use Rattle.shelf_heights.specs.Private.ByHeight.{order_of, numbers_by_height}
use Rattle.shelf_heights.specs.declared.by_height.BoundedShelf.{BoundedShelf}
use Rattle.shelf_store.proofs.ByHeight.NewByHeight.{sorted-by_height}
use Rattle.shelf_store.proofs.starting.sort_shelves.Goals as goal

pub returns-clause-by_height : goal.returns-clause-by_height
returns-clause-by_height c =
    let sorted = c.sort.new.self.items in
    sorted-by_height c.args.frame.now c.args.records.now sorted c.requires.kept
    (subst (λ (by_height : List BoundedShelf). IsPermutation (numbers_by_height by_height) (numbers_by_height sorted)) c.collect_shelves.ensures.by_height c.sort.ensures.numbers)
    (subst (λ (shelves : List LinkedShelf). IsNonDecreasingBy (order_of shelves) (numbers_by_height sorted)) c.shelves.ensures c.sort.ensures.sorted)
    (c.sort.ensures.bounds ∙ ap (map (λ (one : BoundedShelf). one.widest)) c.collect_shelves.ensures.by_height)
