use Rattle.std.proofs.Common.{ap, ◌∙◌}
use Rattle.shelf_heights.specs.Private.ByHeight.{numbers_by_height}
use Rattle.shelf_search.specs.Private.Searching.{offered}
use Rattle.shelf_heights.specs.declared.by_height.BoundedShelf.{BoundedShelf}
use Rattle.shelf_search.proofs.ByHeight.Searches.{numbers-set, read-at, searchable-at, searchable-set}
use Rattle.shelf_search.proofs.choosing.fit_at.Goals as goal

pub fit-found-requires-clause-bounded : goal.fit-found-requires-clause-bounded
fit-found-requires-clause-bounded c =
    rw (c.get-one.ensures, read-at c.args.by_height.now.items c.args.index c.get-one.result c.requires.index)
    (searchable-at c.args.records.now c.args.by_height.now.items c.args.index c.requires.index c.requires.by_height)

pub fit-found-requires-clause-tall : goal.fit-found-requires-clause-tall
fit-found-requires-clause-tall c = rw (c.get-one.ensures, read-at c.args.by_height.now.items c.args.index c.get-one.result c.requires.index) c.requires.tall

pub returns-clause-value : goal.returns-clause-value
returns-clause-value c =
    c.fit-found.ensures.value
    ∙ ap (λ (one : BoundedShelf). offered c.args.records.now c.args.width c.args.height one.shelf) (c.get-one.ensures ∙ read-at c.args.by_height.now.items c.args.index c.get-one.result c.requires.index)

pub returns-clause-numbers : goal.returns-clause-numbers
returns-clause-numbers c =
    ap numbers_by_height c.set.ensures.items
    ∙ numbers-set c.args.by_height.now.items c.args.index c.fit-found.new.bounded
    (c.fit-found.ensures.shelf ∙ ap (λ (one : BoundedShelf). one.shelf) (c.get-one.ensures ∙ read-at c.args.by_height.now.items c.args.index c.get-one.result c.requires.index))

pub returns-clause-by_height : goal.returns-clause-by_height
returns-clause-by_height c =
    rw c.set.ensures.items (searchable-set c.args.records.now c.args.by_height.now.items c.args.index c.fit-found.new.bounded c.requires.by_height c.fit-found.ensures.bounded)
