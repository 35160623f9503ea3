use Rattle.std.proofs.Common.{ap, arith, sym, ◌∙◌}
use Rattle.shelf_search.specs.Private.Searching.{list_follows}
use Rattle.etagere_base.proofs.FrameSides.{column_width-le, sides_low}
use Rattle.shelf_search.proofs.ByHeight.BestByHeight.{best-by-height}
use Rattle.shelf_search.proofs.ByHeight.SearchableShelves.{kept-whole, by_height-ordered, by_height-searchable, searchable-by_height}
use Rattle.shelf_records.proofs.Spelled.StandsKept.{witnesses}
use Rattle.shelf_search.proofs.choosing.lowest_ranked.Goals as goal

pub best_candidate-requires-clause-order : goal.best_candidate-requires-clause-order
best_candidate-requires-clause-order c = by_height-ordered c.args.frame.now c.args.records.now c.requires.kept c.args.width c.args.by_height.now.items (c.requires.by_height (ap list_follows c.in-NotThrough.is))

pub best_candidate-requires-clause-by_height : goal.best_candidate-requires-clause-by_height
best_candidate-requires-clause-by_height c = by_height-searchable c.args.frame.now c.args.records.now c.requires.kept c.args.width c.args.by_height.now.items (c.requires.by_height (ap list_follows c.in-NotThrough.is))

pub best_candidate-requires-clause-whole : goal.best_candidate-requires-clause-whole
best_candidate-requires-clause-whole c = kept-whole c.args.frame.now c.args.records.now c.requires.kept

pub best_candidate-requires-clause-column : goal.best_candidate-requires-clause-column
best_candidate-requires-clause-column c =
    let frame = c.args.frame.now in
    ((witnesses c.requires.kept).valid.frame.column_width, omega (arith, column_width-le 65535 frame (witnesses c.requires.kept).valid.frame, (sides_low 65535 frame (witnesses c.requires.kept).valid.frame).0))

pub best_candidate-requires-clause-linked : goal.best_candidate-requires-clause-linked
best_candidate-requires-clause-linked c = (witnesses c.requires.kept).linked

pub best_candidate-requires-clause-best : goal.best_candidate-requires-clause-best
best_candidate-requires-clause-best c =
    best-by-height c.args.frame.now c.args.records.now c.args.by_height.now.items c.args.width c.args.height c.requires.wide c.requires.kept (c.requires.by_height (ap list_follows c.in-NotThrough.is))

pub returns-in-NotThrough-clause-value : goal.returns-in-NotThrough-clause-value
returns-in-NotThrough-clause-value c =
    c.best_candidate.ensures.value
    ∙ sym (best-by-height c.args.frame.now c.args.records.now c.args.by_height.now.items c.args.width c.args.height c.requires.wide c.requires.kept (c.requires.by_height (ap list_follows c.in-NotThrough.is)))

pub returns-in-NotThrough-clause-by_height : goal.returns-in-NotThrough-clause-by_height
returns-in-NotThrough-clause-by_height c = λ _.
    searchable-by_height c.args.frame.now c.args.records.now c.requires.kept c.args.width c.args.by_height.now.items c.best_candidate.new.by_height.items
    (c.requires.by_height (ap list_follows c.in-NotThrough.is)) c.best_candidate.ensures.numbers c.best_candidate.ensures.by_height
