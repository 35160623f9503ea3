use Rattle.shelf_records.specs.Records.{item_chain}
use Rattle.shelf_records.specs.RecordLists.{item_walk}
use Rattle.shelf_search.specs.Private.DrawnRecords.{item_line}
use Rattle.shelf_search.proofs.Recorded.DrawnWalks.{DrawsAlong}
use Rattle.shelf_search.proofs.drawing.push_items.Given as goal

-- the lines so far and those of what is left make the whole
abbrev pub invariant-loop-step : goal.invariant-loop-step
invariant-loop-step g l =
    DrawsAlong item_chain.next l.records.items (item_line l.frame l.records l.shelf) (item_walk l.records l.shelf).met (g.W.Write.contents l.fn.writer) l.fn.text (g.W.Write.contents l.writer) l.text l.at l._step
