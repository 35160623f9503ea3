use Rattle.shelf_records.specs.Records.{shelf_chain}
use Rattle.shelf_records.specs.RecordLists.{shelf_walk}
use Rattle.shelf_search.specs.Private.DrawnRecords.{shelf_lines}
use Rattle.shelf_search.proofs.Recorded.DrawnWalks.{DrawsAlong}
use Rattle.shelf_search.proofs.drawing.push_shelves.Given as goal

-- the lines so far and those of what is left make the whole
abbrev pub invariant-loop-step : goal.invariant-loop-step
invariant-loop-step g l =
    DrawsAlong shelf_chain.next l.records.shelves (shelf_lines l.frame l.records) (shelf_walk l.records).met (g.W.Write.contents l.fn.writer) l.fn.text (g.W.Write.contents l.writer) l.text l.at l._step
