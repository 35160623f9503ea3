use Rattle.shelf_records.specs.RecordLists.{shelf_walk}
use Rattle.shelf_records.specs.Records.{shelf_chain}
use Rattle.shelf_model.specs.Widest.{greatest}
use Rattle.shelf_search.specs.Private.Asking.{widest_at}
use Rattle.shelf_search.proofs.Searched.PassedWalks.{Passes}
use Rattle.shelf_search.proofs.asking.widest_free.Given as goal

-- the widest so far is that of the shelves that were passed
abbrev pub invariant-loop-step : goal.invariant-loop-step
invariant-loop-step l =
    Passes shelf_chain.next l.records.shelves (shelf_walk l.records).met (greatest (widest_at l.records l.height)) l.widest l.at l._step
