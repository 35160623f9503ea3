use Rattle.shelf_records.specs.RecordLists.{shelf_walk}
use Rattle.shelf_records.specs.Records.{shelf_chain}
use Rattle.shelf_search.specs.Private.Asking.{tally_of}
use Rattle.shelf_search.proofs.Searched.PassedWalks.{Passes}
use Rattle.shelf_search.proofs.tallying.tallied.Given as goal

-- what was counted is what was passed
abbrev pub invariant-loop-step : goal.invariant-loop-step
invariant-loop-step l =
    Passes shelf_chain.next l.records.shelves (shelf_walk l.records).met (tally_of l.records) l.tally l.at l._step
