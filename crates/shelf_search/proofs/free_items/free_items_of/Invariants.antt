use Rattle.shelf_records.specs.RecordLists.{free_walk}
use Rattle.shelf_records.specs.Records.{free_list}
use Rattle.shelf_search.specs.Private.Asking.{free_items_at}
use Rattle.shelf_search.proofs.Searched.PassedWalks.{Passes}
use Rattle.shelf_search.proofs.free_items.free_items_of.Given as goal

-- what was counted is what was passed of the free list
abbrev pub invariant-loop-step : goal.invariant-loop-step
invariant-loop-step l =
    Passes free_list.next l.records.items (free_walk l.records l.shelf).met (free_items_at l.records.items) (record { count = l.count; widest = l.widest }) l.at l._step
