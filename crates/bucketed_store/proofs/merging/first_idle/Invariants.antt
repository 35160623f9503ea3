use Rattle.bucketed_store.specs.Private.Placing.{AreBusyBefore}
use Rattle.bucketed_store.proofs.merging.first_idle.Given as goal

-- each shelf before this one holds something live
abbrev pub invariant-loop-number : goal.invariant-loop-number
invariant-loop-number l = AreBusyBefore l.number l.shelves
