use Rattle.std.proofs.Common.{◌≡◌, drop}
use Rattle.std.specs.List.{list_all}
use Rattle.bucketed_store.specs.Private.Placing.{is_kept_idle_in}
use Rattle.bucketed_store.proofs.merging.are_idle_in.Given as goal

-- all are where those from here on are
abbrev pub invariant-loop-kept : goal.invariant-loop-kept
invariant-loop-kept l =
    list_all (is_kept_idle_in l.x) (drop l.kept-index l.shelves) ≡ list_all (is_kept_idle_in l.x) l.shelves
