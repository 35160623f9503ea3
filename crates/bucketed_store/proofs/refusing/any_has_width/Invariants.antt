use Rattle.std.proofs.Common.{◌≡◌, drop}
use Rattle.std.specs.List.{list_any}
use Rattle.bucketed_store.specs.Private.Refusals.{kept_has_width}
use Rattle.bucketed_store.proofs.refusing.any_has_width.Given as goal

-- one of all has the width where one from here on has it
abbrev pub invariant-loop-kept : goal.invariant-loop-kept
invariant-loop-kept l =
    list_any (kept_has_width l.sides l.buckets) (drop l.kept-index l.shelves) ≡ list_any (kept_has_width l.sides l.buckets) l.shelves
