use Rattle.std.proofs.Common.{◌≡◌, map, take}
use Rattle.bucketed_records.specs.Private.Store.{shelf_record}
use Rattle.bucketed_records.specs.Restoring as spec
use Rattle.bucketed_records.proofs.saving.saved_shelves.Given as goal

-- what is saved so far stands for the shelves so far
abbrev pub invariant-loop-kept : goal.invariant-loop-kept
invariant-loop-kept l = map spec.linked_shelf l.saved.items ≡ take l.kept-index (map shelf_record l.shelves)
