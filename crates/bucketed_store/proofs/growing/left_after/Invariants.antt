use Rattle.std.proofs.Common.{◌≡◌, drop}
use Rattle.bucketed_store.specs.Private.Grows as spec
use Rattle.bucketed_store.proofs.growing.left_after.Given as goal

-- what the shelves from here on leave is what all leave
abbrev pub invariant-loop-kept : goal.invariant-loop-kept
invariant-loop-kept l = spec.left_after l.added l.left (drop l.kept-index l.shelves) ≡ spec.left_after l.added l.fn.left l.shelves
