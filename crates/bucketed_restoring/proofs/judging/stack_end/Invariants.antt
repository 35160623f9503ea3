use Rattle.std.proofs.Common.{◌≡◌, ◌<◌, ◌^◌, drop}
use Rattle.bucketed_restoring.specs.Private.Judging as spec
use Rattle.bucketed_restoring.proofs.judging.stack_end.Given as goal

-- where the shelves from here on end, all end
abbrev pub invariant-loop-shelf : goal.invariant-loop-shelf
invariant-loop-shelf l =
    (spec.stack_end l.frame l.stack (drop l.shelf-index l.shelves)
    ≡ spec.stack_end l.frame (record { opened = 0; height = 0 }) l.shelves)
    × (l.stack.height < 2 ^ 16)
