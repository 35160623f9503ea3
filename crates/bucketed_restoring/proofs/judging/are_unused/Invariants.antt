use Rattle.std.proofs.Common.{◌≡◌, drop}
use Rattle.std.specs.List.{list_all}
use Rattle.bucketed_restoring.specs.Private.Judging as spec
use Rattle.bucketed_restoring.proofs.judging.are_unused.Given as goal

-- all are where those from here on are
abbrev pub invariant-loop-number : goal.invariant-loop-number
invariant-loop-number l =
    list_all (spec.is_unused l.buckets) (drop l.number-index l.numbers) ≡ list_all (spec.is_unused l.buckets) l.numbers
