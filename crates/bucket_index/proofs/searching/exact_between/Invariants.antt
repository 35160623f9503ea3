use Rattle.std.proofs.Common.{◌≡◌, drop}
use Rattle.bucket_index.specs.Private.Searching.{exact_from}
use Rattle.bucket_index.proofs.searching.exact_between.Given as goal

-- what is sought from the first shelf on is what is sought from here on
abbrev pub invariant-loop-number : goal.invariant-loop-number
invariant-loop-number l =
    exact_from l.sides l.buckets l.number (drop l.number l.shelves) ≡ exact_from l.sides l.buckets l.from (drop l.from l.shelves)
