use Rattle.std.proofs.Common.{◌≡◌, max}
use Rattle.bucket_index.specs.Private.Rest.{few_of, latest, widest_of}
use Rattle.bucket_index.proofs.rest.Rest.widest_of_few.Given as goal

-- the widest of all is that of those seen so far and of the others
abbrev pub invariant-loop-left : goal.invariant-loop-left
invariant-loop-left l = max l.widest (widest_of (latest l.left l.self.former.numbers) l.buckets) ≡ widest_of (few_of l.self) l.buckets

-- fewer are left at each step
abbrev pub decreases-loop-left : goal.decreases-loop-left
decreases-loop-left l = l.left
