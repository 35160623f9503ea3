use Rattle.std.proofs.Common.{◌≡◌, ◌++◌, drop}
use Rattle.std.specs.List.{AllByRecursion}
use Rattle.bucketed_records.specs.declared.records.LinkedBucket.{LinkedBucket}
use Rattle.bucketed_records.specs.Private.Restored.{LinkFits}
use Rattle.bucketed_restoring.specs.Private.Walking.{links_of}
use Rattle.bucketed_restoring.proofs.walking.links_of.Given as goal

-- the links so far and those from here on are all, and all fit where those from here on do
abbrev pub invariant-loop-bucket : goal.invariant-loop-bucket
invariant-loop-bucket l =
    (l.links.items ++ links_of (drop l.bucket-index l.buckets) ≡ links_of l.buckets)
    × (AllByRecursion (λ (bucket : LinkedBucket). LinkFits bucket.next) (drop l.bucket-index l.buckets)
    → AllByRecursion (λ (bucket : LinkedBucket). LinkFits bucket.next) l.buckets)
