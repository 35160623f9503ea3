use Rattle.std.proofs.Common.{◌≡◌, map, take}
use Rattle.bucketed_records.specs.Restoring as spec
use Rattle.bucketed_records.proofs.saving.saved_buckets.Given as goal

-- what is saved so far stands for the buckets so far
abbrev pub invariant-loop-bucket : goal.invariant-loop-bucket
invariant-loop-bucket l = map spec.linked_bucket l.saved.items ≡ take l.bucket-index l.buckets
