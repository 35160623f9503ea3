use Rattle.std.proofs.Common.{◌≡◌, length, map, take, vec_capacity}
use Rattle.bucketed_records.specs.Restoring as spec
use Rattle.bucketed_records.proofs.saving.linked_buckets.Given as goal

abbrev pub invariant-loop-bucket : goal.invariant-loop-bucket
invariant-loop-bucket l = record {
  so_far : l.linked.items ≡ map spec.linked_bucket (take l.bucket-index l.fn.buckets);
  capacity : vec_capacity l.linked ≡ length l.fn.buckets;
}
