use Rattle.std.proofs.Common.{subst}
use Rattle.bucket_index.specs.Private.Blocks.{AreKnown}
use Rattle.bucket_index.specs.Private.Heights.{AreBelow}
use Rattle.bucketed_store.proofs.store.Store.of_records.Goals as goal

pub invariant_of-result : goal.invariant_of-result
invariant_of-result c = (subst (AreKnown c.of-blocks.result) c.deref.ensures.value c.of-blocks.ensures, c.new.ensures c.args.buckets.items, c.none.ensures c.args.buckets.items, c.uncounted.ensures c.args.buckets.items, subst (AreBelow c.of-heights.result) c.deref-2.ensures.value c.of-heights.ensures, c.none-2.ensures _)
