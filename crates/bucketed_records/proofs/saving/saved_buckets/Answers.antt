use Rattle.std.proofs.Common.{◌∙◌, ap, map}
use Rattle.std.proofs.lemmas.List.{take_all}
use Rattle.bucketed_records.specs.Restoring.{linked_bucket}
use Rattle.bucketed_records.proofs.Saved.{saved-next}
use Rattle.bucketed_records.proofs.saving.saved_buckets.Goals as goal

pub loop-bucket-init : goal.loop-bucket-init
loop-bucket-init c = ap (map linked_bucket) c.in_ok-saved.ensures.items

pub loop-bucket-preserved : goal.loop-bucket-preserved
loop-bucket-preserved c =
    ap (map linked_bucket) c.in_ok-push.ensures.items
    ∙ saved-next linked_bucket c.loop-bucket.saved.items c.args.buckets.now c.loop-bucket.bucket-index c.saved_bucket.result c.bucket-item.result c.loop-bucket-test.true c.bucket-item.is c.saved_bucket.ensures c.loop-bucket.invariant

pub returns : goal.returns
returns c = c.loop-bucket.invariant ∙ take_all c.loop-bucket.bucket-index c.args.buckets.now c.loop-bucket-test.false
