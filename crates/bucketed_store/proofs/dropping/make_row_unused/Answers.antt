use Rattle.bucket_index.proofs.KnownSpans.{spans-changed}
use Rattle.bucketed_store.specs.Private.Returns as spec
use Rattle.bucketed_store.proofs.dropping.make_row_unused.Goals as goal

pub returns-clause-spans : goal.returns-clause-spans
returns-clause-spans c =
    c.forget.ensures c.link_to.new.buckets (rw c.link_to.ensures (spans-changed c.row_end-end.result.last (spec.linked_to c.args.unused.now) c.args.spans.now c.args.buckets.now c.requires.spans))
