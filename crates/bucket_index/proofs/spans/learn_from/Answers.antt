use Rattle.bucket_index.specs.Private.Spans.{block_of}
use Rattle.bucket_index.proofs.KnownSpans.{fresh-known, spans-others}
use Rattle.bucket_index.proofs.spans.learn_from.Goals as goal

pub returns : goal.returns
returns c are =
    fresh-known c.args.number (block_of 1) c.block_of-block.result c.span_from-span.result c.args.spans.now c.set_span.new.spans c.args.buckets.now c.set_span.ensures c.block_of-block.ensures.value
    (λ _. c.span_from-span.ensures) (spans-others c.args.number (block_of 1) c.args.spans.now c.args.buckets.now are)
