use Rattle.std.proofs.Common.{ap, ◌∙◌, arith, ◌<◌}
use Rattle.etagere_links.specs.Links.{no_link}
use Rattle.bucket_index.specs.Private.Spans.{block_of}
use Rattle.bucket_index.proofs.KnownSpans.{but-first, known-block}
use Rattle.bucket_index.proofs.spans.recounted.Goals as goal

pub returns : goal.returns
returns c one block but known =
    let begun : c.args.span.first < no_link = omega (arith, c.if-span-eq65535.false, c.if-first-buckets.false) in
    let begins = but-first one (block_of 1) block c.args.span c.args.buckets.now (but begun) in
    known-block (block_of 1) (block_of 1 c.from-first.result) block c.span_from.result c.args.buckets.now (ap (block_of 1) c.from-first.ensures ∙ begins.1) (λ _. c.span_from.ensures) known
