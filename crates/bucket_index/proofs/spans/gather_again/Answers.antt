use Rattle.std.proofs.Common.{◌≡◌, ℕ, ◌/◌, ap, sym, ◌∙◌}
use Rattle.bucket_index.specs.Private.Spans.{span_of, whole_of}
use Rattle.bucket_index.proofs.KnownSpans.{but-others, fresh-known, span-of-except}
use Rattle.bucket_index.proofs.spans.gather_again.Goals as goal

pub returns : goal.returns
returns c buckets are but =
    let numbered = whole_of c.args.scale in
    let number = c.args.number in
    let wholes = c.args.wholes.now in
    let whole : c.block_of-whole.result / 8 ≡ numbered number = ap (λ (part : ℕ). part / 8) c.block_of-whole.ensures.value in
    let is : span_of wholes (numbered number) ≡ c.span_of-span.result = ap (span_of wholes) (sym whole) ∙ sym c.span_of-span.ensures in
    fresh-known number numbered (c.block_of-whole.result / 8) c.gathered_again-fresh.result wholes c.set_span.new.spans buckets c.set_span.ensures whole
    (c.gathered_again-fresh.ensures number (numbered number) buckets are (span-of-except number numbered wholes (numbered number) c.span_of-span.result buckets is but))
    (but-others number numbered wholes buckets but)
