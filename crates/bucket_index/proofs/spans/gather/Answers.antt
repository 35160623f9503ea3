use Rattle.std.proofs.Common.{ℕ, ◌/◌, ap}
use Rattle.bucket_index.specs.Private.Spans.{whole_of}
use Rattle.bucket_index.proofs.KnownSpans.{fresh-known, spans-others}
use Rattle.bucket_index.proofs.spans.gather.Goals as goal

pub loop-span-preserved : goal.loop-span-preserved
loop-span-preserved c buckets are were =
    let numbered = whole_of c.args.scale in
    let number = c.in-Some.number in
    fresh-known number numbered (c.block_of.result / 8) c.gathered-span.result c.loop-span.wholes c.set_span.new.spans buckets c.set_span.ensures (ap (λ (part : ℕ). part / 8) c.block_of.ensures.value)
    (c.gathered-span.ensures buckets are) (spans-others number numbered c.loop-span.wholes buckets (c.loop-span.invariant buckets are were))
