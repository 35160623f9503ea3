use Rattle.std.proofs.Common.{arith}
use Rattle.bucket_index.specs.Private.Spans.{block_of}
use Rattle.bucket_index.proofs.KnownSpans.{forgotten}
use Rattle.bucket_index.proofs.spans.Spans.forget.Goals as goal

pub returns : goal.returns
returns c buckets other learned =
    let number = c.args.number in
    let self = c.args.self.now in
    let others = other learned in
    record {
      known = record {
        small = forgotten number (block_of 1) c.block_of.result c.no_span.result self.small c.set_span.new.spans buckets c.set_span.ensures c.block_of.ensures.value c.no_span.ensures others.small;
        middle = forgotten number (block_of 8) c.block_of-2.result c.no_span-2.result self.middle c.set_span-2.new.spans buckets c.set_span-2.ensures c.block_of-2.ensures.value c.no_span-2.ensures others.middle;
        large = forgotten number (block_of 64) c.block_of-3.result c.no_span-3.result self.large c.set_span-3.new.spans buckets c.set_span-3.ensures c.block_of-3.ensures.value c.no_span-3.ensures others.large;
      };
      others = λ some. absurd (omega (arith, some, c.no_others-self.ensures));
    }
