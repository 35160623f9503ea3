use Rattle.bucket_index.specs.Private.Spans.{block_of}
use Rattle.std.proofs.Common.{refl}
use Rattle.bucket_index.proofs.KnownSpans.{bound-widened, raised-known}
use Rattle.bucket_index.proofs.spans.Spans.widen.Goals as goal

pub returns : goal.returns
returns c buckets narrow but =
    let one = c.args.change.now.number in
    let room = c.args.change.now.room in
    let self = c.args.self.now in
    record {
      known = record {
        small = raised-known one (block_of 1) c.block_of-small.result room self.small c.raise_span.new.spans buckets c.raise_span.ensures c.block_of-small.ensures.value narrow but.small;
        middle = raised-known one (block_of 8) c.block_of-middle.result room self.middle c.raise_span-2.new.spans buckets c.raise_span-2.ensures c.block_of-middle.ensures.value narrow but.middle;
        large = raised-known one (block_of 64) c.block_of-large.result room self.large c.raise_span-3.new.spans buckets c.raise_span-3.ensures c.block_of-large.ensures.value narrow but.large;
      };
      others = λ some. record {
        small = bound-widened one (block_of 1) c.block_of-small.result room c.span_of.result.widest_room c.span_of.result self.small c.raise_span.new.spans buckets c.raise_span.ensures c.block_of-small.ensures.value c.span_of.ensures refl but.small;
        middle = bound-widened one (block_of 8) c.block_of-middle.result room c.span_of-2.result.widest_room c.span_of-2.result self.middle c.raise_span-2.new.spans buckets c.raise_span-2.ensures c.block_of-middle.ensures.value c.span_of-2.ensures refl
            but.middle;
        large = bound-widened one (block_of 64) c.block_of-large.result room c.span_of-3.result.widest_room c.span_of-3.result self.large c.raise_span-3.new.spans buckets c.raise_span-3.ensures c.block_of-large.ensures.value c.span_of-3.ensures refl
            but.large;
      };
    }
