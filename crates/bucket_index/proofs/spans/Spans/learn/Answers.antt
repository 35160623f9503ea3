use Rattle.std.proofs.Common.{arith}
use Rattle.bucket_index.proofs.KnownSpans.{large-wholes, middle-wholes, wholes-large, wholes-middle}
use Rattle.bucket_index.proofs.spans.Spans.learn.Goals as goal

pub returns : goal.returns
returns c learned =
    let buckets = c.args.buckets.now in
    let known = c.begin_to_learn.ensures buckets c.requires in
    let begun = c.begin_to_learn.new.self in
    let small = c.learn_small.ensures known.small in
    let middle = middle-wholes c.gather.new.wholes buckets (c.gather.ensures buckets small (wholes-middle begun.middle buckets known.middle)) in
    record {
      known = record {
        small = small;
        middle = middle;
        large = large-wholes c.gather-2.new.wholes buckets (c.gather-2.ensures buckets middle (wholes-large begun.large buckets known.large));
      };
      others = λ some. absurd (omega (arith, some, c.no_others-self.ensures));
    }
