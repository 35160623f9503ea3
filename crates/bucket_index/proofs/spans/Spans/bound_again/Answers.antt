use Rattle.std.proofs.Common.{◌≡◌, ℕ, ap, subst, sym, ◌∙◌, arith}
use Rattle.bucket_index.specs.Private.Spans.{IsBoundOf, block_of}
use Rattle.bucket_index.proofs.KnownSpans.{bound-kept, bounded-known}
use Rattle.bucket_index.proofs.spans.Spans.bound_again.Goals as goal

pub returns : goal.returns
returns c buckets narrow but others =
    let one = c.args.number in
    let room = c.args.room in
    let self = c.args.self.now in
    let last = self.others.number in
    let bounds = others (omega (arith, c.requires.last, c.requires.some)) in
    let small : IsBoundOf (block_of 1) self.others.small one self.small buckets = subst (λ (k : ℕ). IsBoundOf (block_of 1) self.others.small k self.small buckets) c.requires.last bounds.small in
    let middle : IsBoundOf (block_of 8) self.others.middle one self.middle buckets = subst (λ (k : ℕ). IsBoundOf (block_of 8) self.others.middle k self.middle buckets) c.requires.last bounds.middle in
    let large : IsBoundOf (block_of 64) self.others.large one self.large buckets = subst (λ (k : ℕ). IsBoundOf (block_of 64) self.others.large k self.large buckets) c.requires.last bounds.large in
    let same : (scale block : ℕ) → block ≡ block_of scale one → block ≡ block_of scale last = λ scale block is. is ∙ ap (block_of scale) (sym c.requires.last) in
    record {
      known = record {
        small = bounded-known one (block_of 1) c.block_of.result self.others.small room c.max-small.result self.small c.bound_span.new.spans buckets c.bound_span.ensures c.block_of.ensures.value c.max-small.ensures narrow but.small small;
        middle = bounded-known one (block_of 8) c.block_of-2.result self.others.middle room c.max-middle.result self.middle c.bound_span-2.new.spans buckets c.bound_span-2.ensures c.block_of-2.ensures.value c.max-middle.ensures narrow but.middle
            middle;
        large = bounded-known one (block_of 64) c.block_of-3.result self.others.large room c.max-large.result self.large c.bound_span-3.new.spans buckets c.bound_span-3.ensures c.block_of-3.ensures.value c.max-large.ensures narrow but.large large;
      };
      others = λ some. record {
        small = bound-kept last (block_of 1) c.block_of.result self.others.small c.max-small.result self.small c.bound_span.new.spans buckets c.bound_span.ensures (same 1 c.block_of.result c.block_of.ensures.value) bounds.small;
        middle = bound-kept last (block_of 8) c.block_of-2.result self.others.middle c.max-middle.result self.middle c.bound_span-2.new.spans buckets c.bound_span-2.ensures (same 8 c.block_of-2.result c.block_of-2.ensures.value) bounds.middle;
        large = bound-kept last (block_of 64) c.block_of-3.result self.others.large c.max-large.result self.large c.bound_span-3.new.spans buckets c.bound_span-3.ensures (same 64 c.block_of-3.result c.block_of-3.ensures.value) bounds.large;
      };
    }
