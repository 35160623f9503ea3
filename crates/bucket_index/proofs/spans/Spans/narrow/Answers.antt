use Rattle.std.proofs.Common.{◌≡◌, ℕ, List, Some, ap, sym, ◌∙◌, arith}
use Rattle.etagere_links.specs.Edits.{changed_by}
use Rattle.bucketed_records.specs.declared.records.LinkedBucket.{LinkedBucket}
use Rattle.bucket_index.specs.Private.Spans.{AreSpansExceptOf, AreSpansOf, IsKnownSpan, IsKnownSpanExcept, Span, block_of, span_of}
use Rattle.bucket_index.proofs.KnownSpans.{but-others, fresh-known, large-wholes, middle-wholes, raised-known, span-of-except, wholes-large-except, wholes-middle-except}
use Rattle.bucket_index.proofs.spans.Spans.narrow.Goals as goal

-- small blocks are known with the one of the record
small : (number block other : ℕ) (before fresh : Span) (spans news : List Span) (buckets : List LinkedBucket) → news ≡ changed_by (Some other) (λ _. fresh) spans → block ≡ block_of 1 number → other ≡ block_of 1 number → before ≡ span_of spans block
    → ((k : ℕ) → IsKnownSpanExcept number (block_of 1) k before buckets → IsKnownSpan (block_of 1) k fresh buckets) → AreSpansExceptOf number (block_of 1) spans buckets → AreSpansOf (block_of 1) news buckets
small number block other before fresh spans news buckets set_ here there read follows but =
    let is : span_of spans (block_of 1 number) ≡ before = ap (span_of spans) (sym here) ∙ sym read in
    fresh-known number (block_of 1) other fresh spans news buckets set_ there (follows (block_of 1 number) (span-of-except number (block_of 1) spans (block_of 1 number) before buckets is but)) (but-others number (block_of 1) spans buckets but)

pub returns-then-change-small : goal.returns-then-change-small
returns-then-change-small c =
    let number = c.args.change.now.number in
    let room = c.args.change.now.room in
    let self = c.args.self.now in
    let buckets = c.args.buckets.now in
    let small_ = small number c.block_of.result c.block_of-2.result c.span_of-before.result c.followed-small.result self.small c.set_span.new.spans buckets c.set_span.ensures c.block_of.ensures.value c.block_of-2.ensures.value
    c.span_of-before.ensures c.followed-small.ensures c.requires.others.small in
    record {
      known = record {
        small = small_;
        middle = raised-known number (block_of 8) c.block_of-then-change-small.result room self.middle c.raise_span.new.spans buckets c.raise_span.ensures c.block_of-then-change-small.ensures.value c.requires.room c.requires.others.middle;
        large = raised-known number (block_of 64) c.block_of-then-change-small-2.result room self.large c.raise_span-then-change-small.new.spans buckets c.raise_span-then-change-small.ensures c.block_of-then-change-small-2.ensures.value c.requires.room
            c.requires.others.large;
      };
      others = λ some. absurd (omega (arith, some, c.no_others-self.ensures));
    }

pub returns-then-change-middle : goal.returns-then-change-middle
returns-then-change-middle c =
    let number = c.args.change.now.number in
    let room = c.args.change.now.room in
    let self = c.args.self.now in
    let buckets = c.args.buckets.now in
    let small_ = small number c.block_of.result c.block_of-2.result c.span_of-before.result c.followed-small.result self.small c.set_span.new.spans buckets c.set_span.ensures c.block_of.ensures.value c.block_of-2.ensures.value
    c.span_of-before.ensures c.followed-small.ensures c.requires.others.small in
    let middle = middle-wholes c.gather_again-middle.new.wholes buckets (c.gather_again-middle.ensures buckets small_ (wholes-middle-except number self.middle buckets c.requires.others.middle)) in
    record {
      known = record {
        small = small_;
        middle = middle;
        large = raised-known number (block_of 64) c.block_of-then-change-middle.result room self.large c.raise_span-then-change-middle.new.spans buckets c.raise_span-then-change-middle.ensures c.block_of-then-change-middle.ensures.value c.requires.room
            c.requires.others.large;
      };
      others = λ some. absurd (omega (arith, some, c.no_others-self.ensures));
    }

pub returns-else-change-middle : goal.returns-else-change-middle
returns-else-change-middle c =
    let number = c.args.change.now.number in
    let self = c.args.self.now in
    let buckets = c.args.buckets.now in
    let small_ = small number c.block_of.result c.block_of-2.result c.span_of-before.result c.followed-small.result self.small c.set_span.new.spans buckets c.set_span.ensures c.block_of.ensures.value c.block_of-2.ensures.value
    c.span_of-before.ensures c.followed-small.ensures c.requires.others.small in
    let middle = middle-wholes c.gather_again-middle.new.wholes buckets (c.gather_again-middle.ensures buckets small_ (wholes-middle-except number self.middle buckets c.requires.others.middle)) in
    record {
      known = record {
        small = small_;
        middle = middle;
        large = large-wholes c.gather_again.new.wholes buckets (c.gather_again.ensures buckets middle (wholes-large-except number self.large buckets c.requires.others.large));
      };
      others = λ some. absurd (omega (arith, some, c.no_others-self.ensures));
    }
