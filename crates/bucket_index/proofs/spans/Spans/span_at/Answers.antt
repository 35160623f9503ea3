use Rattle.std.proofs.Common.{sym}
use Rattle.bucket_index.specs.Private.Spans.{block_of}
use Rattle.bucket_index.proofs.KnownSpans.{span-of}
use Rattle.bucket_index.proofs.spans.Spans.span_at.Goals as goal

pub returns-then-begins_with : goal.returns-then-begins_with
returns-then-begins_with c buckets known = record {
  numbered = block_of 64;
  block = c.block_of.result;
  known = span-of (block_of 64) c.args.self.now.large c.block_of.result c.span_of-large.result buckets (sym c.span_of-large.ensures) known.large;
}

pub returns-then-begins_with-2 : goal.returns-then-begins_with-2
returns-then-begins_with-2 c buckets known = record {
  numbered = block_of 8;
  block = c.block_of-2.result;
  known = span-of (block_of 8) c.args.self.now.middle c.block_of-2.result c.span_of-middle.result buckets (sym c.span_of-middle.ensures) known.middle;
}

pub returns : goal.returns
returns c buckets known = record {
  numbered = block_of 1;
  block = c.block_of-3.result;
  known = span-of (block_of 1) c.args.self.now.small c.block_of-3.result c.span_of.result buckets (sym c.span_of.ensures) known.small;
}
