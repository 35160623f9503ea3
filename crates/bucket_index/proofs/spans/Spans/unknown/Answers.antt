use Rattle.bucket_index.specs.Private.Spans.{block_of}
use Rattle.bucket_index.proofs.KnownSpans.{no-spans}
use Rattle.bucket_index.proofs.spans.Spans.unknown.Goals as goal

pub returns : goal.returns
returns c buckets = rw c.no_span-none.ensures (record { small = no-spans (block_of 1) 512 buckets; middle = no-spans (block_of 8) 64 buckets; large = no-spans (block_of 64) 8 buckets })
