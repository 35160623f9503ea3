use Rattle.bucket_index.specs.Private.Spans.{block_of}
use Rattle.bucket_index.proofs.KnownSpans.{span-widened}
use Rattle.bucket_index.proofs.spans.followed.Goals as goal

pub returns-else-narrows : goal.returns-else-narrows
returns-else-narrows c block is =
    rw c.widened.ensures (span-widened c.args.change.now.number (block_of 1) block c.args.change.now.room c.args.span c.args.buckets.now c.requires.room is)
