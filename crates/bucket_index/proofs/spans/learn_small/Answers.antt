use Rattle.bucket_index.proofs.spans.learn_small.Goals as goal

pub loop-span-preserved : goal.loop-span-preserved
loop-span-preserved c are = c.learn_from-at.ensures (c.loop-span.invariant are)
