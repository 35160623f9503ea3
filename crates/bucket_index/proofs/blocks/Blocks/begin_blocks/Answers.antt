use Rattle.bucket_index.proofs.NestedBlocks.{known-begun}
use Rattle.bucket_index.proofs.blocks.Blocks.begin_blocks.Goals as goal

pub returns-then-last-lt-MOST_SHELVES-clause-others : goal.returns-then-last-lt-MOST_SHELVES-clause-others
returns-then-last-lt-MOST_SHELVES-clause-others c =
    rw c.begin_small.ensures (record {
      counted = λ _.
          known-begun c.args.last c.args.self.now c.args.shelves.now c.requires.last c.if-last-self.true c.if-last-lt-MOST_SHELVES.true (c.requires.others.counted c.requires.counted);
      steps = c.requires.others.steps;
    })
