use Rattle.std.proofs.Common.{rules}
use Rattle.bucket_index.proofs.NestedBlocks.{known-counted}
use Rattle.bucket_index.proofs.blocks.Blocks.count.Goals as goal

pub returns : goal.returns
returns c =
    rw (c.set_block-2.ensures, c.set_block.ensures) (record {
      counted = λ _.
          known-counted c.gathered-all.result c.args.self.now c.count_first.new.blocks c.args.shelves.now (search rules) (search rules) (search rules) c.requires.few c.count_first.ensures c.gathered-all.ensures;
      steps = c.requires.steps;
    })
