use Rattle.bucket_index.proofs.KnownBlocks.{known-past}
use Rattle.bucket_index.proofs.blocks.Blocks.follow_dropped.Goals as goal

pub returns-else-number-shelves : goal.returns-else-number-shelves
returns-else-number-shelves c = known-past c.args.number c.args.self.now c.args.shelves.now c.if-number-shelves.false c.requires
