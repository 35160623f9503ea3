use Rattle.std.proofs.Common.{◌*◌}
use Rattle.bucket_index.proofs.KnownBlocks.{known-except}
use Rattle.bucket_index.proofs.blocks.Blocks.lower_block.Goals as goal

pub recount-requires-clause-fresh : goal.recount-requires-clause-fresh
recount-requires-clause-fresh c = rw (← c.first_of_block.ensures) c.counted-fresh.ensures

pub recount-requires-clause-others : goal.recount-requires-clause-others
recount-requires-clause-others c = known-except (c.min-number.result * 8) c.args.self.now c.args.shelves.now c.requires
