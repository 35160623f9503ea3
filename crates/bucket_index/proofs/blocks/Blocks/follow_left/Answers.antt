use Rattle.bucket_index.proofs.blocks.Blocks.follow_left.Goals as goal

pub recount-requires-clause-fresh : goal.recount-requires-clause-fresh
recount-requires-clause-fresh c = rw (← c.first_of_block.ensures) c.counted-fresh.ensures
