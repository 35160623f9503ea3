use Rattle.bucket_index.proofs.OtherShelves.{known-put-off}
use Rattle.bucket_index.proofs.blocks.Blocks.lower_left.Goals as goal

pub lower_block-requires : goal.lower_block-requires
lower_block-requires c = known-put-off (λ number. Unit {0}) _ c.args.self.now c.args.shelves.now c.requires
