use Rattle.bucket_index.proofs.NestedBlocks.{raised-small}
use Rattle.bucket_index.proofs.blocks.Blocks.raise_nested.Goals as goal

pub returns-else-not-knows_shelf : goal.returns-else-not-knows_shelf
returns-else-not-knows_shelf c =
    rw (c.raise_block.ensures, c.is_idle-is_idle.ensures) (raised-small c.args.number c.args.kept.now c.args.self.now c.requires.within c.requires.nested (c.knows_shelf.ensures c.if-not-knows_shelf.false))
