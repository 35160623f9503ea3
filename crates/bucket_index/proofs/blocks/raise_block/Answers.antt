use Rattle.std.proofs.Common.{Some, false, refl}
use Rattle.etagere_links.proofs.EditLemmas.{set-changed, changed_by-past}
use Rattle.bucket_index.specs.Private.Blocks.{Block, raised_block}
use Rattle.bucket_index.proofs.blocks.raise_block.Goals as goal

-- what a block is that is not there
abbrev none : Block
none = record { widest_room = 0; has_idle = false }

pub returns-then-number-blocks : goal.returns-then-number-blocks
returns-then-number-blocks c = rw c.max-block.ensures (set-changed (raised_block c.args.room c.args.is_idle) c.args.blocks.now c.args.number none c.if-number-blocks.true)

pub returns-else-number-blocks : goal.returns-else-number-blocks
returns-else-number-blocks c = changed_by-past (raised_block c.args.room c.args.is_idle) c.args.blocks.now (Some c.args.number) c.args.number refl c.if-number-blocks.false
