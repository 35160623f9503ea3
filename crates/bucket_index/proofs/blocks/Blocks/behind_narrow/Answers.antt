use Rattle.std.proofs.Common.{refl, arith, sym, ◌∙◌}
use Rattle.bucket_index.specs.Private.Blocks.{block_of}
use Rattle.bucket_index.proofs.KnownBlocks.{narrow-of}
use Rattle.bucket_index.proofs.blocks.Blocks.behind_narrow.Goals as goal

pub returns-then-may_give-2-clause-narrow : goal.returns-then-may_give-2-clause-narrow
returns-then-may_give-2-clause-narrow c shelves known number kept low high at =
    narrow-of 8 c.args.width (block_of 8 number) c.args.self.now.small shelves (known.counted c.requires.counted).each.small (c.behind_narrow_small.ensures.narrow (block_of 8 number) (omega (arith, low)) (omega (arith, high))) number kept refl at

pub returns-then-may_give-3-clause-narrow : goal.returns-then-may_give-3-clause-narrow
returns-then-may_give-3-clause-narrow c shelves known number kept low high at =
    narrow-of 64 c.args.width (block_of 64 c.args.from) c.args.self.now.middle shelves (known.counted c.requires.counted).each.middle (sym c.may_give-else-may_give.ensures ∙ c.if-may_give-2.false) number kept (omega (arith, low, high, c.end_of.ensures)) at

pub returns-else-may_give-3-clause-narrow : goal.returns-else-may_give-3-clause-narrow
returns-else-may_give-3-clause-narrow c shelves known number kept low high at =
    narrow-of 512 c.args.width (block_of 512 c.args.from) c.args.self.now.large shelves (known.counted c.requires.counted).each.large (sym c.may_give-else-may_give-2.ensures ∙ c.if-may_give-3.false) number kept (omega (arith, low, high, c.end_of-else-may_give-3.ensures)) at
