use Rattle.std.proofs.Common.{subst, sym, arith}
use Rattle.bucket_index.specs.Private.Blocks.{IsKnown, block_of}
use Rattle.bucket_index.proofs.KnownBlocks.{read-changed}
use Rattle.bucket_index.proofs.blocks.count_first.Goals as goal

pub loop-number-init : goal.loop-number-init
loop-number-init c = record { first = λ number kept block below. absurd (omega (arith, below)) }

pub loop-number-preserved : goal.loop-number-preserved
loop-number-preserved c =
    let at = c.loop-number.number in
    let fresh = c.counted-fresh.result in
    rw c.set_block.ensures (record {
      first = λ number kept block below there in_block.
          read-changed (λ _. fresh) c.loop-number.blocks at (block_of 8 number) block in_block
          (λ z stood same is. subst (IsKnown kept) (sym is) (c.counted-fresh.ensures number kept (omega (arith, same)) (omega (arith, same)) there))
          (λ apart stood. c.loop-number.invariant.first number kept block (omega (arith, below, apart)) there stood);
    })

pub returns : goal.returns
returns c = λ number kept block below there in_block. c.loop-number.invariant.first number kept block (omega (arith, below, c.loop-number-test.false)) there in_block
