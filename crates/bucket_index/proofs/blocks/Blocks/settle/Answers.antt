use Rattle.std.proofs.Common.{subst, sym}
use Rattle.bucket_index.specs.declared.blocks.Blocks.{Blocks}
use Rattle.bucket_index.specs.Private.Blocks.{AreKnown}
use Rattle.bucket_index.proofs.OtherShelves.{known-put-off}
use Rattle.bucket_index.proofs.blocks.Blocks.settle.Goals as goal
use Rattle.bucket_index.proofs.blocks.Blocks.settle.Goals.{then-self-via-then-self, then-self-via-else-self+then-is_due}

pub settle_all-requires : goal.settle_all-requires
settle_all-requires c =
    let shelves = c.args.shelves.now in
    elim c.then-self.branch [
      | then-self-via-then-self w ↦ subst (λ (blocks : Blocks). AreKnown blocks shelves) (sym w.self-is) c.requires
      | then-self-via-else-self+then-is_due w ↦
          subst (λ (blocks : Blocks). AreKnown blocks shelves) (sym w.self-is)
          (known-put-off (λ number. Unit {0}) w.is_due.new.self c.args.self.now shelves c.requires)
    ]

pub returns-else-is_due : goal.returns-else-is_due
returns-else-is_due c = known-put-off (λ number. Unit {0}) c.is_due.new.self c.args.self.now c.args.shelves.now c.requires
