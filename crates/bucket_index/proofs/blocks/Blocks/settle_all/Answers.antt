use Rattle.std.proofs.Common.{length, arith, subst, sym}
use Rattle.bucket_index.specs.declared.blocks.Blocks.{Blocks}
use Rattle.bucket_index.specs.Private.Blocks.{AreKnown}
use Rattle.bucket_index.proofs.KnownBlocks.{known-except, known-past}
use Rattle.bucket_index.proofs.OtherShelves.{known-put-off}
use Rattle.bucket_index.proofs.blocks.Blocks.settle_all.Goals as goal
use Rattle.bucket_index.proofs.blocks.Blocks.settle_all.Goals.{then-self+else-not-is_due, else-self}

pub settle_beside-requires : goal.settle_beside-requires
settle_beside-requires c = record { others = known-except (length c.args.shelves.now) c.args.self.now c.args.shelves.now c.requires }

pub returns-then-not-is_due : goal.returns-then-not-is_due
returns-then-not-is_due c =
    known-put-off (λ number. Unit {0}) c.is_due.new.self c.settle_beside.new.self c.args.shelves.now
    (known-past (length c.args.shelves.now) c.settle_beside.new.self c.args.shelves.now (omega arith) c.settle_beside.ensures.others)

pub lower_left-requires : goal.lower_left-requires
lower_left-requires c =
    let shelves = c.args.shelves.now in
    elim c.if-self.branch [
      | then-self+else-not-is_due w ↦
          subst (λ (blocks : Blocks). AreKnown blocks shelves) (sym w.self-is)
          (known-put-off (λ number. Unit {0}) w.is_due.new.self w.settle_beside.new.self shelves
          (known-past (length shelves) w.settle_beside.new.self shelves (omega arith) w.settle_beside.ensures.others))
      | else-self w ↦ subst (λ (blocks : Blocks). AreKnown blocks shelves) (sym w.self-is) c.requires
    ]
