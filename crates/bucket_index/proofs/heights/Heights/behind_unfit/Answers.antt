use Rattle.std.proofs.Common.{arith}
use Rattle.bucket_index.specs.Private.Heights.{block_of}
use Rattle.bucket_index.proofs.TallestShelves.{unfit-both, unfit-of}
use Rattle.bucket_index.proofs.heights.Heights.behind_unfit.Goals as goal

pub loop-at-preserved-then-are_outside : goal.loop-at-preserved-then-are_outside
loop-at-preserved-then-are_outside c =
    let behind = c.end_of-at in
    let far = c.are_outside.ensures in
    let is = c.if-are_outside.true in
    let from = c.loop-at.at in
    record {
      on = omega (arith, behind.ensures, c.loop-at.invariant.on);
      unfit = λ shelves below. unfit-both c.args.across c.args.limit c.args.from from behind.result shelves (c.loop-at.invariant.unfit shelves below)
          (λ number kept on under there. unfit-of 256 c.args.across c.args.limit c.saturating_add-too_tall.result number (block_of 256 from) c.args.self.now.large shelves kept c.requires.across (omega (arith, c.saturating_add-too_tall.ensures)) (below c.if-not-self.false).large (far.within is) (far.outside is)
          (omega (arith, on, under, behind.ensures)) there);
    }

pub loop-at-preserved : goal.loop-at-preserved
loop-at-preserved c =
    let behind = c.end_of-at-then-are_outside-2 in
    let far = c.are_outside-else-are_outside.ensures in
    let is = c.if-are_outside-2.true in
    let from = c.loop-at.at in
    record {
      on = omega (arith, behind.ensures, c.loop-at.invariant.on);
      unfit = λ shelves below. unfit-both c.args.across c.args.limit c.args.from from behind.result shelves (c.loop-at.invariant.unfit shelves below)
          (λ number kept on under there. unfit-of 16 c.args.across c.args.limit c.saturating_add-too_tall.result number (block_of 16 from) c.args.self.now.small shelves kept c.requires.across (omega (arith, c.saturating_add-too_tall.ensures)) (below c.if-not-self.false).small (far.within is) (far.outside is)
          (omega (arith, on, under, behind.ensures)) there);
    }
