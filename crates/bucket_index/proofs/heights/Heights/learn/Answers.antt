use Rattle.std.proofs.Common.{add-one, subst, arith}
use Rattle.std.proofs.lemmas.List.{take_all}
use Rattle.bucket_index.specs.Private.Heights.{AreAllWithin}
use Rattle.bucket_index.proofs.TallestShelves.{below-next}
use Rattle.bucket_index.proofs.heights.Heights.learn.Goals as goal

pub loop-number-preserved : goal.loop-number-preserved
loop-number-preserved c =
    rw (c.add_behind.ensures, add-one) (below-next c.loop-number.self c.args.shelves.now c.loop-number.number c.index-shelves-number.result c.loop-number-test.true c.index-shelves-number.is c.loop-number.invariant)

pub returns : goal.returns
returns c = subst (AreAllWithin c.loop-number.self) (take_all c.loop-number.number c.args.shelves.now (omega (arith, c.loop-number-test.false))) c.loop-number.invariant
