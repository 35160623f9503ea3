use Rattle.std.proofs.Common.{◌≡◌, suc, ◌-◌, ◌<◌, length, take, subst, arith}
use Rattle.std.proofs.lemmas.List.{take_all}
use Rattle.bucket_index.specs.Private.Heights.{AreAllWithin, begun, with_height}
use Rattle.bucket_index.proofs.TallestShelves.{below-next}
use Rattle.bucket_index.proofs.heights.Heights.add_last.Goals as goal

pub returns-then-self : goal.returns-then-self
returns-then-self c = λ known.
    let shelves = c.args.shelves.now in
    let last = length shelves - 1 in
    let one = c.index-shelves-last.result in
    let within : last < length shelves = omega (arith, c.requires.some) in
    let all : take (suc last) shelves ≡ shelves = take_all (suc last) shelves (omega (arith, c.requires.some)) in
    rw c.add_behind.ensures
    (subst (AreAllWithin (with_height last one.shelf.height (begun last c.args.self.now))) all (below-next c.args.self.now shelves last one within c.index-shelves-last.is (c.requires.others c.if-self.true)))

pub returns-then-last-eq-FEW_SHELVES : goal.returns-then-last-eq-FEW_SHELVES
returns-then-last-eq-FEW_SHELVES c = λ known. c.learn.ensures

pub returns-else-last-eq-FEW_SHELVES : goal.returns-else-last-eq-FEW_SHELVES
returns-else-last-eq-FEW_SHELVES c = λ known. absurd (cc)
