use Rattle.std.proofs.Common.{◌≡◌, ◌+◌, ℕ, suc, subst, arith}
use Rattle.bucket_index.specs.Private.Rest.{IsFurthest, IsFurthestOf, few_of, latest, links_of}
use Rattle.bucket_index.proofs.FewBuckets.{first-of-few, named-stands, roomy-within}
use Rattle.bucket_index.proofs.rest.Rest.first_of_few.Goals as goal
use Rattle.bucket_index.proofs.rest.Rest.first_of_few.Goals.{After-further}

-- the bucket that was found begins the furthest along
furthest : (c : After-further) → IsFurthestOf c.args.width (few_of c.args.self.now) c.args.buckets.now c.further.result
furthest c =
    let former = c.args.self.now.former in
    let all : c.loop-place.place ≡ former.count = omega arith in
    c.further.ensures (links_of former) (subst (λ (count : ℕ). IsFurthestOf c.args.width (latest count former.numbers) c.args.buckets.now c.loop-place.spot) all c.loop-place.invariant)

pub loop-place-preserved : goal.loop-place-preserved
loop-place-preserved c =
    let former = c.args.self.now.former in
    let one : suc c.loop-place.place ≡ c.loop-place.place + 1 = omega arith in
    subst (λ (count : ℕ). IsFurthestOf c.args.width (latest count former.numbers) c.args.buckets.now c.further_at-spot.result) one
    (c.further_at-spot.ensures (latest c.loop-place.place former.numbers) c.loop-place.invariant)

pub returns-clause-number : goal.returns-clause-number
returns-clause-number c =
    let self = c.args.self.now in
    let links = few_of self in
    let spot : IsFurthest c.args.width links c.args.buckets.now c.in_ok-spot.spot =
    subst (IsFurthestOf c.args.width links c.args.buckets.now) c.in_ok-spot.was (furthest (goal.at.returns-clause-number c).After-further) in
    first-of-few links self.first c.args.buckets.now self.bound c.args.width c.in_ok-spot.spot.number c.requires.known c.requires.bound
    (named-stands links self.first c.args.buckets.now c.in_ok-spot.spot.number c.requires.row.stand spot.named) c.requires.row.down spot.roomy
    (λ number named roomy. omega (arith, spot.place, spot.most number named roomy))

pub returns-clause-within : goal.returns-clause-within
returns-clause-within c =
    let spot : IsFurthest c.args.width (few_of c.args.self.now) c.args.buckets.now c.in_ok-spot.spot =
    subst (IsFurthestOf c.args.width (few_of c.args.self.now) c.args.buckets.now) c.in_ok-spot.was (furthest (goal.at.returns-clause-within c).After-further) in
    roomy-within c.args.width c.args.buckets.now c.in_ok-spot.spot.number spot.roomy
