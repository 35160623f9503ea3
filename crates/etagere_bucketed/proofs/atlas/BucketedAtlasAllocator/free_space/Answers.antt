use Rattle.std.specs.Prelude.{pos, ◌^◌, ◌+ℤ◌}
use Rattle.std.proofs.Common.{◌≡◌, ◌-◌, ◌*◌, ◌<◌, ap, arith, subst, to_z, w32}
use Rattle.std.proofs.lemmas.Int.{to_z_pos}
use Rattle.bucketed_model.specs.Space.{allocated_space}
use Rattle.bucketed_model.specs.State.{BucketedState}
use Rattle.bucketed_model.proofs.Spacing.SpacesBounded.{space-area}
use Rattle.bucketed_model.specs.Atlas.{KeepsPromises}
use Rattle.bucketed_model.proofs.Promises.{valid-promises}
use Rattle.etagere_bucketed.specs.Private.Consistent.{state_in}
use Rattle.etagere_bucketed.proofs.atlas.BucketedAtlasAllocator.free_space.Goals as goal

pub overflow_sub-result : goal.overflow_sub-result
overflow_sub-result c = omega (arith, space-area (state_in c.self.inside) c.self.invariant.witnessed.valid, c.self.invariant.totals.space)

pub returns-clause-sum : goal.returns-clause-sum
returns-clause-sum c =
    let old = state_in c.self.inside in
    let area = c.self.inside.frame.width * c.self.inside.frame.height in
    let free = area - c.self.inside.allocated_space in
    let small : free < 2 ^ 31 = omega (arith, c.self.invariant.witnessed.valid.frame.area) in
    subst (λ (s : BucketedState). to_z w32 free +ℤ pos (allocated_space s) ≡ pos (s.frame.width * s.frame.height)) c.self.view_is
    (rw (to_z_pos w32 free small) (ap pos (omega (arith, space-area old c.self.invariant.witnessed.valid, c.self.invariant.totals.space))))

pub returns-clause-promises : goal.returns-clause-promises
returns-clause-promises c = subst KeepsPromises c.self.view_is (valid-promises (state_in c.self.inside) c.self.invariant.witnessed.valid)
