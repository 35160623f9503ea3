use Rattle.std.specs.Prelude.{pos, ◌^◌, ◌+ℤ◌}
use Rattle.std.proofs.Common.{◌≡◌, ◌-◌, ◌*◌, ◌<◌, ap, arith, subst, to_z, w32, ◌∙◌}
use Rattle.std.proofs.lemmas.Int.{to_z_pos, ints}
use Rattle.etagere_shelves.specs.Private.Consistent.{state_in}
use Rattle.shelf_model.specs.Space.{allocated_space}
use Rattle.shelf_model.specs.State.{AtlasState}
use Rattle.shelf_model.proofs.Spaces.SpaceBounds.{space-le-area}
use Rattle.shelf_model.specs.Atlas.{KeepsPromises}
use Rattle.shelf_model.proofs.Promises.{promises}
use Rattle.shelf_records.proofs.Spelled.StandsKept.{witnesses}
use Rattle.etagere_shelves.proofs.atlas.AtlasAllocator.free_space.Goals as goal

pub overflow_sub-result : goal.overflow_sub-result
overflow_sub-result c = omega (arith, space-le-area (state_in c.self.inside) (witnesses c.self.invariant.kept).valid, c.self.invariant.space)

pub returns-clause-sum : goal.returns-clause-sum
returns-clause-sum c =
    let old = state_in c.self.inside in
    let area = c.self.inside.frame.width * c.self.inside.frame.height in
    let free = area - c.self.inside.allocated_space in
    let small : free < 2 ^ 31 = omega (arith, (witnesses c.self.invariant.kept).valid.frame.area) in
    subst (λ (s : AtlasState). to_z w32 free +ℤ pos (allocated_space s) ≡ pos (s.frame.width * s.frame.height)) c.self.view_is
    (rw (to_z_pos w32 free small) (ap pos (omega (arith, space-le-area old (witnesses c.self.invariant.kept).valid, c.self.invariant.space))))

pub returns-clause-promises : goal.returns-clause-promises
returns-clause-promises c = subst KeepsPromises c.self.view_is (promises (state_in c.self.inside) (witnesses c.self.invariant.kept).valid)

pub overflow_mul-result : goal.overflow_mul-result
overflow_mul-result c = omega (arith, (witnesses c.self.invariant.kept).valid.frame.area)

pub overflow_cast-result : goal.overflow_cast-result
overflow_cast-result c = omega (arith, ints, (witnesses c.self.invariant.kept).valid.frame.area)

pub returns-clause-free : goal.returns-clause-free
returns-clause-free c =
    let area = c.self.inside.frame.width * c.self.inside.frame.height in
    let free = area - c.self.inside.allocated_space in
    let small : free < 2 ^ 31 = omega (arith, (witnesses c.self.invariant.kept).valid.frame.area) in
    to_z_pos w32 free small ∙ ap (λ n. pos (area - n)) c.self.invariant.space
    ∙ ap (λ (s : AtlasState). pos (s.frame.width * s.frame.height - allocated_space s)) c.self.view_is
