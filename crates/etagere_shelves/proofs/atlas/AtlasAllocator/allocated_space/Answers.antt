use Rattle.std.specs.Prelude.{pos, ◌^◌}
use Rattle.std.proofs.Common.{◌<◌, ap, arith, ◌∙◌, subst, w32}
use Rattle.std.proofs.lemmas.Int.{ints, to_z_pos}
use Rattle.etagere_shelves.specs.Private.Consistent.{state_in}
use Rattle.shelf_model.specs.Atlas.{KeepsPromises}
use Rattle.shelf_model.specs.Space.{allocated_space}
use Rattle.shelf_model.proofs.Promises.{promises}
use Rattle.shelf_model.proofs.Spaces.SpaceSmall.{space-small}
use Rattle.shelf_records.proofs.Spelled.StandsKept.{witnesses}
use Rattle.etagere_shelves.proofs.atlas.AtlasAllocator.allocated_space.Goals as goal

pub overflow_cast-result : goal.overflow_cast-result
overflow_cast-result c = omega (arith, ints, space-small (state_in c.self.inside) (witnesses c.self.invariant.kept).valid, c.self.invariant.space)

pub returns-clause-space : goal.returns-clause-space
returns-clause-space c =
    let old = state_in c.self.inside in
    let small : c.self.inside.allocated_space < 2 ^ 31 = omega (arith, space-small old (witnesses c.self.invariant.kept).valid, c.self.invariant.space) in
    to_z_pos w32 c.self.inside.allocated_space small ∙ ap pos (c.self.invariant.space ∙ ap allocated_space c.self.view_is)

pub returns-clause-promises : goal.returns-clause-promises
returns-clause-promises c = subst KeepsPromises c.self.view_is (promises (state_in c.self.inside) (witnesses c.self.invariant.kept).valid)
