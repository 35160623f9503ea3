use Rattle.std.specs.Prelude.{pos, ◌^◌}
use Rattle.std.proofs.Common.{◌<◌, ap, arith, subst, ◌∙◌, w32}
use Rattle.std.proofs.lemmas.Int.{ints, to_z_pos}
use Rattle.bucketed_model.specs.Space.{allocated_space}
use Rattle.bucketed_model.specs.Atlas.{KeepsPromises}
use Rattle.bucketed_model.proofs.Promises.{valid-promises}
use Rattle.bucketed_records.proofs.Spelling.Fresh.{space-small}
use Rattle.etagere_bucketed.specs.Private.Consistent.{state_in}
use Rattle.etagere_bucketed.proofs.atlas.BucketedAtlasAllocator.allocated_space.Goals as goal

pub overflow_cast-result : goal.overflow_cast-result
overflow_cast-result c = omega (arith, ints, space-small (state_in c.self.inside) c.self.invariant.witnessed.valid, c.self.invariant.totals.space)

pub returns-clause-space : goal.returns-clause-space
returns-clause-space c =
    let old = state_in c.self.inside in
    let small : c.self.inside.allocated_space < 2 ^ 31 = omega (arith, space-small old c.self.invariant.witnessed.valid, c.self.invariant.totals.space) in
    to_z_pos w32 c.self.inside.allocated_space small ∙ ap pos (c.self.invariant.totals.space ∙ ap allocated_space c.self.view_is)

pub returns-clause-promises : goal.returns-clause-promises
returns-clause-promises c = subst KeepsPromises c.self.view_is (valid-promises (state_in c.self.inside) c.self.invariant.witnessed.valid)
