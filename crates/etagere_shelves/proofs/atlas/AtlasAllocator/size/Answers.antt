use Rattle.std.proofs.Common.{subst, ◌≡◌, ap, arith, to_z, w32}
use Rattle.shelf_model.specs.Atlas.{KeepsPromises}
use Rattle.etagere_shelves.specs.Private.Consistent.{state_in}
use Rattle.shelf_model.proofs.Promises.{promises}
use Rattle.std.proofs.lemmas.Int.{ints, to_z_pos}
use Rattle.std.specs.Prelude.{pos}
use Rattle.etagere_base.specs.declared.frames.Frame.{Frame}
use Rattle.shelf_model.specs.State.{AtlasState}
use Rattle.shelf_records.proofs.Spelled.StandsKept.{witnesses}
use Rattle.etagere_shelves.proofs.atlas.AtlasAllocator.size.Goals as goal

pub returns-clause-promises : goal.returns-clause-promises
returns-clause-promises c = subst KeepsPromises c.self.view_is (promises (state_in c.self.inside) (witnesses c.self.invariant.kept).valid)

pub overflow_cast-result : goal.overflow_cast-result
overflow_cast-result c = omega (arith, ints, (witnesses c.self.invariant.kept).valid.frame.width)

pub overflow_cast-result-2 : goal.overflow_cast-result-2
overflow_cast-result-2 c = omega (arith, ints, (witnesses c.self.invariant.kept).valid.frame.height)

pub returns-clause-size : goal.returns-clause-size
returns-clause-size c =
    let frame : Frame = c.self.inside.frame in
    let width : to_z w32 frame.width ≡ pos frame.width = to_z_pos w32 frame.width (omega (arith, (witnesses c.self.invariant.kept).valid.frame.width)) in
    let height : to_z w32 frame.height ≡ pos frame.height = to_z_pos w32 frame.height (omega (arith, (witnesses c.self.invariant.kept).valid.frame.height)) in
    rw (width, height) (ap (λ (s : AtlasState). record { width = pos s.frame.width; height = pos s.frame.height }) c.self.view_is)
