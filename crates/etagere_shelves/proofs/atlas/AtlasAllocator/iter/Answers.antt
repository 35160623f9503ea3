use Rattle.std.proofs.Common.{List, map, sym, subst}
use Rattle.etagere_base.specs.declared.ids.Allocation.{Allocation}
use Rattle.shelf_model.specs.Callers.{AreTied}
use Rattle.shelf_model.specs.Listing.{RiseFrom}
use Rattle.shelf_model.specs.Places.{allocations, record_number}
use Rattle.shelf_records.specs.Private.Kept.{state_of}
use Rattle.shelf_model.specs.State.{AtlasState}
use Rattle.shelf_model.proofs.Allocations.ListedOnce.{listed-rise, listed-tied}
use Rattle.shelf_model.specs.Atlas.{KeepsPromises}
use Rattle.etagere_shelves.specs.Private.Consistent.{state_in}
use Rattle.shelf_model.proofs.Promises.{promises}
use Rattle.shelf_records.proofs.Spelled.StandsKept.{witnesses}
use Rattle.etagere_shelves.proofs.atlas.AtlasAllocator.iter.Goals as goal

pub returns-clause-each : goal.returns-clause-each
returns-clause-each c =
    let state : AtlasState = state_of c.self.inside.frame c.self.inside.records in
    rw (← c.self.view_is)
    (subst (λ (l : List Allocation). AreTied l (allocations state)) (sym c.new.ensures) (listed-tied state (witnesses c.self.invariant.kept).valid))

pub returns-clause-rising : goal.returns-clause-rising
returns-clause-rising c =
    let state : AtlasState = state_of c.self.inside.frame c.self.inside.records in
    subst (λ (l : List Allocation). RiseFrom 0 (map (λ allocation. record_number allocation.id) l)) (sym c.new.ensures)
    (listed-rise state (witnesses c.self.invariant.kept).valid)

pub returns-clause-promises : goal.returns-clause-promises
returns-clause-promises c = subst KeepsPromises c.self.view_is (promises (state_in c.self.inside) (witnesses c.self.invariant.kept).valid)
