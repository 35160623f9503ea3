use Rattle.std.specs.Prelude.{pos}
use Rattle.std.proofs.Common.{◌≡◌, ap, arith, sym, subst, Ok, Err, Result}
use Rattle.std.specs.Prelude.{IfOk}
use Rattle.shelf_records.specs.AtlasRecords.{AtlasRecords}
use Rattle.etagere_shelves.specs.Private.Consistent.{state_in}
use Rattle.shelf_records.specs.Private.Kept.{atlas_of}
use Rattle.shelf_records.specs.Snapshots.{snapshot_records}
use Rattle.shelf_records.specs.StandsFor.{StandsFor}
use Rattle.shelf_model.proofs.Spaces.SpaceSmall.{space-small}
use Rattle.shelf_records.proofs.Spelled.StandsKept.{witnesses}
use Rattle.etagere_shelves.proofs.atlas.AtlasAllocator.snapshot.Goals as goal

pub snapshot_of-requires-clause-space : goal.snapshot_of-requires-clause-space
snapshot_of-requires-clause-space c = omega (arith, space-small (state_in c.self.inside) (witnesses c.self.invariant.kept).valid, c.self.invariant.space)

-- what is said of the value in an `Ok` is weakened
weaken : {T E : Type 0} (P Q : T → Type 0) (r : Result T E) → ((x : T) → P x → Q x) → IfOk r P → IfOk r Q
weaken P Q (Ok x) to p = to x p
weaken P Q (Err e) to p = p

pub returns : goal.returns
returns c =
    let inside = c.self.inside in
    let said : AtlasRecords = record { frame = inside.frame; records = inside.records; allocated_space = pos inside.allocated_space } in
    let same : atlas_of inside.frame inside.records ≡ said =
    ap (λ n. record { frame = inside.frame; records = inside.records; allocated_space = pos n }) (sym c.self.invariant.space) in
    let stands : StandsFor said c.args.self.now =
    subst (StandsFor said) c.self.view_is
    (subst (λ (a : AtlasRecords). StandsFor a (state_in inside)) same c.self.invariant.kept.stands) in
    weaken (λ snapshot. snapshot_records snapshot ≡ said) (λ snapshot. StandsFor (snapshot_records snapshot) c.args.self.now) c.snapshot_of.result
    (λ snapshot e. subst (λ (a : AtlasRecords). StandsFor a c.args.self.now) (sym e) stands) c.snapshot_of.ensures

pub snapshot_of-requires-clause-frame : goal.snapshot_of-requires-clause-frame
snapshot_of-requires-clause-frame c = (witnesses c.self.invariant.kept).valid.frame
