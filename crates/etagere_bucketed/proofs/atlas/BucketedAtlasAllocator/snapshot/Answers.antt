use Rattle.std.proofs.Common.{pos, ◌≡◌, ◌∙◌, ◌*◌, ◌≤◌, ℕ, Option, List, ap, arith, map, subst, sym}
use Rattle.std.proofs.Math.Nat.{mul-le-mul_left}
use Rattle.etagere_base.proofs.FrameSides.{sides_low}
use Rattle.bucketed_model.specs.State.{BucketedState}
use Rattle.bucketed_model.proofs.Shelving.Added.{current-below}
use Rattle.bucketed_model.proofs.Spacing.SpacesBounded.{space-area}
use Rattle.bucketed_records.specs.declared.records.LinkedBucket.{LinkedBucket}
use Rattle.bucketed_records.specs.declared.records.LinkedBucketShelf.{LinkedBucketShelf}
use Rattle.bucketed_records.specs.BucketRecords.{BucketRecords}
use Rattle.bucketed_records.specs.Private.Store.{shelf_record}
use Rattle.bucketed_records.specs.Restoring.{linked_bucket, linked_shelf, snapshot_records}
use Rattle.bucketed_records.specs.StandsFor.{StandsFor}
use Rattle.bucketed_records.proofs.Spelling.Stands.{witnessed-stands}
use Rattle.etagere_bucketed.specs.Private.Consistent.{state_in}
use Rattle.etagere_bucketed.proofs.atlas.BucketedAtlasAllocator.snapshot.Goals as goal

pub snapshot_of-requires-clause-column : goal.snapshot_of-requires-clause-column
snapshot_of-requires-clause-column c =
    let inside = c.self.inside in
    let valid = c.self.invariant.witnessed.valid in
    let frame = inside.frame in
    let below = current-below frame 0 (state_in inside).shelves valid.frame.columns.0 valid.shelves.each in
    let wide : frame.columns * 1 ≤ frame.columns * frame.column_width = mul-le-mul_left frame.columns valid.frame.column_width in
    omega (arith, c.self.invariant.totals.column, below, wide, valid.frame.columns.1, (sides_low 65534 frame valid.frame).0)

pub snapshot_of-requires-clause-space : goal.snapshot_of-requires-clause-space
snapshot_of-requires-clause-space c =
    let valid = c.self.invariant.witnessed.valid in
    omega (arith, c.self.invariant.totals.space, space-area (state_in c.self.inside) valid, valid.frame.area)

pub returns : goal.returns
returns c =
    let inside = c.self.inside in
    let inv = c.self.invariant in
    let stands = witnessed-stands (state_in inside) inside.store inv.unused inside.current_column inside.available_height inside.buckets_in_use inside.allocated_space inv.witnessed inv.totals in
    let atlas = λ (unused : Option ℕ) (shelves : List LinkedBucketShelf) (buckets : List LinkedBucket). let same : BucketRecords = record {
      frame = inside.frame;
      shelves = shelves;
      buckets = buckets;
      unused = unused;
      current_column = inside.current_column;
      available_height = inside.available_height;
      allocated_space = pos inside.allocated_space;
    } in same in
    let shelves : map linked_shelf c.in_ok-shelves.shelves.items ≡ map shelf_record inside.store.shelves = c.in_ok-shelves.ensures in
    let buckets : map linked_bucket c.in_ok-buckets.buckets.items ≡ inside.store.buckets = c.in_ok-buckets.ensures in
    let same : snapshot_records c.snapshot_of.result ≡ atlas inside.store.unused (map shelf_record inside.store.shelves) inside.store.buckets =
    c.snapshot_of.ensures ∙ ap (λ (link : Option ℕ). atlas link (map linked_shelf c.in_ok-shelves.shelves.items) (map linked_bucket c.in_ok-buckets.buckets.items)) c.first_unused-unused.ensures
    ∙ ap (λ (ss : List LinkedBucketShelf). atlas inside.store.unused ss (map linked_bucket c.in_ok-buckets.buckets.items)) shelves
    ∙ ap (λ (bs : List LinkedBucket). atlas inside.store.unused (map shelf_record inside.store.shelves) bs) buckets in
    subst (λ (records : BucketRecords). StandsFor records c.args.self.now) (sym same)
    (subst (λ (state : BucketedState). StandsFor (atlas inside.store.unused (map shelf_record inside.store.shelves) inside.store.buckets) state) c.self.view_is stands)
