use Rattle.std.proofs.Common.{List, ap, subst, sym, ◌∙◌}
use Rattle.bucketed_records.specs.declared.records.LinkedBucket.{LinkedBucket}
use Rattle.bucketed_records.specs.declared.records.KeptShelf.{KeptShelf}
use Rattle.bucketed_records.specs.Private.Store.{Stored}
use Rattle.bucket_index.specs.Private.Blocks.{AreKnown}
use Rattle.bucket_index.specs.Private.Heights.{AreBelow}
use Rattle.bucket_index.specs.Private.Missed.{IsMissed}
use Rattle.bucket_index.specs.Private.Rest.{IsRest}
use Rattle.bucket_index.specs.Private.Rooms.{AreCounted}
use Rattle.bucket_index.specs.Private.Spans.{AreSpans}
use Rattle.bucketed_store.specs.Private.Placing.{kept_placement}
use Rattle.bucketed_store.proofs.placing.placement_of.Goals as goal

pub placement_in-requires-clause-known : goal.placement_in-requires-clause-known
placement_in-requires-clause-known c = subst (λ (shelves : List KeptShelf). AreKnown c.store.inside.blocks shelves) (sym c.deref.ensures.value) c.store.invariant.0

pub placement_in-requires-clause-spans : goal.placement_in-requires-clause-spans
placement_in-requires-clause-spans c = subst (AreSpans c.store.inside.spans) (sym c.deref-2.ensures.value) c.store.invariant.1

pub placement_in-requires-clause-rest : goal.placement_in-requires-clause-rest
placement_in-requires-clause-rest c = subst (IsRest c.store.inside.rest) (sym c.deref-2.ensures.value) c.store.invariant.2

pub placement_in-requires-clause-rooms : goal.placement_in-requires-clause-rooms
placement_in-requires-clause-rooms c = subst (AreCounted c.store.inside.rooms) (sym c.deref-2.ensures.value) c.store.invariant.3

pub placement_in-requires-clause-missed : goal.placement_in-requires-clause-missed
placement_in-requires-clause-missed c = subst (IsMissed c.store.inside.missed) (sym c.deref.ensures.value) c.store.invariant.5

pub invariant_of-store : goal.invariant_of-store
invariant_of-store c = (
  c.store.invariant.0,
  c.store.invariant.1,
  c.store.invariant.2,
  c.store.invariant.3,
  c.store.invariant.4,
  subst (IsMissed c.placement_in.new.missed) c.deref.ensures.value c.placement_in.ensures.missed,
)

pub placement_in-requires-clause-below : goal.placement_in-requires-clause-below
placement_in-requires-clause-below c = subst (AreBelow c.store.inside.heights) (sym c.deref.ensures.value) c.store.invariant.4

pub returns-clause-placement : goal.returns-clause-placement
returns-clause-placement c =
    c.placement_in.ensures.placement
    ∙ ap (λ (shelves : List KeptShelf). kept_placement c.args.frame.now c.args.left.now c.args.sides.now shelves c.deref-2.result.now) c.deref.ensures.value
    ∙ ap (λ (buckets : List LinkedBucket). kept_placement c.args.frame.now c.args.left.now c.args.sides.now c.store.inside.shelves.items buckets) c.deref-2.ensures.value
    ∙ ap (λ (stored : Stored). kept_placement c.args.frame.now c.args.left.now c.args.sides.now stored.shelves stored.buckets) c.store.view_is
