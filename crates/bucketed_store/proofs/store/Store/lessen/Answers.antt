use Rattle.std.proofs.Common.{◌≡◌, List, Bool, false, Some, ap, refl, subst, sym, ◌∙◌, arith}
use Rattle.std.proofs.lemmas.List.{with_items_is}
use Rattle.std.specs.Prelude.{nat_le}
use Rattle.std.specs.Vec.{with_items}
use Rattle.etagere_links.specs.Edits.{changed_by}
use Rattle.bucketed_records.specs.declared.records.LinkedBucket.{LinkedBucket}
use Rattle.bucketed_records.specs.declared.records.KeptShelf.{KeptShelf}
use Rattle.bucketed_records.specs.StandsFor.{live_of, shelf_of}
use Rattle.bucket_index.specs.Private.Blocks.{AreKnown}
use Rattle.bucket_index.specs.Private.Heights.{AreBelow}
use Rattle.bucket_index.specs.Private.Missed.{IsMissed}
use Rattle.bucket_index.specs.Private.Rest.{IsRest}
use Rattle.bucket_index.specs.Private.Rooms.{AreCounted}
use Rattle.bucket_index.specs.Private.Spans.{AreSpans}
use Rattle.bucket_index.proofs.CountedRooms.{tally-kept}
use Rattle.bucket_index.proofs.KnownSpans.{spans-same}
use Rattle.bucket_index.proofs.MissedShelves.{missed-changed, narrower-without}
use Rattle.bucket_index.proofs.RestOfRows.{rest-kept}
use Rattle.bucket_index.proofs.TallestShelves.{below-kept}
use Rattle.bucketed_store.specs.Private.Returns.{LeavesOthers, lessened_record, returned_kept, returned_record, width_of}
use Rattle.bucketed_store.proofs.LeftShelves.{known-left, lessened}
use Rattle.bucketed_store.proofs.RoomsKept.{counted-same}
use Rattle.bucketed_store.proofs.store.Store.lessen.Goals as goal

pub invariant_of-self : goal.invariant_of-self
invariant_of-self c =
    let inside = c.self.inside in
    let number = c.args.number in
    let shelf = shelf_of inside.buckets.items number in
    let width = width_of inside.shelves.items shelf in
    let leaves : LeavesOthers number inside.shelves.items inside.buckets.items =
    subst (λ (xs : List KeptShelf). LeavesOthers number xs inside.buckets.items) c.deref.ensures.value
    (subst (LeavesOthers number c.deref.result.now) c.deref-2.ensures.value (c.leaves_others.ensures c.if-not-leaves_others.false)) in
    let change = returned_kept false in
    let shelves : (with_items inside.shelves c.return_item.new.shelves).items ≡ changed_by (Some shelf) change inside.shelves.items =
    with_items_is inside.shelves c.return_item.new.shelves (omega (arith, c.return_item.auto.shelves, c.deref_mut.ensures.len))
    ∙ c.return_item.ensures.shelves
    ∙ ap (λ (bs : List LinkedBucket). changed_by (Some (shelf_of bs number)) (returned_kept (nat_le (live_of bs number) 1)) c.deref_mut.result.now) c.deref_mut-2.ensures.value
    ∙ ap (λ (xs : List KeptShelf). changed_by (Some shelf) (returned_kept (nat_le (live_of inside.buckets.items number) 1)) xs) c.deref_mut.ensures.value
    ∙ ap (λ (t : Bool). changed_by (Some shelf) (returned_kept t) inside.shelves.items) leaves.bucket in
    let buckets : (with_items inside.buckets c.return_item.new.buckets).items ≡ changed_by (Some number) lessened_record inside.buckets.items =
    with_items_is inside.buckets c.return_item.new.buckets (omega (arith, c.return_item.auto.buckets, c.deref_mut-2.ensures.len))
    ∙ c.return_item.ensures.buckets
    ∙ ap (λ (bs : List LinkedBucket). changed_by (Some number) (returned_record (width_of c.deref_mut.result.now (shelf_of bs number))) bs) c.deref_mut-2.ensures.value
    ∙ ap (λ (xs : List KeptShelf). changed_by (Some number) (returned_record (width_of xs shelf)) inside.buckets.items) c.deref_mut.ensures.value
    ∙ lessened number width inside.buckets.items leaves.bucket in (
      subst (AreKnown inside.blocks) (sym shelves) (known-left shelf inside.blocks inside.shelves.items leaves.shelf c.self.invariant.0),
      subst (AreSpans inside.spans) (sym buckets) (spans-same number lessened_record inside.spans inside.buckets.items (λ b. refl) (λ b. refl) c.self.invariant.1),
      subst (IsRest inside.rest) (sym buckets) (rest-kept number lessened_record inside.rest inside.buckets.items (λ b. refl) (λ b. refl) (λ b. refl) c.self.invariant.2),
      subst (AreCounted inside.rooms) (sym buckets)
          (counted-same inside.rooms inside.buckets.items (changed_by (Some number) lessened_record inside.buckets.items) c.self.invariant.3 (λ slot. tally-kept slot number lessened_record inside.buckets.items (λ b. refl))),
      subst (AreBelow inside.heights) (sym shelves) (below-kept shelf change inside.heights inside.shelves.items (λ x _. refl) c.self.invariant.4),
      subst (IsMissed inside.missed) (sym shelves)
          (missed-changed (λ n. Unit {0}) shelf change inside.missed inside.shelves.items (λ sides kept some there none. narrower-without inside.missed.adds sides kept (change kept) refl (omega arith) none) c.self.invariant.5),
    )
