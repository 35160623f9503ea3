use Rattle.std.proofs.Common.{◌≡◌, ℕ, ◌<◌, List, Some, length, ap, refl, subst, sym, ◌∙◌, arith}
use Rattle.std.proofs.lemmas.List.{with_items_is}
use Rattle.std.proofs.lemmas.Option.{slice_get-get_or}
use Rattle.std.specs.Prelude.{nat_le, slice_get}
use Rattle.std.specs.Vec.{with_items}
use Rattle.etagere_links.specs.Edits.{changed_by}
use Rattle.bucketed_records.specs.declared.records.LinkedBucket.{LinkedBucket}
use Rattle.bucketed_records.specs.declared.records.KeptShelf.{KeptShelf}
use Rattle.bucketed_records.specs.StandsFor.{live_of, shelf_of}
use Rattle.bucketed_records.specs.Private.Store.{Stored}
use Rattle.bucket_index.specs.Private.Blocks.{AreKnown, AreOthersKnown, height_at}
use Rattle.bucket_index.specs.Private.Heights.{AreBelow}
use Rattle.bucket_index.specs.Private.Missed.{IsMissed, IsMissedBeside}
use Rattle.bucket_index.specs.Private.Rooms.{AreCounted}
use Rattle.bucket_index.specs.Private.Spans.{AreSpans}
use Rattle.bucket_index.proofs.KnownBlocks.{followed-stays, known-at, known-others}
use Rattle.bucket_index.proofs.MissedShelves.{missed-beside}
use Rattle.bucket_index.proofs.TallestShelves.{below-kept}
use Rattle.bucketed_store.specs.Private.Returns.{returned_kept}
use Rattle.bucketed_store.proofs.KnownShelves.{height-kept}
use Rattle.bucketed_store.proofs.store.Store.return_followed.Goals as goal
use Rattle.bucketed_store.proofs.store.Store.return_followed.Goals.{After-return_known}

-- the number of the shelf is that of the bucket
shelf-is : (c : After-return_known) → c.shelf_number-shelf.result ≡ shelf_of c.self.inside.buckets.items c.args.number
shelf-is c = c.shelf_number-shelf.ensures ∙ ap (λ (bs : List LinkedBucket). shelf_of bs c.args.number) c.deref-3.ensures.value

-- the shelves are what they were but for that one
returned : (c : After-return_known)
    → (with_items c.self.inside.shelves c.return_known.new.shelves).items
    ≡ changed_by (Some c.shelf_number-shelf.result) (returned_kept (nat_le (live_of c.self.inside.buckets.items c.args.number) 1)) c.self.inside.shelves.items
returned c =
    let inside = c.self.inside in
    let number = c.args.number in
    let change = returned_kept (nat_le (live_of inside.buckets.items number) 1) in
    with_items_is inside.shelves c.return_known.new.shelves (omega (arith, c.return_known.auto.shelves, c.deref_mut.ensures.len))
    ∙ c.return_known.ensures.shelves
    ∙ ap (λ (bs : List LinkedBucket). changed_by (Some (shelf_of bs number)) (returned_kept (nat_le (live_of bs number) 1)) c.deref_mut.result.now) c.deref_mut-2.ensures.value
    ∙ ap (λ (xs : List KeptShelf). changed_by (Some (shelf_of inside.buckets.items number)) change xs) c.deref_mut.ensures.value
    ∙ ap (λ (n : ℕ). changed_by (Some n) change inside.shelves.items) (sym (shelf-is c))

pub follow_emptied-requires-clause-before : goal.follow_emptied-requires-clause-before
follow_emptied-requires-clause-before c =
    let before = c.index.result.now in
    let inside = c.self.inside in
    let at = (goal.at.follow_emptied-requires-clause-before c).After-return_known in
    let within : shelf_of inside.buckets.items c.args.number < length inside.shelves.items =
    subst (λ (stored : Stored). shelf_of stored.buckets c.args.number < length stored.shelves) (sym c.self.view_is) c.requires.shelf in
    let there : slice_get inside.shelves.items c.shelf_number-shelf.result ≡ Some before =
    slice_get-get_or inside.shelves.items c.shelf_number-shelf.result before (omega (arith, shelf-is at, within)) ∙ ap (λ (kept : KeptShelf). Some kept) (sym c.index.ensures) in
    let change = returned_kept (nat_le (live_of inside.buckets.items c.args.number) 1) in
    let tall : height_at c.deref-4.result.now c.shelf_number-shelf.result ≡ before.shelf.height =
    ap (λ (xs : List KeptShelf). height_at xs c.shelf_number-shelf.result) (c.deref-4.ensures.value ∙ returned at)
    ∙ height-kept c.shelf_number-shelf.result change inside.shelves.items before (λ x. refl) there in
    λ counts kept as_tall narrow busy. followed-stays c.shelf_number-shelf.result before kept inside.blocks (as_tall ∙ tall) (omega (arith, narrow, c.known_of_busy-before.ensures)) busy
    (known-at c.shelf_number-shelf.result before inside.blocks inside.shelves.items there c.self.invariant.0 counts)

pub follow_emptied-requires-clause-others : goal.follow_emptied-requires-clause-others
follow_emptied-requires-clause-others c =
    let inside = c.self.inside in
    subst (AreOthersKnown c.shelf_number-shelf.result inside.blocks) (sym (c.deref-4.ensures.value ∙ returned (goal.at.follow_emptied-requires-clause-others c).After-return_known))
    (known-others c.shelf_number-shelf.result (returned_kept (nat_le (live_of inside.buckets.items c.args.number) 1)) inside.blocks inside.shelves.items (λ x. refl) c.self.invariant.0)

pub follow-requires : goal.follow-requires
follow-requires c =
    let inside = c.self.inside in
    subst (IsMissedBeside c.shelf_number-shelf.result inside.missed) (sym (c.deref-5.ensures.value ∙ returned (goal.at.follow-requires c).After-return_known))
    (missed-beside c.shelf_number-shelf.result (returned_kept (nat_le (live_of inside.buckets.items c.args.number) 1)) inside.missed inside.shelves.items c.self.invariant.5)

pub invariant_of-self : goal.invariant_of-self
invariant_of-self c =
    let inside = c.self.inside in
    let lowers = returned_kept (nat_le (live_of inside.buckets.items c.args.number) 1) in
    let items : (with_items inside.buckets c.return_known.new.buckets).items ≡ c.return_known.new.buckets =
    with_items_is inside.buckets c.return_known.new.buckets (omega (arith, c.return_known.auto.buckets, c.deref_mut-2.ensures.len)) in (
      subst (AreKnown c.follow_emptied.new.self) c.deref-4.ensures.value c.follow_emptied.ensures,
      subst (AreSpans c.return_known.new.spans) (sym items) c.return_known.ensures.spans,
      c.forget.ensures _,
      subst (AreCounted c.return_known.new.rooms) (sym items) c.return_known.ensures.rooms,
      subst (AreBelow inside.heights) (sym (returned (goal.at.invariant_of-self c).After-return_known))
          (below-kept c.shelf_number-shelf.result lowers inside.heights inside.shelves.items (λ x _. refl) c.self.invariant.4),
      subst (IsMissed c.follow.new.self) c.deref-5.ensures.value c.follow.ensures,
    )
