use Rattle.std.proofs.Common.{◌≡◌, ℕ, ◌+◌, ◌<◌, List, false, Some, length, ap, refl, subst, sym, ◌∙◌, arith}
use Rattle.std.proofs.lemmas.List.{with_items_is}
use Rattle.std.proofs.lemmas.Option.{slice_get-get_or}
use Rattle.std.specs.Prelude.{nat_le, slice_get}
use Rattle.std.specs.Vec.{with_items}
use Rattle.etagere_links.specs.Edits.{changed_by}
use Rattle.bucketed_records.specs.declared.records.LinkedBucket.{LinkedBucket}
use Rattle.bucketed_records.specs.declared.records.KeptShelf.{KeptShelf}
use Rattle.bucketed_records.specs.StandsFor.{live_of, shelf_of}
use Rattle.bucketed_records.specs.Private.Store.{Stored}
use Rattle.bucket_index.specs.Private.Blocks.{AreKnown, AreOthersKnown, height_at}
use Rattle.bucket_index.specs.Private.Heights.{AreBelow}
use Rattle.bucket_index.specs.Private.Missed.{IsMissed, IsMissedBeside}
use Rattle.bucket_index.proofs.KnownBlocks.{followed-stays, known-at, known-others}
use Rattle.bucket_index.proofs.MissedShelves.{missed-beside}
use Rattle.bucket_index.proofs.TallestShelves.{below-kept}
use Rattle.bucketed_store.specs.Private.Returns.{dropping_from, dropping_of, ends_idle, item_returned, returned_kept}
use Rattle.bucketed_store.proofs.KnownShelves.{height-kept}
use Rattle.bucketed_store.proofs.LeftShelves.{ends-before, none-dropped}
use Rattle.bucketed_store.proofs.store.Store.return_only.Goals as goal
use Rattle.bucketed_store.proofs.store.Store.return_only.Goals.{After-return_only}

-- the number of the shelf is that of the bucket
shelf-is : (c : After-return_only) → c.shelf_number-shelf.result ≡ shelf_of c.self.inside.buckets.items c.args.number
shelf-is c = c.shelf_number-shelf.ensures ∙ ap (λ (bs : List LinkedBucket). shelf_of bs c.args.number) c.deref-5.ensures.value

-- the shelves are what they were but for that one
returned : (c : After-return_only)
    → (with_items c.self.inside.shelves c.return_only.new.shelves).items
    ≡ changed_by (Some c.shelf_number-shelf.result) (returned_kept (nat_le (live_of c.self.inside.buckets.items c.args.number) 1)) c.self.inside.shelves.items
returned c =
    let inside = c.self.inside in
    let number = c.args.number in
    let change = returned_kept (nat_le (live_of inside.buckets.items number) 1) in
    with_items_is inside.shelves c.return_only.new.shelves (omega (arith, c.return_only.auto.shelves, c.deref_mut.ensures.len))
    ∙ c.return_only.ensures.shelves
    ∙ ap (λ (bs : List LinkedBucket). changed_by (Some (shelf_of bs number)) (returned_kept (nat_le (live_of bs number) 1)) c.deref_mut.result.now) c.deref_mut-2.ensures.value
    ∙ ap (λ (xs : List KeptShelf). changed_by (Some (shelf_of inside.buckets.items number)) change xs) c.deref_mut.ensures.value
    ∙ ap (λ (n : ℕ). changed_by (Some n) change inside.shelves.items) (sym (shelf-is c))

pub follow_emptied-requires-clause-before : goal.follow_emptied-requires-clause-before
follow_emptied-requires-clause-before c =
    let before = c.index.result.now in
    let inside = c.self.inside in
    let at = (goal.at.follow_emptied-requires-clause-before c).After-return_only in
    let within : shelf_of inside.buckets.items c.args.number < length inside.shelves.items =
    subst (λ (stored : Stored). shelf_of stored.buckets c.args.number < length stored.shelves) (sym c.self.view_is) c.requires.shelf in
    let there : slice_get inside.shelves.items c.shelf_number-shelf.result ≡ Some before =
    slice_get-get_or inside.shelves.items c.shelf_number-shelf.result before (omega (arith, shelf-is at, within)) ∙ ap (λ (kept : KeptShelf). Some kept) (sym c.index.ensures) in
    let change = returned_kept (nat_le (live_of inside.buckets.items c.args.number) 1) in
    let tall : height_at c.deref-6.result.now c.shelf_number-shelf.result ≡ before.shelf.height =
    ap (λ (xs : List KeptShelf). height_at xs c.shelf_number-shelf.result) (c.deref-6.ensures.value ∙ returned at)
    ∙ height-kept c.shelf_number-shelf.result change inside.shelves.items before (λ x. refl) there in
    λ counts kept as_tall narrow busy. followed-stays c.shelf_number-shelf.result before kept inside.blocks (as_tall ∙ tall) (omega (arith, narrow, c.known_of_busy-before.ensures)) busy
    (known-at c.shelf_number-shelf.result before inside.blocks inside.shelves.items there c.self.invariant.0 counts)

pub follow_emptied-requires-clause-others : goal.follow_emptied-requires-clause-others
follow_emptied-requires-clause-others c =
    let inside = c.self.inside in
    subst (AreOthersKnown c.shelf_number-shelf.result inside.blocks) (sym (c.deref-6.ensures.value ∙ returned (goal.at.follow_emptied-requires-clause-others c).After-return_only))
    (known-others c.shelf_number-shelf.result (returned_kept (nat_le (live_of inside.buckets.items c.args.number) 1)) inside.blocks inside.shelves.items (λ x. refl) c.self.invariant.0)

pub follow-requires : goal.follow-requires
follow-requires c =
    let inside = c.self.inside in
    subst (IsMissedBeside c.shelf_number-shelf.result inside.missed) (sym (c.deref-7.ensures.value ∙ returned (goal.at.follow-requires c).After-return_only))
    (missed-beside c.shelf_number-shelf.result (returned_kept (nat_le (live_of inside.buckets.items c.args.number) 1)) inside.missed inside.shelves.items c.self.invariant.5)

pub invariant_of-self : goal.invariant_of-self
invariant_of-self c =
    let inside = c.self.inside in
    let lowers = returned_kept (nat_le (live_of inside.buckets.items c.args.number) 1) in
    let known = c.know_buckets.ensures c.if-know_buckets.false (with_items inside.buckets c.return_only.new.buckets).items in
    let items : (with_items inside.buckets c.return_only.new.buckets).items ≡ c.return_only.new.buckets =
    with_items_is inside.buckets c.return_only.new.buckets (omega (arith, c.return_only.auto.buckets, c.deref_mut-2.ensures.len)) in (
      subst (AreKnown c.follow_emptied.new.self) c.deref-6.ensures.value c.follow_emptied.ensures,
      known.0,
      c.forget.ensures _,
      known.1,
      subst (AreBelow inside.heights) (sym (returned (goal.at.invariant_of-self c).After-return_only))
          (below-kept c.shelf_number-shelf.result lowers inside.heights inside.shelves.items (λ x _. refl) c.self.invariant.4),
      subst (IsMissed c.follow.new.self) c.deref-7.ensures.value c.follow.ensures,
    )

-- nothing is dropped where another shelf stands at the end, and holds something
pub returns-clause-stays : goal.returns-clause-stays
returns-clause-stays c =
    let inside = c.self.inside in
    let number = c.args.number in
    let at = (goal.at.returns-clause-stays c).After-return_only in
    let yes = c.if-not-leaves_idle.false in
    let before : shelf_of inside.buckets.items number + 1 < length inside.shelves.items =
    rw (← c.deref.ensures.value, ← c.deref-2.ensures.value) (c.leaves_idle.ensures.before yes) in
    let end : ends_idle inside.shelves.items ≡ false = ap ends_idle (sym c.deref.ensures.value) ∙ c.leaves_idle.ensures.last yes in
    let last = ends-before c.shelf_number-shelf.result (returned_kept (nat_le (live_of inside.buckets.items number) 1)) inside.shelves.items (omega (arith, shelf-is at, before)) end in
    none-dropped _ (dropping_of (with_items inside.shelves c.return_only.new.shelves).items (with_items inside.buckets c.return_only.new.buckets).items inside.unused 0) (ap ends_idle (returned at) ∙ last)

pub returns-then-know_buckets-clause-stays : goal.returns-then-know_buckets-clause-stays
returns-then-know_buckets-clause-stays c =
    let old = c.args.self.now in
    let number = c.args.number in
    let yes = c.if-not-leaves_idle.false in
    let shelves : c.deref.result.now ≡ old.shelves = c.deref.ensures.value ∙ ap (λ (stored : Stored). stored.shelves) c.self.view_is in
    let buckets : c.deref-2.result.now ≡ old.buckets = c.deref-2.ensures.value ∙ ap (λ (stored : Stored). stored.buckets) c.self.view_is in
    let before : shelf_of old.buckets number + 1 < length old.shelves = rw (← shelves, ← buckets) (c.leaves_idle.ensures.before yes) in
    let end : ends_idle old.shelves ≡ false = rw (← shelves) (c.leaves_idle.ensures.last yes) in
    let last : ends_idle (item_returned number old).shelves ≡ false = ends-before (shelf_of old.buckets number) (returned_kept (nat_le (live_of old.buckets number) 1)) old.shelves before end in
    none-dropped _ (dropping_from c.return_followed.new.self 0) (ap (λ (stored : Stored). ends_idle stored.shelves) c.return_followed.ensures.returned ∙ last)
