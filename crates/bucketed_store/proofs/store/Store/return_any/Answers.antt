use Rattle.std.proofs.Common.{◌≡◌, ℕ, ◌<◌, List, false, Some, length, ap, Option, None, refl, subst, sym, ◌∙◌, arith, ◌==◌}
use Rattle.std.proofs.lemmas.List.{with_items_is}
use Rattle.std.proofs.lemmas.Option.{slice_get-get_or}
use Rattle.std.specs.Option.{option_map_or}
use Rattle.std.specs.Prelude.{nat_le, option_map, slice_get, vec_len}
use Rattle.std.specs.Vec.{with_items}
use Rattle.etagere_links.specs.Edits.{changed_by}
use Rattle.etagere_links.proofs.RecordChanges.{get-changed_by}
use Rattle.bucketed_records.specs.declared.records.LinkedBucket.{LinkedBucket}
use Rattle.bucketed_records.specs.declared.records.KeptShelf.{KeptShelf}
use Rattle.bucketed_records.specs.StandsFor.{live_of, shelf_of}
use Rattle.bucketed_records.specs.Private.Store.{record_room, Stored}
use Rattle.bucket_index.specs.Private.Blocks.{AreKnown, AreOthersKnown, height_at}
use Rattle.bucket_index.specs.Private.Heights.{AreBelow}
use Rattle.bucket_index.specs.Private.Missed.{IsMissed, IsMissedBeside}
use Rattle.bucket_index.specs.Private.Rest.{IsIn, IsRest}
use Rattle.bucket_index.specs.Private.Rooms.{AreCounted, tally}
use Rattle.bucket_index.proofs.TallestShelves.{below-kept, below-some}
use Rattle.bucketed_model.specs.State.{most_buckets}
use Rattle.bucket_index.specs.Private.Searching.{widest_from}
use Rattle.bucket_index.specs.Private.Spans.{AreSpans, AreSpansExcept}
use Rattle.bucket_index.proofs.MissedShelves.{missed-beside, missed-some}
use Rattle.bucket_index.proofs.RestOfRows.{known-beside}
use Rattle.bucket_index.proofs.KnownBlocks.{AreSome, followed-stays, known-at, known-others}
use Rattle.bucket_index.proofs.KnownSpans.{spans-changed-room}
use Rattle.bucketed_store.specs.Private.Returns.{Dropping, dropping_from, dropping_of, ends_idle, item_returned, returned_kept, returned_record, width_of}
use Rattle.bucketed_store.specs.Private.StoreEdits.{IsInRow, KnowsWidest, first_bucket_of}
use Rattle.bucketed_store.proofs.KnownShelves.{height-kept, others-some, some-dropped}
use Rattle.bucketed_store.proofs.LeftShelves.{links-same, none-dropped, places-same, stored-returned}
use Rattle.bucketed_store.proofs.RoomsKept.{counted-same, dropped-kept, followed, is-there}
use Rattle.bucketed_store.proofs.store.Store.return_any.Goals as goal
use Rattle.bucketed_store.proofs.store.Store.return_any.Goals.{After-room_of-room}

pub track-requires-clause-others : goal.track-requires-clause-others
track-requires-clause-others c =
    let inside = c.self.inside in
    let number = c.args.number in
    let width = width_of c.deref_mut.result.now (shelf_of c.deref_mut-2.result.now number) in
    let items : (with_items inside.buckets c.return_item.new.buckets).items ≡ c.return_item.new.buckets =
    with_items_is inside.buckets c.return_item.new.buckets (omega (arith, c.return_item.auto.buckets, c.deref_mut-2.ensures.len)) in
    let returned : c.return_item.new.buckets ≡ changed_by (Some number) (returned_record width) inside.buckets.items =
    c.return_item.ensures.buckets ∙ ap (λ (bs : List LinkedBucket). changed_by (Some number) (returned_record width) bs) c.deref_mut-2.ensures.value in
    subst (AreSpansExcept number inside.spans) (sym (c.deref-5.ensures.value ∙ items ∙ returned))
    (spans-changed-room number (returned_record width) inside.spans inside.buckets.items (links-same width) c.self.invariant.1)

-- the number of the shelf is that of the bucket
shelf-is : (c : After-room_of-room) → c.shelf_number-shelf.result ≡ shelf_of c.self.inside.buckets.items c.args.number
shelf-is c = c.shelf_number-shelf.ensures ∙ ap (λ (bs : List LinkedBucket). shelf_of bs c.args.number) c.deref-3.ensures.value

-- what was read is the shelf
shelf-there : (c : After-room_of-room) → slice_get c.self.inside.shelves.items c.shelf_number-shelf.result ≡ Some c.index.result.now
shelf-there c =
    let within : shelf_of c.self.inside.buckets.items c.args.number < length c.self.inside.shelves.items =
    subst (λ (stored : Stored). shelf_of stored.buckets c.args.number < length stored.shelves) (sym c.self.view_is) c.requires.shelf in
    slice_get-get_or c.self.inside.shelves.items c.shelf_number-shelf.result c.index.result.now (omega (arith, shelf-is c, within)) ∙ ap (λ (kept : KeptShelf). Some kept) (sym c.index.ensures)

-- and what is known of it is what its buckets can give
widest-is : (c : After-room_of-room) → widest_from most_buckets c.self.inside.buckets.items c.index.result.now.shelf.first_bucket ≡ c.known_of_busy-before.result.widest_room
widest-is c =
    let shelves = c.self.inside.shelves.items in
    let buckets = c.self.inside.buckets.items in
    let knows : KnowsWidest c.shelf_number-shelf.result shelves buckets =
    subst (λ (n : ℕ). KnowsWidest n shelves buckets) (sym (shelf-is c))
    (subst (λ (stored : Stored). KnowsWidest (shelf_of stored.buckets c.args.number) stored.shelves stored.buckets) (sym c.self.view_is) c.requires.widest) in
    let read = subst (λ (o : Option KeptShelf). widest_from most_buckets buckets (option_map_or (λ (kept : KeptShelf). kept.shelf.first_bucket) o None) ≡ option_map_or (λ (kept : KeptShelf). kept.widest_room) o 0) (shelf-there c) knows in
    omega (arith, read, c.known_of_busy-before.ensures)

-- a shelf keeps its first bucket where another keeps what it did
first-kept : (shelf : ℕ) (change : KeptShelf → KeptShelf) (shelves : List KeptShelf) (kept : KeptShelf) → slice_get shelves shelf ≡ Some kept → first_bucket_of (changed_by (Some shelf) change shelves) shelf ≡ (change kept).shelf.first_bucket
first-kept shelf change shelves kept there =
    ap (λ (o : Option KeptShelf). option_map_or (λ (one : KeptShelf). one.shelf.first_bucket) o None) (get-changed_by change shelves (Some shelf) shelf refl ∙ ap (option_map change) there)

pub follow_returned-requires-clause-before : goal.follow_returned-requires-clause-before
follow_returned-requires-clause-before c =
    let before = c.index.result.now in
    let there = shelf-there (goal.at.follow_returned-requires-clause-before c).After-room_of-room in
    let inside = c.self.inside in
    let number = c.args.number in
    let shelf : c.shelf_number-shelf.result ≡ shelf_of inside.buckets.items number = shelf-is (goal.at.follow_returned-requires-clause-before c).After-room_of-room in
    let change = returned_kept (nat_le (live_of inside.buckets.items number) 1) in
    let items : (with_items inside.shelves c.return_item.new.shelves).items ≡ c.return_item.new.shelves =
    with_items_is inside.shelves c.return_item.new.shelves (omega (arith, c.return_item.auto.shelves, c.deref_mut.ensures.len)) in
    let returned : c.return_item.new.shelves ≡ changed_by (Some c.shelf_number-shelf.result) change inside.shelves.items =
    c.return_item.ensures.shelves
    ∙ ap (λ (bs : List LinkedBucket). changed_by (Some (shelf_of bs number)) (returned_kept (nat_le (live_of bs number) 1)) c.deref_mut.result.now) c.deref_mut-2.ensures.value
    ∙ ap (λ (xs : List KeptShelf). changed_by (Some (shelf_of inside.buckets.items number)) change xs) c.deref_mut.ensures.value
    ∙ ap (λ (n : ℕ). changed_by (Some n) change inside.shelves.items) (sym shelf) in
    let tall : height_at c.deref-then-not-ends_idle.result.now c.shelf_number-shelf.result ≡ before.shelf.height =
    ap (λ (xs : List KeptShelf). height_at xs c.shelf_number-shelf.result) (c.deref-then-not-ends_idle.ensures.value ∙ items ∙ returned)
    ∙ height-kept c.shelf_number-shelf.result change inside.shelves.items before (λ x. refl) there in
    λ counts kept as_tall narrow busy. followed-stays c.shelf_number-shelf.result before kept c.self.inside.blocks (as_tall ∙ tall) (omega (arith, narrow, c.known_of_busy-before.ensures)) busy
    (known-at c.shelf_number-shelf.result before c.self.inside.blocks c.self.inside.shelves.items there c.self.invariant.0 counts)

pub follow_returned-requires-clause-others : goal.follow_returned-requires-clause-others
follow_returned-requires-clause-others c =
    let inside = c.self.inside in
    let number = c.args.number in
    let shelf : c.shelf_number-shelf.result ≡ shelf_of inside.buckets.items number =
    c.shelf_number-shelf.ensures ∙ ap (λ (bs : List LinkedBucket). shelf_of bs number) c.deref-3.ensures.value in
    let change = returned_kept (nat_le (live_of inside.buckets.items number) 1) in
    let items : (with_items inside.shelves c.return_item.new.shelves).items ≡ c.return_item.new.shelves =
    with_items_is inside.shelves c.return_item.new.shelves (omega (arith, c.return_item.auto.shelves, c.deref_mut.ensures.len)) in
    let returned : c.return_item.new.shelves ≡ changed_by (Some c.shelf_number-shelf.result) change inside.shelves.items =
    c.return_item.ensures.shelves
    ∙ ap (λ (bs : List LinkedBucket). changed_by (Some (shelf_of bs number)) (returned_kept (nat_le (live_of bs number) 1)) c.deref_mut.result.now) c.deref_mut-2.ensures.value
    ∙ ap (λ (xs : List KeptShelf). changed_by (Some (shelf_of inside.buckets.items number)) change xs) c.deref_mut.ensures.value
    ∙ ap (λ (n : ℕ). changed_by (Some n) change inside.shelves.items) (sym shelf) in
    subst (AreOthersKnown c.shelf_number-shelf.result inside.blocks) (sym (c.deref-then-not-ends_idle.ensures.value ∙ items ∙ returned))
    (known-others c.shelf_number-shelf.result change inside.blocks inside.shelves.items (λ x. refl) c.self.invariant.0)

pub follow-requires : goal.follow-requires
follow-requires c =
    let inside = c.self.inside in
    let number = c.args.number in
    let shelf : c.shelf_number-shelf.result ≡ shelf_of inside.buckets.items number =
    c.shelf_number-shelf.ensures ∙ ap (λ (bs : List LinkedBucket). shelf_of bs number) c.deref-3.ensures.value in
    let change = returned_kept (nat_le (live_of inside.buckets.items number) 1) in
    let items : (with_items inside.shelves c.return_item.new.shelves).items ≡ c.return_item.new.shelves =
    with_items_is inside.shelves c.return_item.new.shelves (omega (arith, c.return_item.auto.shelves, c.deref_mut.ensures.len)) in
    let returned : c.return_item.new.shelves ≡ changed_by (Some c.shelf_number-shelf.result) change inside.shelves.items =
    c.return_item.ensures.shelves
    ∙ ap (λ (bs : List LinkedBucket). changed_by (Some (shelf_of bs number)) (returned_kept (nat_le (live_of bs number) 1)) c.deref_mut.result.now) c.deref_mut-2.ensures.value
    ∙ ap (λ (xs : List KeptShelf). changed_by (Some (shelf_of inside.buckets.items number)) change xs) c.deref_mut.ensures.value
    ∙ ap (λ (n : ℕ). changed_by (Some n) change inside.shelves.items) (sym shelf) in
    subst (IsMissedBeside c.shelf_number-shelf.result inside.missed) (sym (c.deref-then-not-ends_idle-3.ensures.value ∙ items ∙ returned))
    (missed-beside c.shelf_number-shelf.result change inside.missed inside.shelves.items c.self.invariant.5)

-- one number is not another
apart : (m n : ℕ) → m ≡ n → (m == n) ≡ false → ⊥
apart m n same h = grind arith

pub invariant_of-self : goal.invariant_of-self
invariant_of-self c =
    let inside = c.self.inside in
    let number = c.args.number in
    let width = width_of c.deref_mut.result.now (shelf_of c.deref_mut-2.result.now number) in
    let shelf : c.shelf_number-shelf.result ≡ shelf_of inside.buckets.items number =
    c.shelf_number-shelf.ensures ∙ ap (λ (bs : List LinkedBucket). shelf_of bs number) c.deref-3.ensures.value in
    let lowers = returned_kept (nat_le (live_of inside.buckets.items number) 1) in
    let shelves : (with_items inside.shelves c.return_item.new.shelves).items ≡ changed_by (Some c.shelf_number-shelf.result) lowers inside.shelves.items =
    with_items_is inside.shelves c.return_item.new.shelves (omega (arith, c.return_item.auto.shelves, c.deref_mut.ensures.len))
    ∙ c.return_item.ensures.shelves
    ∙ ap (λ (bs : List LinkedBucket). changed_by (Some (shelf_of bs number)) (returned_kept (nat_le (live_of bs number) 1)) c.deref_mut.result.now) c.deref_mut-2.ensures.value
    ∙ ap (λ (xs : List KeptShelf). changed_by (Some (shelf_of inside.buckets.items number)) lowers xs) c.deref_mut.ensures.value
    ∙ ap (λ (n : ℕ). changed_by (Some n) lowers inside.shelves.items) (sym shelf) in
    let below : AreBelow inside.heights (with_items inside.shelves c.return_item.new.shelves).items =
    subst (AreBelow inside.heights) (sym shelves) (below-kept c.shelf_number-shelf.result lowers inside.heights inside.shelves.items (λ x _. refl) c.self.invariant.4) in
    let within : number < length inside.buckets.items = subst (λ (stored : Stored). number < length stored.buckets) (sym c.self.view_is) c.requires.number in
    let one = is-there number inside.buckets.items within in
    let items : (with_items inside.buckets c.return_item.new.buckets).items ≡ c.return_item.new.buckets =
    with_items_is inside.buckets c.return_item.new.buckets (omega (arith, c.return_item.auto.buckets, c.deref_mut-2.ensures.len)) in
    let returned : c.return_item.new.buckets ≡ changed_by (Some number) (returned_record width) inside.buckets.items =
    c.return_item.ensures.buckets ∙ ap (λ (bs : List LinkedBucket). changed_by (Some number) (returned_record width) bs) c.deref_mut-2.ensures.value in
    let room : c.room_of-room.result ≡ record_room one.bucket = c.room_of-room.ensures one.bucket (ap (λ (bs : List LinkedBucket). slice_get bs number) c.deref-4.ensures.value ∙ one.at) in
    let before = (goal.at.invariant_of-self c).After-room_of-room in
    let first : c.first_bucket-first.result ≡ c.index.result.now.shelf.first_bucket =
    c.first_bucket-first.ensures
    ∙ ap (λ (xs : List KeptShelf). first_bucket_of xs c.shelf_number-shelf.result) (c.deref-then-not-ends_idle-2.ensures.value ∙ shelves)
    ∙ first-kept c.shelf_number-shelf.result lowers inside.shelves.items c.index.result.now (shelf-there before) in
    let row : IsInRow (shelf_of inside.buckets.items number) number inside.shelves.items inside.buckets.items =
    subst (λ (stored : Stored). IsInRow (shelf_of stored.buckets number) number stored.shelves stored.buckets) (sym c.self.view_is) c.requires.row in
    let begin : first_bucket_of inside.shelves.items (shelf_of inside.buckets.items number) ≡ c.first_bucket-first.result =
    ap (first_bucket_of inside.shelves.items) (sym shelf) ∙ ap (λ (o : Option KeptShelf). option_map_or (λ (one : KeptShelf). one.shelf.first_bucket) o None) (shelf-there before) ∙ sym first in
    let known : IsRest c.know.new.self (changed_by (Some number) (returned_record width) inside.buckets.items) =
    subst (λ (n : ℕ). IsRest c.know.new.self (changed_by (Some n) (returned_record width) inside.buckets.items)) c.know.ensures.bucket
    (known-beside (returned_record width) c.know.new.self inside.buckets.items (links-same width) (places-same width)
    (c.know.ensures.known inside.buckets.items one.bucket one.at room (ap (widest_from most_buckets inside.buckets.items) first ∙ widest-is before) (subst (λ (at : Option ℕ). IsIn inside.buckets.items at number) begin row) c.self.invariant.2)) in (
      subst (AreKnown c.follow_returned.new.self) c.deref-then-not-ends_idle.ensures.value c.follow_returned.ensures,
      subst (AreSpans c.track.new.self) c.deref-5.ensures.value c.track.ensures,
      subst (IsRest c.know.new.self) (sym (items ∙ returned)) known,
      subst (AreCounted c.follow_return.new.self) (sym (items ∙ returned))
          (followed number c.room_of-room.result (returned_record width) inside.buckets.items c.deref-6.result.now one.bucket inside.rooms c.follow_return.new.self (c.deref-6.ensures.value ∙ items ∙ returned) one.at
          (c.room_of-room.ensures one.bucket (ap (λ (bs : List LinkedBucket). slice_get bs number) c.deref-4.ensures.value ∙ one.at)) c.self.invariant.3 c.follow_return.ensures),
      below,
      subst (IsMissed c.follow.new.self) c.deref-then-not-ends_idle-3.ensures.value c.follow.ensures,
    )

pub follow_dropped-requires : goal.follow_dropped-requires
follow_dropped-requires c =
    let inside = c.self.inside in
    let number = c.args.number in
    let shelf : c.shelf_number-shelf.result ≡ shelf_of inside.buckets.items number =
    c.shelf_number-shelf.ensures ∙ ap (λ (bs : List LinkedBucket). shelf_of bs number) c.deref-3.ensures.value in
    let change = returned_kept (nat_le (live_of inside.buckets.items number) 1) in
    let items : (with_items inside.shelves c.return_item.new.shelves).items ≡ c.return_item.new.shelves =
    with_items_is inside.shelves c.return_item.new.shelves (omega (arith, c.return_item.auto.shelves, c.deref_mut.ensures.len)) in
    let returned : c.return_item.new.shelves ≡ changed_by (Some c.shelf_number-shelf.result) change inside.shelves.items =
    c.return_item.ensures.shelves
    ∙ ap (λ (bs : List LinkedBucket). changed_by (Some (shelf_of bs number)) (returned_kept (nat_le (live_of bs number) 1)) c.deref_mut.result.now) c.deref_mut-2.ensures.value
    ∙ ap (λ (xs : List KeptShelf). changed_by (Some (shelf_of inside.buckets.items number)) change xs) c.deref_mut.ensures.value
    ∙ ap (λ (n : ℕ). changed_by (Some n) change inside.shelves.items) (sym shelf) in
    let left = ap (λ (done : Dropping). done.stored.shelves) c.drop_idle_end-dropped.ensures.dropped in
    let some : AreSome (with_items inside.shelves c.return_item.new.shelves).items c.drop_idle_end-dropped.new.shelves.items =
    subst (AreSome (with_items inside.shelves c.return_item.new.shelves).items) (sym left)
    (some-dropped (vec_len (with_items inside.shelves c.return_item.new.shelves))
    (dropping_of (with_items inside.shelves c.return_item.new.shelves).items c.deref_mut-3.result.now inside.unused 0)) in
    let known : AreOthersKnown c.shelf_number-shelf.result inside.blocks (with_items inside.shelves c.return_item.new.shelves).items =
    subst (AreOthersKnown c.shelf_number-shelf.result inside.blocks) (sym (items ∙ returned))
    (known-others c.shelf_number-shelf.result change inside.blocks inside.shelves.items (λ x. refl) c.self.invariant.0) in
    subst (AreOthersKnown c.shelf_number-shelf.result inside.blocks) (sym c.deref-8.ensures.value)
    (others-some c.shelf_number-shelf.result inside.blocks (with_items inside.shelves c.return_item.new.shelves).items c.drop_idle_end-dropped.new.shelves.items some known)

pub follow_left-requires : goal.follow_left-requires
follow_left-requires c =
    let inside = c.self.inside in
    let number = c.args.number in
    let shelf : c.shelf_number-shelf.result ≡ shelf_of inside.buckets.items number =
    c.shelf_number-shelf.ensures ∙ ap (λ (bs : List LinkedBucket). shelf_of bs number) c.deref-3.ensures.value in
    let change = returned_kept (nat_le (live_of inside.buckets.items number) 1) in
    let items : (with_items inside.shelves c.return_item.new.shelves).items ≡ c.return_item.new.shelves =
    with_items_is inside.shelves c.return_item.new.shelves (omega (arith, c.return_item.auto.shelves, c.deref_mut.ensures.len)) in
    let returned : c.return_item.new.shelves ≡ changed_by (Some c.shelf_number-shelf.result) change inside.shelves.items =
    c.return_item.ensures.shelves
    ∙ ap (λ (bs : List LinkedBucket). changed_by (Some (shelf_of bs number)) (returned_kept (nat_le (live_of bs number) 1)) c.deref_mut.result.now) c.deref_mut-2.ensures.value
    ∙ ap (λ (xs : List KeptShelf). changed_by (Some (shelf_of inside.buckets.items number)) change xs) c.deref_mut.ensures.value
    ∙ ap (λ (n : ℕ). changed_by (Some n) change inside.shelves.items) (sym shelf) in
    let left = ap (λ (done : Dropping). done.stored.shelves) c.drop_idle_end-dropped.ensures.dropped in
    let some : AreSome (with_items inside.shelves c.return_item.new.shelves).items c.drop_idle_end-dropped.new.shelves.items =
    subst (AreSome (with_items inside.shelves c.return_item.new.shelves).items) (sym left)
    (some-dropped (vec_len (with_items inside.shelves c.return_item.new.shelves))
    (dropping_of (with_items inside.shelves c.return_item.new.shelves).items c.deref_mut-3.result.now inside.unused 0)) in
    let missed : IsMissedBeside c.shelf_number-shelf.result inside.missed (with_items inside.shelves c.return_item.new.shelves).items =
    subst (IsMissedBeside c.shelf_number-shelf.result inside.missed) (sym (items ∙ returned))
    (missed-beside c.shelf_number-shelf.result change inside.missed inside.shelves.items c.self.invariant.5) in
    subst (IsMissedBeside c.shelf_number-shelf.result inside.missed) (sym c.deref-9.ensures.value)
    (missed-some c.shelf_number-shelf.result inside.missed (with_items inside.shelves c.return_item.new.shelves).items c.drop_idle_end-dropped.new.shelves.items some missed)

pub invariant_of-self-2 : goal.invariant_of-self-2
invariant_of-self-2 c =
    let inside = c.self.inside in
    let number = c.args.number in
    let width = width_of c.deref_mut.result.now (shelf_of c.deref_mut-2.result.now number) in
    let shelf : c.shelf_number-shelf.result ≡ shelf_of inside.buckets.items number =
    c.shelf_number-shelf.ensures ∙ ap (λ (bs : List LinkedBucket). shelf_of bs number) c.deref-3.ensures.value in
    let lowers = returned_kept (nat_le (live_of inside.buckets.items number) 1) in
    let shelves : (with_items inside.shelves c.return_item.new.shelves).items ≡ changed_by (Some c.shelf_number-shelf.result) lowers inside.shelves.items =
    with_items_is inside.shelves c.return_item.new.shelves (omega (arith, c.return_item.auto.shelves, c.deref_mut.ensures.len))
    ∙ c.return_item.ensures.shelves
    ∙ ap (λ (bs : List LinkedBucket). changed_by (Some (shelf_of bs number)) (returned_kept (nat_le (live_of bs number) 1)) c.deref_mut.result.now) c.deref_mut-2.ensures.value
    ∙ ap (λ (xs : List KeptShelf). changed_by (Some (shelf_of inside.buckets.items number)) lowers xs) c.deref_mut.ensures.value
    ∙ ap (λ (n : ℕ). changed_by (Some n) lowers inside.shelves.items) (sym shelf) in
    let below : AreBelow inside.heights (with_items inside.shelves c.return_item.new.shelves).items =
    subst (AreBelow inside.heights) (sym shelves) (below-kept c.shelf_number-shelf.result lowers inside.heights inside.shelves.items (λ x _. refl) c.self.invariant.4) in
    let within : number < length inside.buckets.items = subst (λ (stored : Stored). number < length stored.buckets) (sym c.self.view_is) c.requires.number in
    let one = is-there number inside.buckets.items within in
    let items : (with_items inside.buckets c.return_item.new.buckets).items ≡ c.return_item.new.buckets =
    with_items_is inside.buckets c.return_item.new.buckets (omega (arith, c.return_item.auto.buckets, c.deref_mut-2.ensures.len)) in
    let returned : c.return_item.new.buckets ≡ changed_by (Some number) (returned_record width) inside.buckets.items =
    c.return_item.ensures.buckets ∙ ap (λ (bs : List LinkedBucket). changed_by (Some number) (returned_record width) bs) c.deref_mut-2.ensures.value in
    let counted : AreCounted c.follow_return.new.self (with_items inside.buckets c.return_item.new.buckets).items =
    subst (AreCounted c.follow_return.new.self) (sym (items ∙ returned))
    (followed number c.room_of-room.result (returned_record width) inside.buckets.items c.deref-6.result.now one.bucket inside.rooms c.follow_return.new.self (c.deref-6.ensures.value ∙ items ∙ returned) one.at
    (c.room_of-room.ensures one.bucket (ap (λ (bs : List LinkedBucket). slice_get bs number) c.deref-4.ensures.value ∙ one.at)) c.self.invariant.3 c.follow_return.ensures) in
    let buckets : (with_items (with_items inside.buckets c.return_item.new.buckets) c.drop_idle_end-dropped.new.buckets).items ≡ c.drop_idle_end-dropped.new.buckets =
    with_items_is (with_items inside.buckets c.return_item.new.buckets) c.drop_idle_end-dropped.new.buckets (omega (arith, c.drop_idle_end-dropped.auto.buckets, c.deref_mut-3.ensures.len)) in (
      subst (AreKnown c.follow_dropped.new.self) c.deref-8.ensures.value c.follow_dropped.ensures,
      c.forget_where_none.ensures.kept _ (subst (AreSpans c.drop_idle_end-dropped.new.spans) (sym buckets) c.drop_idle_end-dropped.ensures.spans),
      c.forget.ensures _,
      subst (AreCounted c.follow_return.new.self) (sym buckets)
          (counted-same c.follow_return.new.self (with_items inside.buckets c.return_item.new.buckets).items c.drop_idle_end-dropped.new.buckets counted
          (λ slot. ap (λ (done : Dropping). tally slot done.stored.buckets) c.drop_idle_end-dropped.ensures.dropped
          ∙ dropped-kept slot (vec_len (with_items inside.shelves c.return_item.new.shelves)) (dropping_of (with_items inside.shelves c.return_item.new.shelves).items c.deref_mut-3.result.now inside.unused 0)
          ∙ ap (tally slot) c.deref_mut-3.ensures.value)),
      c.forget_where_none.ensures.below _
          (below-some inside.heights (with_items inside.shelves c.return_item.new.shelves).items c.drop_idle_end-dropped.new.shelves.items
          (subst (AreSome (with_items inside.shelves c.return_item.new.shelves).items) (sym (ap (λ (done : Dropping). done.stored.shelves) c.drop_idle_end-dropped.ensures.dropped))
          (some-dropped (vec_len (with_items inside.shelves c.return_item.new.shelves)) (dropping_of (with_items inside.shelves c.return_item.new.shelves).items c.deref_mut-3.result.now inside.unused 0))) below),
      subst (IsMissed c.follow_left.new.self) c.deref-9.ensures.value c.follow_left.ensures,
    )

-- nothing is dropped where the last shelf holds something
pub returns-then-not-ends_idle-clause-records : goal.returns-then-not-ends_idle-clause-records
returns-then-not-ends_idle-clause-records c =
    let inside = c.self.inside in
    let number = c.args.number in
    let shelves : (with_items inside.shelves c.return_item.new.shelves).items ≡ changed_by (Some (shelf_of inside.buckets.items number)) (returned_kept (nat_le (live_of inside.buckets.items number) 1)) inside.shelves.items =
    with_items_is inside.shelves c.return_item.new.shelves (omega (arith, c.return_item.auto.shelves, c.deref_mut.ensures.len))
    ∙ c.return_item.ensures.shelves
    ∙ ap (λ (bs : List LinkedBucket). changed_by (Some (shelf_of bs number)) (returned_kept (nat_le (live_of bs number) 1)) c.deref_mut.result.now) c.deref_mut-2.ensures.value
    ∙ ap (λ (xs : List KeptShelf). changed_by (Some (shelf_of inside.buckets.items number)) (returned_kept (nat_le (live_of inside.buckets.items number) 1)) xs) c.deref_mut.ensures.value in
    let buckets : (with_items inside.buckets c.return_item.new.buckets).items ≡ changed_by (Some number) (returned_record (width_of inside.shelves.items (shelf_of inside.buckets.items number))) inside.buckets.items =
    with_items_is inside.buckets c.return_item.new.buckets (omega (arith, c.return_item.auto.buckets, c.deref_mut-2.ensures.len))
    ∙ c.return_item.ensures.buckets
    ∙ ap (λ (bs : List LinkedBucket). changed_by (Some number) (returned_record (width_of c.deref_mut.result.now (shelf_of bs number))) bs) c.deref_mut-2.ensures.value
    ∙ ap (λ (xs : List KeptShelf). changed_by (Some number) (returned_record (width_of xs (shelf_of inside.buckets.items number))) inside.buckets.items) c.deref_mut.ensures.value in
    let after = stored-returned number _ _ inside.shelves.items inside.buckets.items inside.unused shelves buckets ∙ ap (item_returned number) c.self.view_is in
    let last : ends_idle (item_returned number c.args.self.now).shelves ≡ false =
    subst (λ (stored : Stored). ends_idle stored.shelves ≡ false) after
    (ap ends_idle (sym c.deref-7.ensures.value) ∙ sym c.ends_idle.ensures ∙ c.if-not-ends_idle.true) in
    ap (λ (stored : Stored). dropping_from stored 0) after
    ∙ sym (none-dropped (length (item_returned number c.args.self.now).shelves) (dropping_from (item_returned number c.args.self.now) 0) last)
