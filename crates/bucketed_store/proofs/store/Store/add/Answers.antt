use Rattle.std.proofs.Common.{length, ap, arith, subst, sym, ◌∙◌}
use Rattle.bucketed_model.specs.Adding.{NewShelves, news_of}
use Rattle.bucketed_records.specs.Private.Store.{Stored}
use Rattle.bucket_index.specs.Private.Blocks.{AreKnown}
use Rattle.bucket_index.specs.Private.Heights.{AreBelow}
use Rattle.bucket_index.specs.Private.Missed.{IsMissed}
use Rattle.bucket_index.specs.Private.Rest.{IsRest}
use Rattle.bucket_index.specs.Private.Rooms.{AreCounted}
use Rattle.bucket_index.specs.Private.Spans.{AreSpans}
use Rattle.bucketed_store.specs.Private.StoreEdits.{IsShort, stored_shelf, stored_shelves}
use Rattle.bucketed_store.proofs.Spelling.MadeLengths.{filler-keeps}
use Rattle.bucketed_store.proofs.Spelling.MadeShelves.{first-short, second-short}
use Rattle.bucketed_store.specs.declared.store.Store.TheInside.{Inside}
use Rattle.bucketed_store.proofs.store.Store.add.Goals as goal
use Rattle.bucketed_store.proofs.store.Store.add.Goals.{in-Some, in_default}

pub add_shelf-requires-clause-bucket_room : goal.add_shelf-requires-clause-bucket_room
add_shelf-requires-clause-bucket_room c =
    let stored : Stored = record { shelves = c.self.inside.shelves.items; buckets = c.self.inside.buckets.items; unused = c.self.inside.unused } in
    let fills = ap (λ (n : NewShelves). n.filler) (sym c.news.view_is) ∙ c.in-Some.is in
    rw (c.reserve.ensures.items, c.in_ok-reserve_records.ensures.same)
    (omega (
      arith,
      filler-keeps c.args.frame.now c.in-Some.filler c.args.news.now stored fills,
      ap (λ (s : Stored). length (stored_shelves c.args.frame.now (news_of c.args.news.now) s).buckets) c.self.view_is,
      ap (λ (s : Stored). length s.buckets) c.self.view_is,
      c.requires.news.records,
      c.total_count.ensures,
      c.in_ok-reserve_records.ensures.room,
      c.reserve_records.ensures.within,
      ap (λ bs. length bs) c.in_ok-reserve_records.ensures.same,
    ))

pub add_shelf-requires-clause-short : goal.add_shelf-requires-clause-short
add_shelf-requires-clause-short c =
    rw c.reserve.ensures.items
    (subst (λ (s : Stored). IsShort c.args.frame.now s.shelves) (sym c.self.view_is) (first-short c.args.frame.now c.args.news.now c.args.self.now c.requires.news.short))

pub add_shelf-requires-2-clause-short : goal.add_shelf-requires-2-clause-short
add_shelf-requires-2-clause-short c =
    let frame = c.args.frame.now in
    elim c.match-news.branch [
      | in-Some w ↦
          let fills = ap (λ (n : NewShelves). n.filler) (sym c.news.view_is) ∙ w.in-Some.is in
          subst (λ (inside : Inside). IsShort frame inside.shelves.items) (sym w.self-inside-is)
          (rw (w.add_shelf.ensures.shelves, c.reserve.ensures.items, c.in_ok-reserve_records.ensures.same)
          (subst (λ (s : Stored). IsShort frame (stored_shelf frame w.in-Some.filler s).shelves) (sym c.self.view_is) (second-short frame c.args.news.now w.in-Some.filler c.args.self.now fills c.requires.news.short)))
      | in_default w ↦ subst (λ (inside : Inside). IsShort frame inside.shelves.items) (sym w.self-inside-is)
          (rw c.reserve.ensures.items (subst (λ (s : Stored). IsShort frame s.shelves) (sym c.self.view_is) (first-short frame c.args.news.now c.args.self.now c.requires.news.short)))
    ]

pub invariant_of-self : goal.invariant_of-self
invariant_of-self c = (subst (AreKnown c.self.inside.blocks) (sym c.reserve.ensures.items) c.self.invariant.0, c.self.invariant.1, c.self.invariant.2, c.self.invariant.3, subst (AreBelow c.self.inside.heights) (sym c.reserve.ensures.items) c.self.invariant.4, subst (IsMissed c.self.inside.missed) (sym c.reserve.ensures.items) c.self.invariant.5)

pub invariant_of-self-in_err-reserve_records : goal.invariant_of-self-in_err-reserve_records
invariant_of-self-in_err-reserve_records c =
    (subst (AreKnown c.self.inside.blocks) (sym c.reserve.ensures.items) c.self.invariant.0, subst (AreSpans c.self.inside.spans) (sym c.reserve_records.ensures.same) c.self.invariant.1, subst (IsRest c.self.inside.rest) (sym c.reserve_records.ensures.same) c.self.invariant.2, subst (AreCounted c.self.inside.rooms) (sym c.reserve_records.ensures.same) c.self.invariant.3, subst (AreBelow c.self.inside.heights) (sym c.reserve.ensures.items) c.self.invariant.4, subst (IsMissed c.self.inside.missed) (sym c.reserve.ensures.items) c.self.invariant.5)

pub add_shelf-requires-clause-known : goal.add_shelf-requires-clause-known
add_shelf-requires-clause-known c = subst (AreKnown c.self.inside.blocks) (sym c.reserve.ensures.items) c.self.invariant.0

pub add_shelf-requires-2-clause-known : goal.add_shelf-requires-2-clause-known
add_shelf-requires-2-clause-known c =
    elim c.match-news.branch [
      | in-Some w ↦ subst (λ (inside : Inside). AreKnown inside.blocks inside.shelves.items) (sym w.self-inside-is) w.add_shelf.ensures.known
      | in_default w ↦ subst (λ (inside : Inside). AreKnown inside.blocks inside.shelves.items) (sym w.self-inside-is) (subst (AreKnown c.self.inside.blocks) (sym c.reserve.ensures.items) c.self.invariant.0)
    ]

pub add_shelf-requires-clause-spans : goal.add_shelf-requires-clause-spans
add_shelf-requires-clause-spans c = subst (AreSpans c.self.inside.spans) (sym c.in_ok-reserve_records.ensures.same) c.self.invariant.1

pub add_shelf-requires-2-clause-spans : goal.add_shelf-requires-2-clause-spans
add_shelf-requires-2-clause-spans c =
    elim c.match-news.branch [
      | in-Some w ↦ subst (λ (inside : Inside). AreSpans inside.spans inside.buckets.items) (sym w.self-inside-is) w.add_shelf.ensures.spans
      | in_default w ↦ subst (λ (inside : Inside). AreSpans inside.spans inside.buckets.items) (sym w.self-inside-is) (subst (AreSpans c.self.inside.spans) (sym c.in_ok-reserve_records.ensures.same) c.self.invariant.1)
    ]

pub invariant_of-self-2 : goal.invariant_of-self-2
invariant_of-self-2 c = (c.add_shelf-2.ensures.known, c.add_shelf-2.ensures.spans, c.forget.ensures _, c.add_shelf-2.ensures.rooms, c.add_shelf-2.ensures.below, c.add_shelf-2.ensures.missed)

pub add_shelf-requires-clause-below : goal.add_shelf-requires-clause-below
add_shelf-requires-clause-below c = subst (AreBelow c.self.inside.heights) (sym c.reserve.ensures.items) c.self.invariant.4

pub add_shelf-requires-2-clause-below : goal.add_shelf-requires-2-clause-below
add_shelf-requires-2-clause-below c =
    elim c.match-news.branch [
      | in-Some w ↦ subst (λ (inside : Inside). AreBelow inside.heights inside.shelves.items) (sym w.self-inside-is) w.add_shelf.ensures.below
      | in_default w ↦ subst (λ (inside : Inside). AreBelow inside.heights inside.shelves.items) (sym w.self-inside-is) (subst (AreBelow c.self.inside.heights) (sym c.reserve.ensures.items) c.self.invariant.4)
    ]

pub add_shelf-requires-clause-rooms : goal.add_shelf-requires-clause-rooms
add_shelf-requires-clause-rooms c = subst (AreCounted c.self.inside.rooms) (sym c.in_ok-reserve_records.ensures.same) c.self.invariant.3

pub add_shelf-requires-2-clause-rooms : goal.add_shelf-requires-2-clause-rooms
add_shelf-requires-2-clause-rooms c =
    elim c.match-news.branch [
      | in-Some w ↦ subst (λ (inside : Inside). AreCounted inside.rooms inside.buckets.items) (sym w.self-inside-is) w.add_shelf.ensures.rooms
      | in_default w ↦ subst (λ (inside : Inside). AreCounted inside.rooms inside.buckets.items) (sym w.self-inside-is) (subst (AreCounted c.self.inside.rooms) (sym c.in_ok-reserve_records.ensures.same) c.self.invariant.3)
    ]

pub add_shelf-requires-clause-missed : goal.add_shelf-requires-clause-missed
add_shelf-requires-clause-missed c = subst (IsMissed c.self.inside.missed) (sym c.reserve.ensures.items) c.self.invariant.5

pub add_shelf-requires-2-clause-missed : goal.add_shelf-requires-2-clause-missed
add_shelf-requires-2-clause-missed c =
    elim c.match-news.branch [
      | in-Some w ↦ subst (λ (inside : Inside). IsMissed inside.missed inside.shelves.items) (sym w.self-inside-is) w.add_shelf.ensures.missed
      | in_default w ↦ subst (λ (inside : Inside). IsMissed inside.missed inside.shelves.items) (sym w.self-inside-is) (subst (IsMissed c.self.inside.missed) (sym c.reserve.ensures.items) c.self.invariant.5)
    ]
