use Rattle.std.proofs.Common.{ap, arith, length, subst, sym, ◌≡◌, ◌∙◌}
use Rattle.shelf_records.specs.Private.Kept.{AreKept}
use Rattle.shelf_records.specs.RecordLists.{Records, shelf_walk}
use Rattle.shelf_records.proofs.AllLists.LinkedWalks.{walked-numbers}
use Rattle.shelf_store.specs.Private.RecordsGrown.{records_grown}
use Rattle.shelf_store.proofs.ByHeight.KeptSeconds.{seconds-equal, unknown-seconds}
use Rattle.shelf_store.proofs.ByHeight.RoomByHeight.{shelves-count}
use Rattle.shelf_store.proofs.Grown.GrownLengths.{grown-count}
use Rattle.shelf_store.proofs.Grown.GrownNothing.{nothing-grown, by_height-elsewhere}
use Rattle.shelf_store.proofs.Grown.SameShelves.{grown-same}
use Rattle.shelf_store.specs.Private.SecondWidths.{AreSeconds}
use Rattle.shelf_store.specs.Private.Settling.{AreSettled}
use Rattle.shelf_store.proofs.growing.grow_shelves.Goals as goal

pub sort_shelves-requires-clause-room : goal.sort_shelves-requires-clause-room
sort_shelves-requires-clause-room c =
    let new : Records = (records_grown c.args.frame.now c.args.grown.now c.args.needed c.args.records.now).records in
    omega (
      arith,
      ap (λ (r : Records). length (shelf_walk r).met) c.in_ok-grow_records.ensures.ok,
      ap length (walked-numbers new (shelf_walk new).met),
      shelves-count c.args.grown.now new c.requires.kept,
      grown-count c.args.frame.now c.args.grown.now c.args.needed c.args.records.now,
      c.in_ok-reserve_shelves.ensures.room,
    )

pub reorder_shelves-requires-clause-once : goal.reorder_shelves-requires-clause-once
reorder_shelves-requires-clause-once c =
    grown-same c.args.frame.now c.args.grown.now c.args.needed c.args.records.now c.grow_records.new.records c.args.by_height.now.items c.reserve_shelves.new.by_height.items
    c.requires.by_height c.reserve_shelves.ensures.items c.requires.needed (omega (arith, c.if-needed-gt0.false)) c.in_ok-grow_records.ensures.ok

pub returns-then-needed-gt0-clause-room : goal.returns-then-needed-gt0-clause-room
returns-then-needed-gt0-clause-room c =
    omega (
      arith,
      ap (λ (r : Records). length r.shelves) c.in_ok-grow_records.ensures.ok,
      grown-count c.args.frame.now c.args.grown.now c.args.needed c.args.records.now,
      c.in_ok-reserve_shelves.ensures.room,
      c.sort_shelves.ensures.capacity,
    )

pub returns-then-is_extended-clause-room : goal.returns-then-is_extended-clause-room
returns-then-is_extended-clause-room c =
    omega (
      arith,
      ap (λ (r : Records). length r.shelves) c.in_ok-grow_records.ensures.ok,
      grown-count c.args.frame.now c.args.grown.now c.args.needed c.args.records.now,
      c.in_ok-reserve_shelves.ensures.room,
      c.reorder_shelves.ensures.capacity,
    )

pub returns-else-is_extended-clause-room : goal.returns-else-is_extended-clause-room
returns-else-is_extended-clause-room c =
    omega (
      arith,
      ap (λ (r : Records). length r.shelves) c.in_ok-grow_records.ensures.ok,
      grown-count c.args.frame.now c.args.grown.now c.args.needed c.args.records.now,
      c.in_ok-reserve_shelves.ensures.room,
    )

pub returns-else-is_extended-clause-by_height : goal.returns-else-is_extended-clause-by_height
returns-else-is_extended-clause-by_height c =
    let frame = c.args.frame.now in
    let grown = c.args.grown.now in
    let records = c.args.records.now in
    by_height-elsewhere frame grown records c.grow_records.new.records c.args.by_height.now.items c.reserve_shelves.new.by_height.items
    (c.in_ok-grow_records.ensures.ok ∙ nothing-grown frame grown c.args.needed records c.requires.needed (sym c.is_extended.ensures ∙ c.if-is_extended.false))
    c.reserve_shelves.ensures.items c.requires.by_height

pub settle_notes-requires-clause-list : goal.settle_notes-requires-clause-list
settle_notes-requires-clause-list c = record {
  frame = c.args.grown.now;
  kept = subst (AreKept c.args.grown.now) (sym c.in_ok-grow_records.ensures.ok) c.requires.kept;
  by_height = c.sort_shelves.ensures.by_height;
}

pub settle_notes-requires-then-is_extended-clause-list : goal.settle_notes-requires-then-is_extended-clause-list
settle_notes-requires-then-is_extended-clause-list c = record {
  frame = c.args.grown.now;
  kept = subst (AreKept c.args.grown.now) (sym c.in_ok-grow_records.ensures.ok) c.requires.kept;
  by_height = c.reorder_shelves.ensures.by_height;
}

pub settle_notes-requires-clause-room : goal.settle_notes-requires-clause-room
settle_notes-requires-clause-room c =
    omega (
      arith,
      ap (λ (r : Records). length r.shelves) c.in_ok-grow_records.ensures.ok,
      grown-count c.args.frame.now c.args.grown.now c.args.needed c.args.records.now,
      c.in_ok-reserve_shelves.ensures.room_to_note,
    )

pub settle_notes-requires-then-is_extended-clause-room : goal.settle_notes-requires-then-is_extended-clause-room
settle_notes-requires-then-is_extended-clause-room c =
    omega (
      arith,
      ap (λ (r : Records). length r.shelves) c.in_ok-grow_records.ensures.ok,
      grown-count c.args.frame.now c.args.grown.now c.args.needed c.args.records.now,
      c.in_ok-reserve_shelves.ensures.room_to_note,
    )

pub returns-then-needed-gt0-clause-room_to_note : goal.returns-then-needed-gt0-clause-room_to_note
returns-then-needed-gt0-clause-room_to_note c =
    omega (
      arith,
      ap (λ (r : Records). length r.shelves) c.in_ok-grow_records.ensures.ok,
      grown-count c.args.frame.now c.args.grown.now c.args.needed c.args.records.now,
      c.in_ok-reserve_shelves.ensures.room_to_note,
      c.settle_notes.ensures.room,
    )

pub returns-then-is_extended-clause-room_to_note : goal.returns-then-is_extended-clause-room_to_note
returns-then-is_extended-clause-room_to_note c =
    omega (
      arith,
      ap (λ (r : Records). length r.shelves) c.in_ok-grow_records.ensures.ok,
      grown-count c.args.frame.now c.args.grown.now c.args.needed c.args.records.now,
      c.in_ok-reserve_shelves.ensures.room_to_note,
      c.settle_notes-then-is_extended.ensures.room,
    )

pub returns-else-is_extended-clause-settled : goal.returns-else-is_extended-clause-settled
returns-else-is_extended-clause-settled c =
    let frame = c.args.frame.now in
    let grown = c.args.grown.now in
    let records = c.args.records.now in
    subst (λ (r : Records). AreSettled r c.reserve_shelves.new.pending.notes)
    (sym (c.in_ok-grow_records.ensures.ok ∙ nothing-grown frame grown c.args.needed records c.requires.needed (sym c.is_extended.ensures ∙ c.if-is_extended.false)))
    (subst (AreSettled records) (sym c.reserve_shelves.ensures.notes) c.requires.settled)

pub returns-then-needed-gt0-clause-seconds : goal.returns-then-needed-gt0-clause-seconds
returns-then-needed-gt0-clause-seconds c _ =
    unknown-seconds c.args.grown.now c.grow_records.new.records c.restart.new.self
    (subst (AreKept c.args.grown.now) (sym c.in_ok-grow_records.ensures.ok) c.requires.kept) c.restart.ensures.unknown

pub returns-then-is_extended-clause-seconds : goal.returns-then-is_extended-clause-seconds
returns-then-is_extended-clause-seconds c _ =
    unknown-seconds c.args.grown.now c.grow_records.new.records c.restart-then-is_extended.new.self
    (subst (AreKept c.args.grown.now) (sym c.in_ok-grow_records.ensures.ok) c.requires.kept) c.restart-then-is_extended.ensures.unknown

pub returns-else-is_extended-clause-seconds : goal.returns-else-is_extended-clause-seconds
returns-else-is_extended-clause-seconds c few =
    let frame = c.args.frame.now in
    let grown = c.args.grown.now in
    let records = c.args.records.now in
    let same : c.grow_records.new.records ≡ records =
    c.in_ok-grow_records.ensures.ok ∙ nothing-grown frame grown c.args.needed records c.requires.needed (sym c.is_extended.ensures ∙ c.if-is_extended.false) in
    subst (λ (r : Records). AreSeconds r c.reserve_shelves.new.seconds) (sym same)
    (seconds-equal records c.args.seconds.now c.reserve_shelves.new.seconds c.reserve_shelves.ensures.seconds few)
