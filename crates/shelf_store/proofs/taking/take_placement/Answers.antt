use Rattle.std.proofs.Common.{◌≡◌, ℕ, ◌+◌, ◌≤◌, Option, ap, arith, length, refl, rules, sym, if◌then◌else◌}
use Rattle.shelf_records.specs.RecordLists.{Records}
use Rattle.shelf_records.specs.RecordUses.{missing, rests_of}
use Rattle.shelf_records.specs.Records.{shelf_chain}
use Rattle.shelf_model.specs.Choice.{Placement}
use Rattle.shelf_notes.specs.Private.Pending.{Notes}
use Rattle.shelf_store.specs.Private.PlacementTaken.{placement_taken, shelf_split_for, with_item_given}
use Rattle.shelf_store.proofs.ByHeight.RoomByHeight.{taken-count}
use Rattle.shelf_store.proofs.ByHeight.SplitOrders.{length-given}
use Rattle.shelf_store.proofs.taking.take_placement.Goals as goal
use Rattle.shelf_store.proofs.taking.take_placement.Goals.{then-found+in_ok-reserve_shelves, else-found}

pub returns-clause-room : goal.returns-clause-room
returns-clause-room c =
    let records = c.args.records.now in
    let made : c.set_empty_present.new.self ≡ placement_taken c.args.column_width c.args.found.now records = search rules in
    let split = sym (ap (λ (p : Placement). p.splits_shelf) c.found.view_is) in
    let room : length records.shelves + missing shelf_chain (if c.args.found.now.splits_shelf then 1 else 0) records.unused_shelves records.shelves ≤ c.if-found.by_height.capacity =
    elim c.if-found.branch [
      | then-found+in_ok-reserve_shelves w ↦ rw (w.by_height-is, split, w.if-found.true) w.in_ok-reserve_shelves.ensures.room
      | else-found w ↦ rw (w.by_height-is, split, w.if-found.false) (omega (arith, c.requires.room))
    ] in
    omega (
      arith,
      ap (λ (r : Records). length r.shelves) made,
      taken-count c.args.column_width c.args.found.now records,
      room,
    )

pub returns-clause-room_to_note : goal.returns-clause-room_to_note
returns-clause-room_to_note c =
    let records = c.args.records.now in
    let made : c.set_empty_present.new.self ≡ placement_taken c.args.column_width c.args.found.now records = search rules in
    let split = sym (ap (λ (p : Placement). p.splits_shelf) c.found.view_is) in
    let room : length records.shelves + missing shelf_chain (if c.args.found.now.splits_shelf then 1 else 0) records.unused_shelves records.shelves ≤ c.if-found.pending.room =
    elim c.if-found.branch [
      | then-found+in_ok-reserve_shelves w ↦ rw (w.pending-is, split, w.if-found.true) w.in_ok-reserve_shelves.ensures.room_to_note
      | else-found w ↦ rw (w.pending-is, split, w.if-found.false) (omega (arith, c.requires.room_to_note))
    ] in
    omega (
      arith,
      ap (λ (r : Records). length r.shelves) made,
      taken-count c.args.column_width c.args.found.now records,
      room,
      c.make_shelf_rest.ensures.room,
    )

pub make_shelf_rest-requires-clause-known : goal.make_shelf_rest-requires-clause-known
make_shelf_rest-requires-clause-known c =
    let same : c.if-found.pending.notes ≡ c.args.pending.now.notes =
    elim c.if-found.branch [
      | then-found+in_ok-reserve_shelves w ↦ rw w.pending-is w.in_ok-reserve_shelves.ensures.notes
      | else-found w ↦ rw w.pending-is refl
    ] in
    omega (arith, ap (λ (n : Notes). length n.standing) same, c.requires.there, c.requires.known)

pub set_empty_present-requires : goal.set_empty_present-requires
set_empty_present-requires c =
    let records : Records = c.args.records.now in
    let found : Placement = c.args.found.now in
    let rest : Option ℕ = (rests_of found.splits_shelf found.splits_item records).item in
    let split : Records = shelf_split_for c.args.column_width found records in
    let given : c.give_item.new.records ≡ with_item_given found rest split = search rules in
    omega (
      arith,
      ap (λ (p : Placement). p.shelf) c.found.view_is,
      ap (λ (r : Records). length r.shelves) given,
      length-given found rest split,
      c.requires.takes.there.shelf,
    )
