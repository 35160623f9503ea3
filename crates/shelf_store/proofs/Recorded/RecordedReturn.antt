-- What a return leaves of an atlas: the state that its records spell, and what is counted beside them.
use Rattle.std.proofs.Common.{◌≡◌, ◌≢◌, ℕ, ◌+◌, ◌<◌, ◌≤◌, Bool, true, false, cond, None, Some, List, [], ◌∷◌, refl, ap, sym, subst, ◌∙◌, arith}
use Rattle.std.proofs.lemmas.Bool.{eqb-true}
use Rattle.std.specs.Prelude.{◌%◌, ◌==◌}
use Rattle.std.specs.List.{AllByRecursion}
use Rattle.etagere_base.proofs.EachLemmas.{Each-weaken}
use Rattle.etagere_base.specs.Lists.{times}
use Rattle.etagere_base.specs.declared.frames.Frame.{Frame}
use Rattle.shelf_records.specs.declared.records.LinkedItem.{LinkedItem}
use Rattle.etagere_links.proofs.ListEnds.{times-other}
use Rattle.shelf_records.specs.RecordLists.{Records, walked_lists}
use Rattle.shelf_heights.proofs.ByHeight.Edited.{bounded_as}
use Rattle.shelf_heights.specs.Private.ByHeight.{bound_of, numbers_by_height}
use Rattle.shelf_model.specs.Atlas.{KeepsPromises, without_id}
use Rattle.shelf_model.specs.Places.{allocations}
use Rattle.shelf_records.specs.AtlasRecords.{is_allocated_at, item_at, shelf_of}
use Rattle.shelf_store.specs.Private.Settling.{AreByHeightExceptNoted}
use Rattle.shelf_notes.specs.Private.Pending.{Notes, is_noted, is_parked, is_in_use}
use Rattle.shelf_store.specs.Private.ItemReturned.{CanReturn, item_returned, unused_by}
use Rattle.shelf_records.specs.Private.Kept.{AreKept, bare, state_of}
use Rattle.shelf_store.specs.Private.ReturnedNotes.{AreReturnedNotes, CanReturnByHeight, freed_width, list_returned, returned_notes}
use Rattle.shelf_store.specs.Private.SecondWidths.{AreSeconds, returned_seconds}
use Rattle.shelf_store.proofs.ByHeight.LateNotes.{late-holds}
use Rattle.shelf_store.proofs.ByHeight.LaterNotes.{returned-later}
use Rattle.shelf_store.proofs.ByHeight.NumberedShelves.{IsBoundOf}
use Rattle.shelf_records.specs.Private.Reading.{record_of, recorded_area}
use Rattle.shelf_model.specs.Returning.{has_id, returned}
use Rattle.shelf_model.specs.Space.{allocated_space}
use Rattle.shelf_model.specs.State.{AtlasState, items_in_use}
use Rattle.shelf_heights.specs.declared.by_height.BoundedShelf.{BoundedShelf}
use Rattle.shelf_model.proofs.Promises.{promises}
use Rattle.shelf_store.proofs.Recorded.RecordedArea.{kept-area}
use Rattle.shelf_records.proofs.Recorded.RecordsOfIds.{marked-within, record-marked}
use Rattle.shelf_model.proofs.Returned.ReturnedAllocated.{returned-allocated}
use Rattle.shelf_records.proofs.Spelled.EntryValues.{id_at}
use Rattle.shelf_notes.proofs.Noted.{once-true}
use Rattle.shelf_store.proofs.Spelled.ItemReturned.{ReturnsItem, allocated-id, returns-item}
use Rattle.shelf_records.proofs.Spelled.StandsKept.{witnesses}

-- what holds after the item of an id was returned, of the records, of how many became unused, and of its area
pub record AfterReturn (frame : Frame) (records : Records) (id : ℕ) (new : Records) (made_unused area : ℕ) : Type 0 where
  pub kept : AreKept frame new
  pub state : state_of frame new ≡ returned (state_of frame records) id
  pub counted : items_in_use (state_of frame new).shelves + made_unused ≡ items_in_use (state_of frame records).shelves
  pub space : allocated_space (state_of frame new) + area ≡ allocated_space (state_of frame records)
  pub allocated : allocations (state_of frame new) ≡ without_id id (allocations (state_of frame records))
  pub promises_after : KeepsPromises (state_of frame new)

-- the record that an id names has that id
named-id : (items : List LinkedItem) (id number : ℕ) → record_of items id ≡ Some number → id_at items number ≡ id
named-id items id number names = by_test (has_id id (item_at items (id % 65536)).id) refl names
  where
    by_test : (b : Bool) → has_id id (item_at items (id % 65536)).id ≡ b → cond b (Some (id % 65536)) None ≡ Some number → id_at items number ≡ id
    by_test true e h =
        let same : id % 65536 ≡ number = cc in
        let has : has_id id (item_at items number).id ≡ true = rw (← same) e in
        let owner : (item_at items number).id ≡ Some (id_at items number) = allocated-id items number number (record-marked items id number names).0 in
        eqb-true (id_at items number) id (sym (ap (has_id id) owner) ∙ has)
    by_test false e h = absurd (cc)

-- what holds after the item of a record was returned
item_returned-after : (frame : Frame) (records : Records) (id number : ℕ) → AreKept frame records → record_of records.items id ≡ Some number
    → AfterReturn frame records id (item_returned number records) (unused_by number records) (recorded_area records number)
item_returned-after frame records id number kept named =
    let returns : ReturnsItem frame records number = returns-item frame records number kept (record-marked records.items id number named).0 in
    let state : state_of frame (item_returned number records) ≡ returned (state_of frame records) id =
    returns.state ∙ ap (returned (state_of frame records)) (named-id records.items id number named) in
    record {
      kept = returns.kept;
      state = state;
      counted = returns.counted;
      space = ap (λ (s : AtlasState). allocated_space s + recorded_area records number) state ∙ kept-area frame records id number kept named;
      allocated = ap allocations state ∙ returned-allocated (state_of frame records) id (witnesses kept).valid;
      promises_after = promises (state_of frame (item_returned number records)) (witnesses returns.kept).valid;
    }

-- what holds after a return, from what its steps answer
pub after-return : (frame : Frame) (records new : Records) (id number made_unused area : ℕ) → AreKept frame records → record_of records.items id ≡ Some number
    → new ≡ item_returned number records → made_unused ≡ unused_by number records → area ≡ recorded_area records number
    → AfterReturn frame records id new made_unused area
after-return frame records new id number made_unused area kept named made counts measures =
    subst (λ (r : Records). AfterReturn frame records id r made_unused area) (sym made)
    (subst (λ (n : ℕ). AfterReturn frame records id (item_returned number records) n area) (sym counts)
    (subst (λ (n : ℕ). AfterReturn frame records id (item_returned number records) (unused_by number records) n) (sym measures)
    (item_returned-after frame records id number kept named)))

-- the shelves stand by height after a return, but for those that have changed
by_height-after : (frame : Frame) (records : Records) (notes : Notes) (by_height : List BoundedShelf) (id number : ℕ) → AreKept frame records → is_parked notes (shelf_of records.items number) ≡ false → AreByHeightExceptNoted frame records notes by_height → record_of records.items id ≡ Some number
    → AreByHeightExceptNoted frame (item_returned number records) (returned_notes number records notes)
    (list_returned number records (returned_notes number records notes) by_height)
by_height-after frame records notes by_height id number kept unparked are named = (returns-item frame records number kept (record-marked records.items id number named).0).by_height notes by_height unparked are

-- the same where its shelf may be noted too
pub list-after : (frame : Frame) (records : Records) (notes new : Notes) (by_height : List BoundedShelf) (id number : ℕ) → AreKept frame records → is_parked notes (shelf_of records.items number) ≡ false → AreByHeightExceptNoted frame records notes by_height → record_of records.items id ≡ Some number
    → AreReturnedNotes number records notes new → AreByHeightExceptNoted frame (item_returned number records) new (list_returned number records new by_height)
list-after frame records notes new by_height id number kept unparked are named noted =
    let shelf : ℕ = shelf_of records.items number in
    let can = (returns-item frame records number kept (record-marked records.items id number named).0).can_by_height notes by_height unparked are in
    late-holds (bare frame (item_returned number records)) (walked_lists (item_returned number records)).entries (returned_notes number records notes) new shelf (freed_width records.items number) by_height
    (λ later. can.stands ((returned-later number records notes).before shelf later)) noted
    (by_height-after frame records notes by_height id number kept unparked are named)

-- the shelf of the item of the record that an id names is in use
pub return-in_use : (frame : Frame) (records : Records) (notes : Notes) (by_height : List BoundedShelf) (id number : ℕ) → AreKept frame records → AreByHeightExceptNoted frame records notes by_height → record_of records.items id ≡ Some number
    → is_in_use notes (shelf_of records.items number) ≡ true
return-in_use frame records notes by_height id number kept are named =
    let returns : ReturnsItem frame records number = returns-item frame records number kept (record-marked records.items id number named).0 in
    once-true (is_in_use notes (shelf_of records.items number)) (omega (arith, are.in_use (shelf_of records.items number), returns.used))

-- the item of the record that an id names can be returned
pub can-return : (frame : Frame) (records : Records) (notes : Notes) (by_height : List BoundedShelf) (id number : ℕ) → AreKept frame records → is_parked notes (shelf_of records.items number) ≡ false → AreByHeightExceptNoted frame records notes by_height → record_of records.items id ≡ Some number
    → (number < 65535) × CanReturn number records × CanReturnByHeight (shelf_of records.items number) number records notes by_height
can-return frame records notes by_height id number kept unparked are named =
    let marked : is_allocated_at records.items number ≡ true = (record-marked records.items id number named).0 in
    let returns : ReturnsItem frame records number = returns-item frame records number kept marked in
    (omega (arith, marked-within records.items number marked, (witnesses kept).counts.items.1), returns.can, returns.can_by_height notes by_height unparked are)

-- the bound that a list has of a shelf is one of those that hold of it
bound-read : (P : ℕ → Type 0) (shelf : ℕ) (by_height : List BoundedShelf) → 1 ≤ times shelf (numbers_by_height by_height) → AllByRecursion (λ (one : BoundedShelf). one.shelf ≡ shelf → P one.widest) by_height → P (bound_of shelf by_height)
bound-read P shelf [] stands each = absurd (omega (arith, stands))
bound-read P shelf (one ∷ others) stands each = by_test (one.shelf == shelf) refl (λ later. bound-read P shelf others later each.1)
  where
    by_test : (b : Bool) → (one.shelf == shelf) ≡ b → (1 ≤ times shelf (numbers_by_height others) → P (bound_of shelf others)) → P (cond b one.widest (bound_of shelf others))
    by_test true e rest = each.0 (grind arith)
    by_test false e rest =
        let other : one.shelf ≢ shelf = grind arith in
        rest (omega (arith, stands, times-other shelf one.shelf (numbers_by_height others) other))

-- no more than one free item of each shelf passes the width that is kept of it after a return
pub seconds-after-return : (frame : Frame) (records : Records) (notes : Notes) (by_height : List BoundedShelf) (seconds : List ℕ) (id number : ℕ) → AreKept frame records → is_parked notes (shelf_of records.items number) ≡ false → AreByHeightExceptNoted frame records notes by_height → record_of records.items id ≡ Some number
    → freed_width records.items number ≤ 65535 → AreSeconds records seconds → AreSeconds (item_returned number records) (returned_seconds number records notes by_height seconds)
seconds-after-return frame records notes by_height seconds id number kept unparked are named narrow few =
    let returns : ReturnsItem frame records number = returns-item frame records number kept (record-marked records.items id number named).0 in
    let shelf : ℕ = shelf_of records.items number in
    let can = returns.can_by_height notes by_height unparked are in
    returns.seconds seconds (is_noted (returned_notes number records notes) shelf) (bound_of shelf by_height)
    (λ later.
    let unnoted : is_noted notes shelf ≡ false = (returned-later number records notes).before shelf later in
    bound-read (λ (bound : ℕ). IsBoundOf (bare frame records) (walked_lists records).entries (bounded_as shelf bound)) shelf by_height (can.stands unnoted)
    (Each-weaken (λ (one : BoundedShelf). is_noted notes one.shelf ≡ false → IsBoundOf (bare frame records) (walked_lists records).entries one)
    (λ (one : BoundedShelf). one.shelf ≡ shelf → IsBoundOf (bare frame records) (walked_lists records).entries (bounded_as shelf one.widest)) by_height
    (λ one bounds same. subst (λ (n : ℕ). IsBoundOf (bare frame records) (walked_lists records).entries (bounded_as n one.widest)) same (bounds (subst (λ (n : ℕ). is_noted notes n ≡ false) (sym same) unnoted))) are.bounds))
    narrow few
