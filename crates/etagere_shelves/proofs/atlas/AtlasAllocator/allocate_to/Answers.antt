use Rattle.std.specs.Prelude.{OnErr, Result, Ok, Err, Some}
use Rattle.std.proofs.Common.{◌≤◌, List, ap, length, refl, sym, subst, arith, ◌∙◌, ◌≡◌, ℕ, Bool, true, false}
use Rattle.etagere_base.specs.Rectangles.{IsLarge}
use Rattle.etagere_base.specs.declared.ids.Allocation.{Allocation}
use Rattle.shelf_records.specs.RecordLists.{Records, walked_lists}
use Rattle.shelf_model.specs.Atlas.{Adds, Allocates, KeepsPromises, NeedsSplit}
use Rattle.shelf_model.specs.Choice.{Placement}
use Rattle.shelf_model.specs.ById.{IsClear, KeepsRectangles}
use Rattle.shelf_model.specs.Places.{allocations, rectangle_of}
use Rattle.etagere_shelves.specs.Plain.{allocation_in, rectangle_in}
use Rattle.etagere_shelves.specs.Private.Consistent.{state_in}
use Rattle.etagere_shelves.specs.declared.atlas.AtlasAllocator.TheInside.{Inside}
use Rattle.shelf_heights.specs.Private.ByHeight.{AreByHeightFor, numbers_by_height}
use Rattle.shelf_store.proofs.ByHeight.KeptSeconds.{seconds-equal}
use Rattle.shelf_search.specs.Private.Searching.{list_follows}
use Rattle.shelf_store.specs.Private.SecondWidths.{AreSeconds}
use Rattle.shelf_store.specs.Private.Settling.{AreByHeightExceptNoted}
use Rattle.shelf_records.specs.Private.Kept.{state_of, bare}
use Rattle.shelf_notes.specs.Private.Pending.{Notes}
use Rattle.shelf_store.specs.Private.PlacementTaken.{taken_notes}
use Rattle.shelf_model.specs.State.{AtlasState}
use Rattle.shelf_heights.specs.declared.by_height.BoundedShelf.{BoundedShelf}
use Rattle.shelf_model.proofs.Allocations.SeenById.{added-clear, keeps-rectangles}
use Rattle.shelf_store.proofs.ByHeight.RoomByHeight.{items-short}
use Rattle.shelf_model.proofs.Promises.{promises}
use Rattle.shelf_store.proofs.Recorded.RecordedTaking.{AfterTaking, after-taking, found-as_placed, found-follows, found-seconds, found-stands, found-there, found-noted}
use Rattle.shelf_store.proofs.Spelled.TakenPremises.{can-take}
use Rattle.etagere_base.proofs.FrameSides.{column_width-le, sides_low}
use Rattle.shelf_records.proofs.Spelled.StandsKept.{witnesses}
use Rattle.shelf_store.proofs.ByHeight.ParkedShelves.{searched-holds}
use Rattle.etagere_base.proofs.AskedSides.{asked-sides}
use Rattle.shelf_model.proofs.Chosen.PlacedSizes.{asked-short}
use Rattle.etagere_shelves.proofs.atlas.AtlasAllocator.allocate_to.Goals as goal

on_err : {T E P : Type 0} (r : Result T E) → P → OnErr r P
on_err (Ok x) p = tt
on_err (Err e) p = p

pub returns-in_default-found-clause-promises : goal.returns-in_default-found-clause-promises
returns-in_default-found-clause-promises c = promises (state_in c.self.inside) (witnesses c.self.invariant.kept).valid

pub rectangle-rectangle-requires : goal.rectangle-rectangle-requires
rectangle-rectangle-requires c =
    let inside = c.self.inside in
    let as_placed = found-as_placed inside.frame inside.records c.args.size c.in-Some-found.placement c.self.invariant.kept (c.in-Some-found.ensures.some c.args.size (sym c.in-Some.ensures)) in
    record { right = as_placed.right; bottom = as_placed.bottom }

pub take_found-requires-clause-takes : goal.take_found-requires-clause-takes
take_found-requires-clause-takes c =
    let inside = c.self.inside in
    let finds = (c.in-Some-found.ensures.some c.args.size (sym c.in-Some.ensures)) in
    can-take inside.frame inside.records c.args.size finds.placement c.in-Some-found.placement c.self.invariant.kept finds.placed finds.located

pub take_found-requires-clause-there : goal.take_found-requires-clause-there
take_found-requires-clause-there c =
    let inside = c.self.inside in
    found-there inside.frame inside.records c.args.size c.in-Some-found.placement c.self.invariant.kept (c.in-Some-found.ensures.some c.args.size (sym c.in-Some.ensures))

pub take_found-requires-clause-room : goal.take_found-requires-clause-room
take_found-requires-clause-room c = omega (arith, c.self.invariant.room, c.walk_or_settle-walked.ensures.capacity, c.placement_of-found.ensures.capacity)

pub take_found-requires-clause-room_to_note : goal.take_found-requires-clause-room_to_note
take_found-requires-clause-room_to_note c = omega (arith, c.self.invariant.room_to_note, c.walk_or_settle-walked.ensures.room)

pub returns-in_err-id-clause-split : goal.returns-in_err-id-clause-split
returns-in_err-id-clause-split c =
    let inside = c.self.inside in
    let finds = (c.in-Some-found.ensures.some c.args.size (sym c.in-Some.ensures)) in
    let as_placed = found-as_placed inside.frame inside.records c.args.size c.in-Some-found.placement c.self.invariant.kept finds in
    let needs : NeedsSplit (state_in inside) c.args.size =
    record {
      placement = finds.placement;
      placed = finds.placed;
      split = omega (arith, as_placed.splits, c.in_err-id.ensures.split);
      short = λ none.
          items-short inside.frame inside.records c.in-Some-found.placement.splits_shelf c.in-Some-found.placement.splits_item c.self.invariant.kept c.in_err-id.ensures.short
          (ap (λ (p : Placement). p.splits_shelf) finds.located.same ∙ none);
    } in
    on_err c.from_residual.result (subst (λ (state : AtlasState). NeedsSplit state c.args.size) c.self.view_is needs)

pub returns-in_err-id-clause-promises : goal.returns-in_err-id-clause-promises
returns-in_err-id-clause-promises c =
    let frame = c.self.inside.frame in
    subst (λ (r : Records). KeepsPromises (state_of frame r)) (sym c.in_err-id.ensures.err) (promises (state_in c.self.inside) (witnesses c.self.invariant.kept).valid)

pub area-requires : goal.area-requires
area-requires c =
    let inside = c.self.inside in
    let as_placed = found-as_placed inside.frame inside.records c.args.size c.in-Some-found.placement c.self.invariant.kept (c.in-Some-found.ensures.some c.args.size (sym c.in-Some.ensures)) in
    (omega (arith, as_placed.right), omega (arith, as_placed.bottom))

pub overflow_add-self-2 : goal.overflow_add-self-2
overflow_add-self-2 c =
    let inside = c.self.inside in
    let done : AfterTaking inside.frame inside.records c.args.size c.in-Some-found.placement (record { id = c.in_ok-id.id; rectangle = c.rectangle-rectangle.result }) c.take_found.new.records =
    after-taking inside.frame inside.records c.take_found.new.records c.args.size c.in-Some-found.placement c.in_ok-id.id c.rectangle-rectangle.result
    c.self.invariant.kept (c.in-Some-found.ensures.some c.args.size (sym c.in-Some.ensures)) c.in_ok-id.ensures.ok c.in_ok-id.ensures.id c.rectangle-rectangle.ensures in
    omega (arith, done.small, c.area.ensures, c.self.invariant.space)

-- what is known at the end
after : (c : goal.After-of) → AfterTaking c.self.inside.frame c.self.inside.records c.args.size c.in-Some-found.placement (record { id = c.in_ok-id.id; rectangle = c.rectangle-rectangle.result }) c.take_found.new.records
after c =
    let inside = c.self.inside in
    after-taking inside.frame inside.records c.take_found.new.records c.args.size c.in-Some-found.placement c.in_ok-id.id c.rectangle-rectangle.result
    c.self.invariant.kept (c.in-Some-found.ensures.some c.args.size (sym c.in-Some.ensures)) c.in_ok-id.ensures.ok c.in_ok-id.ensures.id c.rectangle-rectangle.ensures

-- what the fields keep of the shelves by height once these were searched, where the list follows the records, and where not
searched : (inside : Inside) (by_height new : List BoundedShelf) (notes : Notes) (width : ℕ) (follows : Bool) → AreByHeightExceptNoted inside.frame inside.records notes by_height
    → numbers_by_height new ≡ numbers_by_height by_height → (follows ≡ true → AreByHeightFor inside.frame inside.records width new) → (follows ≡ false → new ≡ by_height)
    → AreByHeightExceptNoted inside.frame inside.records notes new
searched inside by_height new notes width true holds numbers are same =
    searched-holds (bare inside.frame inside.records) (walked_lists inside.records).entries notes by_height new numbers (are refl).bounds holds
searched inside by_height new notes width false holds numbers are same = subst (AreByHeightExceptNoted inside.frame inside.records notes) (sym (same refl)) holds

searched-before : (c : goal.After-of) → AreByHeightExceptNoted c.self.inside.frame c.self.inside.records c.walk_or_settle-walked.new.pending.notes c.placement_of-found.new.by_height.items
searched-before c =
    searched c.self.inside c.walk_or_settle-walked.new.by_height.items c.placement_of-found.new.by_height.items c.walk_or_settle-walked.new.pending.notes c.in-Some.sides.along (list_follows c.walk_or_settle-walked.result)
    c.walk_or_settle-walked.ensures.by_height c.placement_of-found.ensures.numbers c.placement_of-found.ensures.by_height c.placement_of-found.ensures.same

-- and once what was found was taken
by_height-after : (c : goal.After-of) → AreByHeightExceptNoted c.self.inside.frame c.take_found.new.records c.take_found.new.pending.notes c.take_found.new.by_height.items
by_height-after c =
    let inside = c.self.inside in
    let found = c.in-Some-found.placement in
    let notes : Notes = c.walk_or_settle-walked.new.pending.notes in
    let by_height : List BoundedShelf = c.placement_of-found.new.by_height.items in
    let new : List BoundedShelf = c.take_found.new.by_height.items in
    let finds = c.in-Some-found.ensures.some c.args.size (sym c.in-Some.ensures) in
    let follows = found-follows inside.frame inside.records c.args.size found notes inside.seconds by_height new c.self.invariant.kept finds c.self.invariant.seconds (searched-before c) c.in_ok-id.ensures.by_height in
    let taken : AreByHeightExceptNoted inside.frame c.take_found.new.records (taken_notes found inside.records notes) new =
    subst (λ (r : Records). AreByHeightExceptNoted inside.frame r (taken_notes found inside.records notes) new) (sym c.in_ok-id.ensures.ok) follows.0 in
    subst (λ (n : Notes). AreByHeightExceptNoted inside.frame c.take_found.new.records n new) (sym c.in_ok-id.ensures.notes)
    (found-noted inside.frame inside.records c.take_found.new.records c.args.size found notes by_height c.self.invariant.kept finds (searched-before c) new taken)

-- what taking asks of the list: its order, and that it has the shelf, if that has not changed
pub take_found-requires-clause-order : goal.take_found-requires-clause-order
take_found-requires-clause-order c =
    let same = searched c.self.inside c.walk_or_settle-walked.new.by_height.items c.placement_of-found.new.by_height.items c.walk_or_settle-walked.new.pending.notes c.in-Some.sides.along (list_follows c.walk_or_settle-walked.result)
    c.walk_or_settle-walked.ensures.by_height c.placement_of-found.ensures.numbers c.placement_of-found.ensures.by_height c.placement_of-found.ensures.same in
    same.order

pub take_found-requires-clause-stands : goal.take_found-requires-clause-stands
take_found-requires-clause-stands c unnoted =
    let inside = c.self.inside in
    let same = searched c.self.inside c.walk_or_settle-walked.new.by_height.items c.placement_of-found.new.by_height.items c.walk_or_settle-walked.new.pending.notes c.in-Some.sides.along (list_follows c.walk_or_settle-walked.result)
    c.walk_or_settle-walked.ensures.by_height c.placement_of-found.ensures.numbers c.placement_of-found.ensures.by_height c.placement_of-found.ensures.same in
    found-stands inside.frame inside.records c.args.size c.in-Some-found.placement c.walk_or_settle-walked.new.pending.notes c.placement_of-found.new.by_height.items c.self.invariant.kept (c.in-Some-found.ensures.some c.args.size (sym c.in-Some.ensures)) same unnoted

pub invariant_of-self : goal.invariant_of-self
invariant_of-self c =
    let same = searched c.self.inside c.walk_or_settle-walked.new.by_height.items c.placement_of-found.new.by_height.items c.walk_or_settle-walked.new.pending.notes c.in-Some.sides.along (list_follows c.walk_or_settle-walked.result)
    c.walk_or_settle-walked.ensures.by_height c.placement_of-found.ensures.numbers c.placement_of-found.ensures.by_height c.placement_of-found.ensures.same in
    record {
      kept = c.self.invariant.kept;
      by_height = same;
      seconds = c.self.invariant.seconds;
      room = omega (arith, c.self.invariant.room, c.walk_or_settle-walked.ensures.capacity, c.placement_of-found.ensures.capacity);
      room_to_note = omega (arith, c.self.invariant.room_to_note, c.walk_or_settle-walked.ensures.room);
      counted = c.self.invariant.counted;
      space = c.self.invariant.space;
    }

pub invariant_of-self-in_err-id : goal.invariant_of-self-in_err-id
invariant_of-self-in_err-id c =
    let inside = c.self.inside in
    let same = searched c.self.inside c.walk_or_settle-walked.new.by_height.items c.placement_of-found.new.by_height.items c.walk_or_settle-walked.new.pending.notes c.in-Some.sides.along (list_follows c.walk_or_settle-walked.result)
    c.walk_or_settle-walked.ensures.by_height c.placement_of-found.ensures.numbers c.placement_of-found.ensures.by_height c.placement_of-found.ensures.same in
    rw c.in_err-id.ensures.err
    (record {
      kept = c.self.invariant.kept;
      by_height = subst (AreByHeightExceptNoted inside.frame inside.records c.take_found.new.pending.notes) (sym c.in_err-id.ensures.by_height_err)
          (subst (λ (n : Notes). AreByHeightExceptNoted inside.frame inside.records n c.placement_of-found.new.by_height.items) (sym c.in_err-id.ensures.notes_err) same);
      seconds = seconds-equal inside.records inside.seconds c.take_found.new.seconds c.in_err-id.ensures.seconds c.self.invariant.seconds;
      room = subst (λ (r : Records). length r.shelves ≤ c.take_found.new.by_height.capacity) c.in_err-id.ensures.err c.in_err-id.ensures.room;
      room_to_note = subst (λ (r : Records). length r.shelves ≤ c.take_found.new.pending.room) c.in_err-id.ensures.err c.in_err-id.ensures.room_to_note;
      counted = c.self.invariant.counted;
      space = c.self.invariant.space;
    })

pub invariant_of-self-2 : goal.invariant_of-self-2
invariant_of-self-2 c = record {
  kept = (after c).kept;
  by_height = by_height-after c;
  seconds = subst (λ (r : Records). AreSeconds r c.take_found.new.seconds) (sym c.in_ok-id.ensures.ok)
      (found-seconds c.self.inside.frame c.self.inside.records c.args.size c.in-Some-found.placement c.self.inside.seconds c.take_found.new.seconds c.self.invariant.kept (c.in-Some-found.ensures.some c.args.size (sym c.in-Some.ensures)) c.self.invariant.seconds c.in_ok-id.ensures.seconds);
  room = c.in_ok-id.ensures.room;
  room_to_note = c.in_ok-id.ensures.room_to_note;
  counted = omega (arith, (after c).counted, c.splits.ensures.value, c.self.invariant.counted);
  space = omega (arith, (after c).space, c.area.ensures, c.self.invariant.space);
}

-- what is given, for which stands what was written
abbrev given : (c : goal.After-of) → Allocation
given c = record { id = c.in_ok-id.id; rectangle = c.rectangle-rectangle.result }

-- the state after
abbrev state-after : (c : goal.After-of) → AtlasState
state-after c = state_of c.self.inside.frame c.take_found.new.records

pub returns-clause-placed : goal.returns-clause-placed
returns-clause-placed c = λ _.
    subst (λ (state : AtlasState). Allocates state c.args.size (allocation_in c.of.result) (state-after c)) c.self.view_is
    (subst (λ (allocation : Allocation). Allocates (state_in c.self.inside) c.args.size allocation (state-after c)) (sym c.of.ensures) (after c).allocated.allocates)

pub returns-clause-allocated : goal.returns-clause-allocated
returns-clause-allocated c = λ _.
    subst (λ (state : AtlasState). Adds (allocations state) (allocation_in c.of.result) (allocations (state-after c))) c.self.view_is
    (subst (λ (allocation : Allocation). Adds (allocations (state_in c.self.inside)) allocation (allocations (state-after c))) (sym c.of.ensures) (after c).allocated.adds)

pub returns-clause-found : goal.returns-clause-found
returns-clause-found c = λ _.
    subst (λ (allocation : Allocation). rectangle_of (state-after c) allocation.id ≡ Some allocation.rectangle) (sym c.of.ensures) (after c).allocated.found

pub returns-clause-large : goal.returns-clause-large
returns-clause-large c = λ _.
    subst (λ (state : AtlasState). IsLarge state.frame c.args.size (rectangle_in c.of.result.rectangle)) c.self.view_is
    (subst (λ (allocation : Allocation). IsLarge c.self.inside.frame c.args.size allocation.rectangle) (sym c.of.ensures) (after c).allocated.large)

pub returns-clause-promises : goal.returns-clause-promises
returns-clause-promises c = (after c).allocated.promises_after

pub returns-clause-kept : goal.returns-clause-kept
returns-clause-kept c =
    subst (λ (state : AtlasState). KeepsRectangles state (state-after c)) c.self.view_is
    (keeps-rectangles (state_in c.self.inside) (given c) (state-after c) (after c).allocated.adds (after c).allocated.allocates.fresh_id)

pub returns-clause-clear : goal.returns-clause-clear
returns-clause-clear c = λ _.
    subst (λ (state : AtlasState). IsClear state (rectangle_in c.of.result.rectangle)) c.self.view_is
    (subst (λ (allocation : Allocation). IsClear (state_in c.self.inside) allocation.rectangle) (sym c.of.ensures)
    (added-clear (state_in c.self.inside) (given c) (state-after c) (after c).allocated.adds (after c).allocated.promises_after.apart))

pub overflow_cast-column_width : goal.overflow_cast-column_width
overflow_cast-column_width c =
    let frame = c.self.inside.frame in
    let is_frame = (witnesses c.self.invariant.kept).valid.frame in
    omega (arith, column_width-le 65535 frame is_frame, (sides_low 65535 frame is_frame).0)

pub overflow_add-self : goal.overflow_add-self
overflow_add-self c = omega (arith, c.self.invariant.counted, c.splits.ensures.few, (witnesses c.self.invariant.kept).valid.peak_items)

pub asked-requires-clause-alignment_width : goal.asked-requires-clause-alignment_width
asked-requires-clause-alignment_width c = (witnesses c.self.invariant.kept).valid.frame.alignment_width

pub asked-requires-clause-alignment_height : goal.asked-requires-clause-alignment_height
asked-requires-clause-alignment_height c = (witnesses c.self.invariant.kept).valid.frame.alignment_height

pub returns-in_default-clause-promises : goal.returns-in_default-clause-promises
returns-in_default-clause-promises c = subst KeepsPromises c.self.view_is (promises (state_in c.self.inside) (witnesses c.self.invariant.kept).valid)

pub shelf_height-height-requires-clause-frame : goal.shelf_height-height-requires-clause-frame
shelf_height-height-requires-clause-frame c = (witnesses c.self.invariant.kept).valid.frame

pub shelf_height-height-requires-clause-short : goal.shelf_height-height-requires-clause-short
shelf_height-height-requires-clause-short c =
    (asked-short c.self.inside.frame c.args.size c.in-Some.sides (witnesses c.self.invariant.kept).valid.frame (sym c.in-Some.ensures)).1

pub walk_or_settle-walked-requires-clause-short : goal.walk_or_settle-walked-requires-clause-short
walk_or_settle-walked-requires-clause-short c =
    ((asked-short c.self.inside.frame c.args.size c.in-Some.sides (witnesses c.self.invariant.kept).valid.frame (sym c.in-Some.ensures)).0, c.shelf_height-height.ensures.short)

pub placement_of-found-requires-clause-short : goal.placement_of-found-requires-clause-short
placement_of-found-requires-clause-short c =
    ((asked-short c.self.inside.frame c.args.size c.in-Some.sides (witnesses c.self.invariant.kept).valid.frame (sym c.in-Some.ensures)).0, c.shelf_height-height.ensures.short)

pub placement_of-found-requires-clause-wide : goal.placement_of-found-requires-clause-wide
placement_of-found-requires-clause-wide c =
    (asked-sides 65535 c.self.inside.frame c.args.size c.in-Some.sides (witnesses c.self.invariant.kept).valid.frame (sym c.in-Some.ensures)).along
