use Rattle.std.proofs.Common.{◌≡◌, true, false, length, refl, ap, sym, ◌∙◌, subst, arith, ℕ, Some}
use Rattle.std.specs.Prelude.{is_some}
use Rattle.shelf_records.specs.RecordLists.{Records, walked_lists}
use Rattle.shelf_model.specs.Atlas.{KeepsPromises, Restores, without_id}
use Rattle.shelf_records.specs.AtlasRecords.{is_allocated_at, shelf_of}
use Rattle.shelf_notes.specs.Private.Pending.{Notes, is_parked, unparked}
use Rattle.shelf_model.specs.ById.{TakesAway, Undoes}
use Rattle.shelf_model.specs.Places.{allocations, is_allocated}
use Rattle.etagere_shelves.specs.Private.Consistent.{state_in, IsConsistent}
use Rattle.shelf_records.specs.Private.Kept.{state_of, bare}
use Rattle.shelf_model.specs.Returning.{returned}
use Rattle.shelf_model.specs.State.{AtlasState}
use Rattle.shelf_model.proofs.Allocations.SeenById.{takes-away, undoes}
use Rattle.shelf_model.proofs.Promises.{promises}
use Rattle.shelf_store.proofs.Recorded.RecordedArea.{kept-area}
use Rattle.shelf_store.proofs.Recorded.RecordedReturn.{AfterReturn, after-return, can-return, list-after, seconds-after-return, return-in_use}
use Rattle.shelf_records.proofs.Recorded.RecordsOfIds.{kept-allocated, kept-shelf, marked-within, record-marked}
use Rattle.shelf_model.proofs.Returned.Restored.{returned-restores}
use Rattle.shelf_store.proofs.Spelled.ReturnedLengths.{returned-lengths}
use Rattle.shelf_records.proofs.Spelled.StandsKept.{witnesses}
use Rattle.shelf_notes.proofs.Noted.{in_use-within}
use Rattle.shelf_store.proofs.ByHeight.ParkedShelves.{unparked-holds}
use Rattle.shelf_store.specs.Private.Settling.{AreByHeightExceptNoted}
use Rattle.etagere_shelves.specs.declared.atlas.AtlasAllocator.TheInside.{Inside}
use Rattle.shelf_records.specs.Private.Reading.{record_of}
use Rattle.etagere_shelves.proofs.atlas.AtlasAllocator.deallocate.Goals as goal
use Rattle.etagere_shelves.proofs.atlas.AtlasAllocator.deallocate.Goals.{After-return_item}

pub returns-in_default-clause-unknown : goal.returns-in_default-clause-unknown
returns-in_default-clause-unknown c =
    let inside = c.self.inside in
    let not_allocated = kept-allocated inside.frame inside.records c.args.id c.self.invariant.kept ∙ ap is_some (sym c.number_of.ensures ∙ c.in_default.is) in
    (λ _. subst (λ (state : AtlasState). is_allocated state c.args.id ≡ false) c.self.view_is not_allocated, λ _. refl)

pub returns-in_default-clause-promises : goal.returns-in_default-clause-promises
returns-in_default-clause-promises c = subst KeepsPromises c.self.view_is (promises (state_in c.self.inside) (witnesses c.self.invariant.kept).valid)

pub recorded_shelf-shelf-requires : goal.recorded_shelf-shelf-requires
recorded_shelf-shelf-requires c =
    let items = c.self.inside.records.items in
    marked-within items c.in-Some.number (record-marked items c.args.id c.in-Some.number (sym c.number_of.ensures ∙ c.in-Some.is)).0

pub recorded_area-area-requires : goal.recorded_area-area-requires
recorded_area-area-requires c =
    let records = c.self.inside.records in
    let marked : is_allocated_at records.items c.in-Some.number ≡ true = (record-marked records.items c.args.id c.in-Some.number (sym c.number_of.ensures ∙ c.in-Some.is)).0 in
    record {
      item = marked-within records.items c.in-Some.number marked;
      shelf = rw c.recorded_shelf-shelf.ensures (kept-shelf c.self.inside.frame records c.in-Some.number c.self.invariant.kept marked);
      own = c.recorded_shelf-shelf.ensures;
    }

pub overflow_sub-self : goal.overflow_sub-self
overflow_sub-self c =
    let inside = c.self.inside in
    omega (arith, c.recorded_area-area.ensures, kept-area inside.frame inside.records c.args.id c.in-Some.number c.self.invariant.kept (sym c.number_of.ensures ∙ c.in-Some.is), c.self.invariant.space)

-- the shelf of an item that is allocated is in use, so it need not stay parked
again : (inside : Inside) (id number : ℕ) (later : Notes) → IsConsistent inside → record_of inside.records.items id ≡ Some number → later ≡ unparked (shelf_of inside.records.items number) inside.pending.notes
    → AreByHeightExceptNoted inside.frame inside.records later inside.by_height.items × (is_parked later (shelf_of inside.records.items number) ≡ false)
again inside id number later is named same =
    let shelf : ℕ = shelf_of inside.records.items number in
    let used = return-in_use inside.frame inside.records inside.pending.notes inside.by_height.items id number is.kept is.by_height named in
    subst (λ (n : Notes). AreByHeightExceptNoted inside.frame inside.records n inside.by_height.items × (is_parked n shelf ≡ false)) (sym same)
    (unparked-holds (bare inside.frame inside.records) (walked_lists inside.records).entries inside.pending.notes inside.by_height.items shelf (in_use-within inside.pending.notes.standing shelf used) used is.by_height)

pub unpark-requires : goal.unpark-requires
unpark-requires c =
    let inside = c.self.inside in
    let used = return-in_use inside.frame inside.records inside.pending.notes inside.by_height.items c.args.id c.in-Some.number c.self.invariant.kept c.self.invariant.by_height (sym c.number_of.ensures ∙ c.in-Some.is) in
    omega (arith, in_use-within inside.pending.notes.standing (shelf_of inside.records.items c.in-Some.number) used, c.recorded_shelf-shelf.ensures)

pub return_item-requires : goal.return_item-requires
return_item-requires c =
    let inside = c.self.inside in
    let named = sym c.number_of.ensures ∙ c.in-Some.is in
    let listed = again inside c.args.id c.in-Some.number c.unpark.new.self.notes c.self.invariant named (c.unpark.ensures.notes ∙ ap (λ n. unparked n inside.pending.notes) c.recorded_shelf-shelf.ensures) in
    let can = can-return inside.frame inside.records c.unpark.new.self.notes inside.by_height.items c.args.id c.in-Some.number c.self.invariant.kept listed.1 listed.0 named in
    record { shelf = c.recorded_shelf-shelf.ensures; number = can.0; fits = can.1; by_height = can.2 }

-- what is known once the item was returned
after : (c : After-return_item) → AfterReturn c.self.inside.frame c.self.inside.records c.args.id c.return_item.new.records c.return_item.result c.recorded_area-area.result
after c =
    after-return c.self.inside.frame c.self.inside.records c.return_item.new.records c.args.id c.in-Some.number c.return_item.result c.recorded_area-area.result
    c.self.invariant.kept (sym c.number_of.ensures ∙ c.in-Some.is) c.return_item.ensures.records c.return_item.ensures.made_unused c.recorded_area-area.ensures

pub overflow_sub-self-2 : goal.overflow_sub-self-2
overflow_sub-self-2 c = omega (arith, (after c).counted, c.self.invariant.counted)

pub invariant_of-self : goal.invariant_of-self
invariant_of-self c =
    let done = after (goal.at.invariant_of-self c).After-return_item in
    let inside = c.self.inside in
    let listed = again inside c.args.id c.in-Some.number c.unpark.new.self.notes c.self.invariant (sym c.number_of.ensures ∙ c.in-Some.is) (c.unpark.ensures.notes ∙ ap (λ n. unparked n inside.pending.notes) c.recorded_shelf-shelf.ensures) in
    record {
      kept = done.kept;
      by_height = rw (c.return_item.ensures.records, c.return_item.ensures.by_height)
          (list-after c.self.inside.frame c.self.inside.records c.unpark.new.self.notes c.return_item.new.pending.notes c.self.inside.by_height.items c.args.id c.in-Some.number c.self.invariant.kept listed.1 listed.0 (sym c.number_of.ensures ∙ c.in-Some.is)
          c.return_item.ensures.notes);
      room = omega (
        arith,
        ap (λ (r : Records). length r.shelves) c.return_item.ensures.records,
        (returned-lengths c.in-Some.number c.self.inside.records).shelves,
        c.self.invariant.room,
        c.return_item.ensures.capacity,
      );
      room_to_note = omega (
        arith,
        ap (λ (r : Records). length r.shelves) c.return_item.ensures.records,
        (returned-lengths c.in-Some.number c.self.inside.records).shelves,
        c.self.invariant.room_to_note,
        c.return_item.ensures.room,
        c.unpark.ensures.room,
      );
      seconds = rw (c.return_item.ensures.records, c.return_item.ensures.seconds)
          (seconds-after-return c.self.inside.frame c.self.inside.records c.unpark.new.self.notes c.self.inside.by_height.items c.self.inside.seconds c.args.id c.in-Some.number c.self.invariant.kept listed.1 listed.0 (sym c.number_of.ensures ∙ c.in-Some.is)
          c.return_item.ensures.narrow c.self.invariant.seconds);
      counted = omega (arith, done.counted, c.self.invariant.counted);
      space = omega (arith, done.space, c.self.invariant.space);
    }

pub returns-clause-ok : goal.returns-clause-ok
returns-clause-ok c = (after (goal.at.returns-clause-ok c).After-return_item).state ∙ ap (λ (state : AtlasState). returned state c.args.id) c.self.view_is

pub returns-clause-unknown : goal.returns-clause-unknown
returns-clause-unknown c =
    let inside = c.self.inside in
    let there : is_allocated (state_in inside) c.args.id ≡ true =
    kept-allocated inside.frame inside.records c.args.id c.self.invariant.kept ∙ ap is_some (sym c.number_of.ensures ∙ c.in-Some.is) in
    let is_there : is_allocated c.args.self.now c.args.id ≡ true = subst (λ (state : AtlasState). is_allocated state c.args.id ≡ true) c.self.view_is there in
    (λ wrong. absurd (cc), λ none. absurd (cc))

pub returns-clause-allocated : goal.returns-clause-allocated
returns-clause-allocated c = (after (goal.at.returns-clause-allocated c).After-return_item).allocated ∙ ap (λ (state : AtlasState). without_id c.args.id (allocations state)) c.self.view_is

pub returns-clause-restores : goal.returns-clause-restores
returns-clause-restores c =
    subst (λ (state : AtlasState). Restores state c.args.id (state_of c.self.inside.frame c.return_item.new.records)) c.self.view_is
    (returned-restores (state_in c.self.inside) c.args.id (state_of c.self.inside.frame c.return_item.new.records) (after (goal.at.returns-clause-restores c).After-return_item).state)

pub returns-clause-promises : goal.returns-clause-promises
returns-clause-promises c = (after (goal.at.returns-clause-promises c).After-return_item).promises_after

pub returns-clause-away : goal.returns-clause-away
returns-clause-away c =
    let new = state_of c.self.inside.frame c.return_item.new.records in
    subst (λ (state : AtlasState). TakesAway state c.args.id new) c.self.view_is
    (takes-away (state_in c.self.inside) c.args.id new (after (goal.at.returns-clause-away c).After-return_item).allocated)

pub returns-clause-undoes : goal.returns-clause-undoes
returns-clause-undoes c =
    let new = state_of c.self.inside.frame c.return_item.new.records in
    subst (λ (state : AtlasState). Undoes state c.args.id new) c.self.view_is
    (undoes (state_in c.self.inside) c.args.id new (after (goal.at.returns-clause-undoes c).After-return_item).allocated)
