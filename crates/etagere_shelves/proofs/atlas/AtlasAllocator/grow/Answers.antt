use Rattle.std.proofs.Common.{◌≡◌, ◌-◌, ◌≤◌, None, Option, Some, false, true, refl, ap, ◌∙◌, sym, subst, arith}
use Rattle.std.specs.Prelude.{Err, IfSome, Ok, OnErr, OnOk, Result, is_err}
use Rattle.etagere_base.specs.declared.frames.Frame.{Frame}
use Rattle.etagere_base.specs.declared.geometry.Size.{Size}
use Rattle.shelf_records.specs.RecordLists.{Records}
use Rattle.etagere_shelves.specs.declared.atlas.AtlasAllocator.TheInside.{Inside}
use Rattle.shelf_store.specs.declared.growing.Needed.{Needed}
use Rattle.shelf_model.specs.Atlas.{KeepsPromises}
use Rattle.shelf_model.specs.Growing.{atlas_grown, grow_fault, grown_frame, records_needed, size_fault}
use Rattle.shelf_model.specs.Places.{allocations}
use Rattle.shelf_heights.specs.Private.ByHeight.{AreByHeight}
use Rattle.shelf_store.specs.Private.Settling.{AreByHeightExceptNoted, AreSettled}
use Rattle.shelf_store.proofs.ByHeight.SplitByHeight.{settled-holds}
use Rattle.etagere_shelves.specs.Private.Consistent.{IsConsistent, state_in}
use Rattle.shelf_records.specs.Private.Kept.{AreKept, state_of}
use Rattle.shelf_store.specs.Private.RecordsGrown.{needed_of, records_grown}
use Rattle.shelf_model.specs.Space.{allocated_space}
use Rattle.shelf_model.specs.State.{AtlasState, items_in_use}
use Rattle.shelf_store.proofs.Grown.AppendedColumns.{appends}
use Rattle.shelf_store.proofs.Grown.CountedRecords.{needed-counted}
use Rattle.shelf_store.proofs.Grown.GrownAtlas.{GrowsAtlas, columns-grow, grows-atlas, many-fault}
use Rattle.shelf_store.proofs.Grown.GrownKept.{grows-kept}
use Rattle.shelf_store.proofs.Grown.HeightenedRecords.{heightens}
use Rattle.shelf_store.proofs.Grown.InsertedShelves.{inserts}
use Rattle.shelf_store.proofs.Grown.WidenedRecords.{widens}
use Rattle.shelf_model.proofs.Grown.GrownFrames.{size-fits}
use Rattle.shelf_model.proofs.Promises.{promises}
use Rattle.shelf_records.proofs.Spelled.StandsKept.{witnesses}
use Rattle.etagere_shelves.proofs.atlas.AtlasAllocator.grow.Goals as goal

-- nothing is said of no fault
no_fault : {T : Type 0} (fault : Option T) (P : T → Type 0) → fault ≡ None → IfSome fault P
no_fault None P none = tt
no_fault (Some x) P none = absurd (cc)

-- what is said of no error
on_ok : {T E P : Type 0} (r : Result T E) → is_err r ≡ false → OnOk r P → P
on_ok (Ok x) h p = p
on_ok (Err e) h p = absurd (cc)

-- what is said of an error
on_err : {T E P : Type 0} (r : Result T E) → is_err r ≡ true → OnErr r P → P
on_err (Ok x) h p = absurd (cc)
on_err (Err e) h p = p

-- a grow of fields that are kept, to a size without a fault for which there are few enough items
grows-inside : (inside : Inside) (size : Size) (grown : Frame) (needed : Needed) → IsConsistent inside → size_fault inside.frame size ≡ None
    → grown ≡ grown_frame inside.frame size → needed ≡ needed_of inside.frame grown inside.records → needed.items ≤ 65535 - inside.items_in_use
    → GrowsAtlas inside.frame size inside.records grown needed
grows-inside inside size grown needed keeps none is_grown is_needed few =
    grows-atlas (grows-kept widens (heightens inserts) appends) inside.frame size inside.records grown needed keeps.kept none is_grown is_needed
    (omega (arith, few, keeps.counted, (witnesses keeps.kept).valid.peak_items))

pub returns-in-Some-clause-promises : goal.returns-in-Some-clause-promises
returns-in-Some-clause-promises c = subst KeepsPromises c.self.view_is (promises (state_in c.self.inside) (witnesses c.self.invariant.kept).valid)

pub grown_frame-grown-requires-clause-frame : goal.grown_frame-grown-requires-clause-frame
grown_frame-grown-requires-clause-frame c = (witnesses c.self.invariant.kept).valid.frame

pub grown_frame-grown-requires-clause-wider : goal.grown_frame-grown-requires-clause-wider
grown_frame-grown-requires-clause-wider c =
    (size-fits c.self.inside.frame c.args.size (sym c.size_fault.ensures ∙ c.in_default.is)).no_smaller.wider

pub grown_frame-grown-requires-clause-taller : goal.grown_frame-grown-requires-clause-taller
grown_frame-grown-requires-clause-taller c =
    (size-fits c.self.inside.frame c.args.size (sym c.size_fault.ensures ∙ c.in_default.is)).no_smaller.taller

pub needed_for-needed-requires-clause-columns : goal.needed_for-needed-requires-clause-columns
needed_for-needed-requires-clause-columns c =
    let inside = c.self.inside in
    columns-grow inside.frame c.args.size c.grown_frame-grown.result (witnesses c.self.invariant.kept).valid.frame (sym c.size_fault.ensures ∙ c.in_default.is) c.grown_frame-grown.ensures

pub returns-then-needed-self-clause-memory : goal.returns-then-needed-self-clause-memory
returns-then-needed-self-clause-memory c none =
    let inside = c.self.inside in
    let needed : c.needed_for-needed.result.items ≡ records_needed (state_in inside) c.args.size =
    ap (λ (n : Needed). n.items) (c.needed_for-needed.ensures ∙ ap (λ (g : Frame). needed_of inside.frame g inside.records) c.grown_frame-grown.ensures)
    ∙ needed-counted inside.frame c.args.size inside.records c.self.invariant.kept in
    absurd (many-fault (state_in inside) c.args.size (omega (arith, needed, c.self.invariant.counted, c.if-needed-self.true))
    (subst (λ (state : AtlasState). grow_fault state c.args.size ≡ None) (sym c.self.view_is) none))

pub returns-then-needed-self-clause-promises : goal.returns-then-needed-self-clause-promises
returns-then-needed-self-clause-promises c = subst KeepsPromises c.self.view_is (promises (state_in c.self.inside) (witnesses c.self.invariant.kept).valid)

-- what the grow comes to, where it is begun
begun : (c : goal.After-grown-2-1)
    → GrowsAtlas c.self.inside.frame c.args.size c.self.inside.records c.grown_frame-grown.result c.needed_for-needed.result
begun c =
    grows-inside c.self.inside c.args.size c.grown_frame-grown.result c.needed_for-needed.result c.self.invariant (sym c.size_fault.ensures ∙ c.in_default.is)
    c.grown_frame-grown.ensures c.needed_for-needed.ensures c.if-needed-self.false

pub grow_shelves-done-requires-clause-grown : goal.grow_shelves-done-requires-clause-grown
grow_shelves-done-requires-clause-grown c = (begun c).is_frame

pub grow_shelves-done-requires-clause-grows : goal.grow_shelves-done-requires-clause-grows
grow_shelves-done-requires-clause-grows c = (begun c).can

pub grow_shelves-done-requires-clause-kept : goal.grow_shelves-done-requires-clause-kept
grow_shelves-done-requires-clause-kept c = (begun c).kept

-- what it would have come to, where there was no memory
failed : (c : goal.Then-is_err)
    → GrowsAtlas c.self.inside.frame c.args.size c.self.inside.records c.grown_frame-grown.result c.needed_for-needed.result
failed c =
    grows-inside c.self.inside c.args.size c.grown_frame-grown.result c.needed_for-needed.result c.self.invariant (sym c.size_fault.ensures ∙ c.in_default.is)
    c.grown_frame-grown.ensures c.needed_for-needed.ensures c.if-needed-self.false

-- and then the records are what they were
same_records : (c : goal.Then-is_err) → c.grow_shelves-done.new.records ≡ c.self.inside.records
same_records c = on_err c.grow_shelves-done.result (sym c.is_err.ensures.value ∙ c.if-is_err.true) c.grow_shelves-done.ensures.err

pub invariant_of-self : goal.invariant_of-self
invariant_of-self c =
    let inside = c.self.inside in
    let same : inside.records ≡ c.grow_shelves-done.new.records = sym (same_records c) in
    let by_height : c.grow_shelves-done.new.by_height.items ≡ c.settle_shelves.new.by_height.items =
    on_err c.grow_shelves-done.result (sym c.is_err.ensures.value ∙ c.if-is_err.true) c.grow_shelves-done.ensures.same in
    let notes : c.grow_shelves-done.new.pending.notes ≡ c.settle_shelves.new.pending.notes =
    on_err c.grow_shelves-done.result (sym c.is_err.ensures.value ∙ c.if-is_err.true) c.grow_shelves-done.ensures.same_notes in
    let are : AreByHeight inside.frame inside.records c.grow_shelves-done.new.by_height.items =
    subst (AreByHeight inside.frame inside.records) (sym by_height) c.settle_shelves.ensures.by_height in
    record {
      kept = subst (AreKept inside.frame) same c.self.invariant.kept;
      by_height = subst (λ (r : Records). AreByHeightExceptNoted inside.frame r c.grow_shelves-done.new.pending.notes c.grow_shelves-done.new.by_height.items) same
          (settled-holds inside.frame inside.records c.grow_shelves-done.new.pending.notes c.grow_shelves-done.new.by_height.items c.self.invariant.kept are
          (subst (AreSettled inside.records) (sym notes) c.settle_shelves.ensures.settled));
      room = c.grow_shelves-done.ensures.room;
      room_to_note = c.grow_shelves-done.ensures.room_to_note;
      seconds = c.grow_shelves-done.ensures.seconds c.self.invariant.seconds;
      counted = c.self.invariant.counted ∙ ap (λ (r : Records). items_in_use (state_of inside.frame r).shelves) same;
      space = c.self.invariant.space ∙ ap (λ (r : Records). allocated_space (state_of inside.frame r)) same;
    }

pub returns-then-is_err-clause-fault : goal.returns-then-is_err-clause-fault
returns-then-is_err-clause-fault c = no_fault _ _ (subst (λ (state : AtlasState). grow_fault state c.args.size ≡ None) c.self.view_is (failed c).none)

pub returns-then-is_err-clause-memory : goal.returns-then-is_err-clause-memory
returns-then-is_err-clause-memory c none =
    let some = on_err c.grow_shelves-done.result (sym c.is_err.ensures.value ∙ c.if-is_err.true) c.grow_shelves-done.ensures.some in
    let needed = ap (λ (state : AtlasState). records_needed state c.args.size) c.self.view_is in
    (refl, omega (arith, some, needed, (failed c).needed_items))

pub returns-then-is_err-clause-promises : goal.returns-then-is_err-clause-promises
returns-then-is_err-clause-promises c =
    let inside = c.self.inside in
    subst (λ (r : Records). KeepsPromises (state_of inside.frame r)) (sym (same_records c)) (promises (state_in inside) (witnesses c.self.invariant.kept).valid)

-- what it has come to
done : (c : goal.After-self-2-1)
    → GrowsAtlas c.self.inside.frame c.args.size c.self.inside.records c.grown_frame-grown.result c.needed_for-needed.result
done c =
    grows-inside c.self.inside c.args.size c.grown_frame-grown.result c.needed_for-needed.result c.self.invariant (sym c.size_fault.ensures ∙ c.in_default.is)
    c.grown_frame-grown.ensures c.needed_for-needed.ensures c.if-needed-self.false

-- the records are those that have grown
grown_records : (c : goal.After-self-2-1)
    → (records_grown c.self.inside.frame c.grown_frame-grown.result c.needed_for-needed.result c.self.inside.records).records ≡ c.grow_shelves-done.new.records
grown_records c = sym (on_ok c.grow_shelves-done.result (sym c.is_err.ensures.value ∙ c.if-is_err.false) c.grow_shelves-done.ensures.ok)

-- the state that the fields stand for
now : (c : goal.After-self-2-1) → state_of c.grown_frame-grown.result c.grow_shelves-done.new.records ≡ atlas_grown (state_in c.self.inside) c.args.size
now c = ap (state_of c.grown_frame-grown.result) (sym (grown_records c)) ∙ (done c).state

pub invariant_of-self-2 : goal.invariant_of-self-2
invariant_of-self-2 c =
    let grown = c.grown_frame-grown.result in
    let items = ap (λ (r : Records). items_in_use (state_of grown r).shelves) (grown_records c) in
    let space = ap (λ (r : Records). allocated_space (state_of grown r)) (grown_records c) in
    let kept : AreKept grown c.grow_shelves-done.new.records = subst (AreKept grown) (grown_records c) (done c).kept in
    let are : AreByHeight grown c.grow_shelves-done.new.records c.grow_shelves-done.new.by_height.items =
    on_ok c.grow_shelves-done.result (sym c.is_err.ensures.value ∙ c.if-is_err.false) c.grow_shelves-done.ensures.by_height in
    record {
      kept = kept;
      by_height = settled-holds grown c.grow_shelves-done.new.records c.grow_shelves-done.new.pending.notes c.grow_shelves-done.new.by_height.items kept are
          (on_ok c.grow_shelves-done.result (sym c.is_err.ensures.value ∙ c.if-is_err.false) c.grow_shelves-done.ensures.settled);
      room = c.grow_shelves-done.ensures.room;
      room_to_note = c.grow_shelves-done.ensures.room_to_note;
      seconds = c.grow_shelves-done.ensures.seconds c.self.invariant.seconds;
      counted = omega (arith, items, (done c).counted, c.self.invariant.counted);
      space = c.self.invariant.space ∙ sym (done c).space ∙ space;
    }

pub returns-clause-ok : goal.returns-clause-ok
returns-clause-ok c = now c ∙ ap (λ (state : AtlasState). atlas_grown state c.args.size) c.self.view_is

pub returns-clause-fault : goal.returns-clause-fault
returns-clause-fault c = no_fault _ _ (subst (λ (state : AtlasState). grow_fault state c.args.size ≡ None) c.self.view_is (done c).none)

pub returns-clause-allocated : goal.returns-clause-allocated
returns-clause-allocated c =
    ap (λ (r : Records). allocations (state_of c.grown_frame-grown.result r)) (sym (grown_records c)) ∙ (done c).allocated ∙ ap allocations c.self.view_is

pub returns-clause-promises : goal.returns-clause-promises
returns-clause-promises c =
    let grown = c.grown_frame-grown.result in
    subst (λ (r : Records). KeepsPromises (state_of grown r)) (grown_records c)
    (promises (state_of grown (records_grown c.self.inside.frame grown c.needed_for-needed.result c.self.inside.records).records) (witnesses (done c).kept).valid)

pub needed_for-needed-requires-clause-few : goal.needed_for-needed-requires-clause-few
needed_for-needed-requires-clause-few c = (witnesses c.self.invariant.kept).counts.shelves.1

pub overflow_sub-self-inside : goal.overflow_sub-self-inside
overflow_sub-self-inside c = omega (arith, c.self.invariant.counted, (witnesses c.self.invariant.kept).valid.peak_items)

pub grow_shelves-done-requires-clause-frame : goal.grow_shelves-done-requires-clause-frame
grow_shelves-done-requires-clause-frame c = (witnesses c.self.invariant.kept).valid.frame
