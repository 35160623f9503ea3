-- Where all that a grow needs was put to use, the records are kept, and spell the grown state.
use Rattle.std.proofs.Common.{pos, ◌≡◌, ℕ, ◌+◌, ◌-◌, ◌<◌, ◌≤◌, List, [], ◌++◌, length, map, refl, ap, ◌∙◌, sym, subst, arith, ⊎_elim}
use Rattle.std.proofs.lemmas.Bool.{cases_lt}
use Rattle.etagere_base.specs.declared.frames.Frame.{Frame}
use Rattle.etagere_base.specs.declared.geometry.Size.{Size}
use Rattle.etagere_base.proofs.EachLemmas.{Each-weaken}
use Rattle.shelf_records.specs.RecordLists.{Entry, IsLinked, IsLinkedExcept, Lists, Records}
use Rattle.shelf_records.proofs.AllLists.LinkedUnused.{lists_of}
use Rattle.shelf_records.specs.AtlasRecords.{AtlasRecords, spelled_shelf}
use Rattle.shelf_model.specs.Growing.{atlas_grown, grown_frame}
use Rattle.shelf_records.specs.Private.Kept.{AreKept, bare, state_of}
use Rattle.shelf_records.proofs.Spelled.Witnessed.{HasFlag, IsPlaced}
use Rattle.shelf_store.specs.Private.RecordsGrown.{Growing}
use Rattle.shelf_model.specs.Space.{space_in}
use Rattle.shelf_model.specs.State.{AtlasState, Shelf, items_in_use}
use Rattle.shelf_model.proofs.Grown.GrownFrames.{Fits}
use Rattle.shelf_model.proofs.Grown.GrownValid.{grown-valid}
use Rattle.shelf_store.proofs.Grown.HalfGrown.{HasGrown}
use Rattle.shelf_store.proofs.Grown.MadeLinked.{numbers_from}
use Rattle.shelf_store.proofs.Spelled.ItemLocated.{in-use-counted}
use Rattle.shelf_store.proofs.Spelled.TakenKept.{records-count}
use Rattle.shelf_records.proofs.Spelled.Witnesses.{kept-of}
use Rattle.shelf_records.proofs.Spelled.StandsKept.{witnesses}

-- no more than none are left
none-left : (from unused : ℕ) → numbers_from from (0 - unused) ++ [] ≡ []
none-left from unused = let none : 0 - unused ≡ 0 = omega arith in rw none refl

-- where records were made for a grow none becomes unused, so where one becomes unused none were made
none-made : (old new unused : ℕ) → old ≤ new → (old < new → unused ≤ 0) → 1 ≤ unused → new ≡ old
none-made old new unused more used_up some =
    ⊎_elim (λ (longer : old < new). absurd (omega (arith, some, used_up longer))) (λ (few : new ≤ old). omega (arith, few, more)) (cases_lt old new)

-- where nothing more waits to be put to use the grow has ended
pub ended : (frame : Frame) (size : Size) (records : Records) (growing : Growing) → AreKept frame records → Fits (state_of frame records) size
    → HasGrown (grown_frame frame size) (length records.items) growing (atlas_grown (state_of frame records) size).shelves 0 0
    → (state_of (grown_frame frame size) growing.records ≡ atlas_grown (state_of frame records) size) × AreKept (grown_frame frame size) growing.records
ended frame size records growing kept fits has =
    let grown : Frame = grown_frame frame size in
    let state : AtlasState = atlas_grown (state_of frame records) size in
    let new : Records = growing.records in
    let lists : Lists = lists_of has.entries has.unused_items has.unused_shelves in
    let atlas : AtlasRecords = record { frame = grown; records = new; allocated_space = pos (space_in state.shelves) } in
    let linked : IsLinked new lists =
    subst (λ (l : List ℕ). IsLinkedExcept new lists [] l) (none-left growing.made.shelf (length has.unused_shelves))
    (subst (λ (l : List ℕ). IsLinkedExcept new lists l (numbers_from growing.made.shelf (0 - length has.unused_shelves) ++ []))
    (none-left growing.made.item (length has.unused_items)) has.is.spelled.linked) in
    let in_use : items_in_use state.shelves + length has.unused_items ≡ length new.items =
    ap (λ (ss : List Shelf). items_in_use ss + length has.unused_items) (sym has.spelled) ∙ in-use-counted (bare grown new) lists linked in
    let count : state.peak_items ≡ length new.items =
    records-count (length records.items) (length new.items) (items_in_use state.shelves) (length has.unused_items) in_use has.is.more
    (none-made (length records.items) (length new.items) (length has.unused_items) has.is.more has.is.used_up) in
    kept-of grown new lists state
    (record {
      spelled = ap (λ (ss : List Shelf). record { frame = grown; shelves = ss; peak_items = state.peak_items }) (sym has.spelled)
          ∙ ap (λ (n : ℕ). record { frame = grown; shelves = map (spelled_shelf atlas) has.entries; peak_items = n }) count;
      counts = record { shelves = has.is.counts.shelves; items = has.is.counts.items };
      linked = linked;
      placed = Each-weaken (IsPlaced (bare grown new)) (IsPlaced atlas) has.entries
          (λ (entry : Entry) (placed : IsPlaced (bare grown new) entry).
          let now : IsPlaced atlas entry = record { owners = placed.owners; along = placed.along; places = placed.places; free_list = placed.free_list } in
          now) has.is.spelled.placed;
      flags = Each-weaken (HasFlag (bare grown new)) (HasFlag atlas) has.entries (λ entry flag. flag) has.is.flags;
      stacked = has.is.spelled.stacked;
      valid = grown-valid (state_of frame records) size (witnesses kept).valid fits;
      unused = has.is.spelled.unused;
      space = refl;
    })
