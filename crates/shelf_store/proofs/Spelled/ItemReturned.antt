-- A return on records that keep every rule: they keep every rule again, and spell the state after the return.
use Rattle.shelf_records.proofs.AllLists.LinkedEdits.{Around, around_of, with_entry}
use Rattle.std.proofs.Common.{◌≡◌, ◌≢◌, ℕ, zero, suc, Bool, ◌*◌, ◌+◌, ◌≤◌, true, false, set, None, Some, List, [], ◌∷◌, ◌++◌, length, map, refl, ap, subst, arith, sym, ◌∙◌}
use Rattle.std.proofs.lemmas.List.{length-map, map-append}
use Rattle.std.specs.Prelude.{nat_lt, if◌then◌else◌}
use Rattle.etagere_base.specs.declared.frames.Frame.{Frame}
use Rattle.etagere_base.proofs.EachLemmas.{Each-front, Each-back, Each-middle, Each-weaken}
use Rattle.etagere_base.proofs.FrameSides.{sides_low}
use Rattle.etagere_base.proofs.TimesLemmas.{times-append}
use Rattle.std.specs.List.{AllByRecursion}
use Rattle.etagere_base.specs.Lists.{times}
use Rattle.etagere_base.specs.MergingAt.{merged_at, merged_before}
use Rattle.shelf_records.proofs.AllLists.LinkedItems.{entry_of}
use Rattle.shelf_records.specs.declared.records.LinkedItem.{LinkedItem}
use Rattle.shelf_records.specs.RecordLists.{Records, Entry, IsEntry, Lists, IsLinked, first_item_of, shelf_numbers, walked_lists}
use Rattle.etagere_links.specs.Edits.{field_at}
use Rattle.shelf_records.proofs.AllLists.LinkedFrames.{shelf_numbers-append}
use Rattle.shelf_records.proofs.AllLists.LinkedUnused.{lists_of}
use Rattle.shelf_records.proofs.AllLists.LinkedWalks.{linked-lists, linked-walks}
use Rattle.etagere_links.proofs.ListEnds.{times-here}
use Rattle.shelf_records.specs.AtlasRecords.{AtlasRecords, is_allocated_at, item_at, shelf_of, spelled_item, spelled_shelf, spelled_state}
use Rattle.shelf_model.specs.Merging.{both_empty, combined_shelves, merged_shelf}
use Rattle.shelf_model.specs.Places.{column_height}
use Rattle.shelf_store.specs.Private.ItemReturned.{CanMergeItem, CanMergeShelves, CanReturn, IsLinkedBack, IsRemaining, Step, emptiness_said, has_one_free, item_merged, item_returned, merged_width, unused_by, shelves_merged}
use Rattle.shelf_store.specs.Private.SecondWidths.{AreSecondsOf, second_after, stands_alone}
use Rattle.shelf_store.specs.Private.Settling.{AreByHeightExceptNoted, HoldsExceptNoted}
use Rattle.shelf_heights.proofs.ByHeight.Edited.{bounded_as}
use Rattle.shelf_heights.specs.Private.ByHeight.{IsBound}
use Rattle.shelf_notes.specs.Private.Pending.{Notes, is_in_use, is_noted, is_parked, once_where}
use Rattle.shelf_notes.specs.Private.SecondWidths.{second_at}
use Rattle.shelf_records.specs.Private.Kept.{AreKept, atlas_of, bare, state_of}
use Rattle.shelf_records.proofs.Spelled.Witnessed.{HasFlag, IsPlaced}
use Rattle.shelf_store.specs.Private.ReturnedNotes.{CanReturnByHeight, freed_width, list_returned, raised_unless, returned_notes, shelves_merged_notes}
use Rattle.shelf_model.specs.Returning.{freed_shelf, returned}
use Rattle.shelf_model.specs.State.{Shelf, AtlasState, is_empty, items_in_use}
use Rattle.shelf_records.specs.StandsFor.{HasCounts}
use Rattle.shelf_model.specs.Valid.{IsShelf, IsValid}
use Rattle.shelf_heights.specs.declared.by_height.BoundedShelf.{BoundedShelf}
use Rattle.shelf_store.proofs.ByHeight.FreedByHeight.{FreesByHeight, FreesSeconds, frees-by_height, frees-seconds}
use Rattle.shelf_store.proofs.ByHeight.KeptSeconds.{seconds-beside}
use Rattle.shelf_store.proofs.ByHeight.LaterNotes.{merged_all-later, raised-later}
use Rattle.shelf_store.proofs.ByHeight.NumberedShelves.{IsBoundOf}
use Rattle.shelf_notes.proofs.Noted.{in_use-within, once-true}
use Rattle.shelf_model.proofs.Places.Heights.{column_height-append, column_height-none}
use Rattle.shelf_model.proofs.Returned.ReturnedValid.{returned-valid}
use Rattle.shelf_store.proofs.Spelled.EmptinessSaid.{IsFlagged, emptiness_said-flagged, flags-same, one-free}
use Rattle.shelf_records.proofs.Spelled.EntryValues.{id_at}
use Rattle.shelf_store.proofs.Spelled.ItemFits.{can-merge-item}
use Rattle.shelf_store.proofs.Spelled.RemainingItem.{item-remaining}
use Rattle.shelf_store.proofs.Spelled.ItemLocated.{HasItem, in-use-counted, located}
use Rattle.shelf_store.proofs.Spelled.ItemMerged.{MergesItem, merges-item}
use Rattle.shelf_store.proofs.Spelled.ItemsAround.{map-parts}
use Rattle.shelf_store.proofs.Spelled.NeighboursMerged.{AreLow, MergesShelves, can-merge-all-notes, can-merge-shelves, merges-shelves, shelf-before}
use Rattle.shelf_store.proofs.Spelled.ReturnedAt.{returned-at}
use Rattle.shelf_store.proofs.Spelled.ReturnedLengths.{SameLengths, returned-lengths, counts-same}
use Rattle.shelf_store.proofs.Spelled.SpelledLists.{with_records}
use Rattle.shelf_records.proofs.Spelled.Witnesses.{witnessed-kept}
use Rattle.shelf_records.proofs.Spelled.StandsKept.{witnesses}

-- records of a shelf whose item was freed and merged, and that says whether it is empty
record IsFreed (atlas : AtlasRecords) (records : Records) (made_unused : ℕ) (around : Around) (shelf number : ℕ) (front back free : List ℕ) : Type 0 where
  numbers : List ℕ
  free_list : List ℕ
  left_unused : List ℕ
  flagged : IsFlagged (with_records atlas records) (with_entry (record around { unused_items = left_unused }) (entry_of shelf numbers free_list))
  spelled :
      map (spelled_shelf (with_records atlas records)) (around.before ++ entry_of shelf numbers free_list ∷ around.after)
      ≡ map (spelled_shelf atlas) around.before ++ merged_shelf (freed_shelf atlas.frame (length front) (spelled_shelf atlas (entry_of shelf (front ++ number ∷ back) free))) ∷ map (spelled_shelf atlas) around.after
  counted : length left_unused ≡ made_unused + length around.unused_items
  frees_seconds : FreesSeconds atlas (with_records atlas records) (around.before ++ entry_of shelf (front ++ number ∷ back) free ∷ around.after) (around.before ++ entry_of shelf numbers free_list ∷ around.after) (entry_of shelf (front ++ number ∷ back) free) (freed_width atlas.records.items number)
  stay_seconds :
      has_one_free shelf (item_merged shelf number atlas.records).records ≡ true → (seconds : List ℕ)
      → AreSecondsOf atlas.records.items (around.before ++ entry_of shelf (front ++ number ∷ back) free ∷ around.after) seconds
      → AreSecondsOf records.items (around.before ++ entry_of shelf numbers free_list ∷ around.after) seconds
  frees : FreesByHeight atlas (with_records atlas records) (around.before ++ entry_of shelf (front ++ number ∷ back) free ∷ around.after) (around.before ++ entry_of shelf numbers free_list ∷ around.after) shelf (freed_width atlas.records.items number)

-- an item was freed and merged, and its shelf says whether it is empty
freed-flagged : {atlas : AtlasRecords} (around : Around) (shelf number : ℕ) (front back free : List ℕ) → IsShelf atlas.frame (spelled_shelf atlas (entry_of shelf (front ++ number ∷ back) free)) → is_allocated_at atlas.records.items number ≡ true → IsFlagged atlas (with_entry around (entry_of shelf (front ++ number ∷ back) free)) → IsFreed atlas (emptiness_said shelf (item_merged shelf number atlas.records).records) (item_merged shelf number atlas.records).made_unused around shelf number front back free
freed-flagged {atlas} around shelf number front back free valid allocated flagged =
    let entry : Entry = entry_of shelf (front ++ number ∷ back) free in
    let one : Step = item_merged shelf number atlas.records in
    let merges : MergesItem atlas one around shelf number front back free =
    merges-item around shelf number front back free valid allocated flagged.spelled in
    let middle : AtlasRecords = with_records atlas one.records in
    let new : Entry = entry_of shelf merges.numbers merges.free_list in
    let said = emptiness_said-flagged (record around { unused_items = merges.left_unused }) new
    (flags-same atlas middle around.before (λ k stands. (merges.same k).is_empty) merges.before_same (Each-front (HasFlag atlas) around.before (entry ∷ around.after) flagged.flags))
    (flags-same atlas middle around.after (λ k stands. (merges.same k).is_empty) merges.after_same (Each-back (HasFlag atlas) around.before (entry ∷ around.after) flagged.flags).1)
    merges.spelled in
    let three : AtlasRecords = with_records atlas (emptiness_said shelf one.records) in
    let others = map-parts (spelled_shelf three) (spelled_shelf middle) around.before new (spelled_shelf middle new) around.after (said.1 ∙ map-append (spelled_shelf middle) around.before (new ∷ around.after)) in
    let is : IsEntry one.records new = Each-middle (IsEntry one.records) around.before new around.after merges.spelled.linked.entries in
    let empty : has_one_free shelf one.records ≡ is_empty (spelled_shelf three new) = one-free one.records.items (first_item_of one.records.shelves shelf) merges.numbers is.items in
    record {
      numbers = merges.numbers;
      free_list = merges.free_list;
      left_unused = merges.left_unused;
      flagged = said.0;
      spelled = said.1
          ∙ map-append (spelled_shelf middle) around.before (new ∷ around.after)
          ∙ ap (λ (ss : List Shelf). ss ++ spelled_shelf middle new ∷ map (spelled_shelf middle) around.after) merges.before_same
          ∙ ap (λ (s : Shelf). map (spelled_shelf atlas) around.before ++ s ∷ map (spelled_shelf middle) around.after) merges.returned
          ∙ ap (λ (ss : List Shelf). map (spelled_shelf atlas) around.before ++ merged_shelf (freed_shelf atlas.frame (length front) (spelled_shelf atlas entry)) ∷ ss) merges.after_same;
      counted = merges.counted;
      frees_seconds = frees-seconds atlas around shelf number front back free valid flagged.spelled merges said.1;
      stay_seconds = λ alone seconds are. seconds-beside atlas three around.before around.after entry new seconds (others.0 ∙ merges.before_same) (others.1 ∙ merges.after_same) (sym empty ∙ alone) are;
      frees = frees-by_height atlas around shelf number front back free valid flagged.spelled merges said.1;
    }

-- no column of a valid state is taller than 16 bits can say
low-valid : (state : AtlasState) → IsValid state → AreLow state.shelves
low-valid state valid column = by_test (nat_lt column state.frame.columns) refl
  where
    by_test : (b : Bool) → nat_lt column state.frame.columns ≡ b → column_height column state.shelves ≤ 65535
    by_test true e = omega (arith, valid.heights column (grind arith), (sides_low 65535 state.frame valid.frame).1)
    by_test false e =
        let past : state.frame.columns ≤ column = grind arith in
        omega (arith, column_height-none column state.shelves (Each-weaken (IsShelf state.frame) (λ (s : Shelf). s.column ≢ column) state.shelves (λ (s : Shelf) (is : IsShelf state.frame s) same. omega (arith, is.column, past, same)) valid.shelves))

-- the widths that are kept of shelves after an item of this width became free in one of them, where it may stand alone; that
-- shelf has this bound unless it has changed
abbrev pub ReturnsSeconds : Frame → Records → List Entry → Records → List Entry → ℕ → ℕ → Bool → Type 0
ReturnsSeconds frame records entries new edited shelf width alone =
    (seconds : List ℕ) (changed : Bool) (bound : ℕ) → (changed ≡ false → IsBoundOf (bare frame records) entries (bounded_as shelf bound)) → width ≤ 65535 → AreSecondsOf records.items entries seconds
    → AreSecondsOf new.items edited (if alone then seconds else set seconds shelf (second_after changed width bound (second_at seconds shelf)))

-- what holds of the one where a test is true, and of the other one
holds-either : (P : List ℕ → Type 0) (test : Bool) (one other : List ℕ) → (test ≡ true → P one) → P other → P (if test then one else other)
holds-either P true one other first second = first refl
holds-either P false one other first second = second

-- what is known of records after the item of a number was returned
pub record ReturnsItem (frame : Frame) (records : Records) (number : ℕ) : Type 0 where
  pub can : CanReturn number records
  pub used : 1 ≤ times (shelf_of records.items number) (shelf_numbers (walked_lists records).entries)
  pub kept : AreKept frame (item_returned number records)
  pub state : state_of frame (item_returned number records) ≡ returned (state_of frame records) (id_at records.items number)
  pub counted : items_in_use (state_of frame (item_returned number records)).shelves + unused_by number records ≡ items_in_use (state_of frame records).shelves
  pub can_by_height : (notes : Notes) (by_height : List BoundedShelf) → is_parked notes (shelf_of records.items number) ≡ false → AreByHeightExceptNoted frame records notes by_height → CanReturnByHeight (shelf_of records.items number) number records notes by_height
  pub by_height :
      (notes : Notes) (by_height : List BoundedShelf) → is_parked notes (shelf_of records.items number) ≡ false → AreByHeightExceptNoted frame records notes by_height
      → AreByHeightExceptNoted frame (item_returned number records) (returned_notes number records notes)
      (list_returned number records (returned_notes number records notes) by_height)
  pub seconds : ReturnsSeconds frame records (walked_lists records).entries (item_returned number records) (walked_lists (item_returned number records)).entries (shelf_of records.items number) (freed_width records.items number)
      (stands_alone (shelf_of records.items number) number records)

-- records after a return, by the lists that they spell
record IsReturned (atlas : AtlasRecords) (step : Step) (old : List Entry) (change : Notes → Notes) (shelf width : ℕ) (alone : Bool) (state : AtlasState) (unused : List ℕ) : Type 0 where
  lists : Lists
  flagged : IsFlagged (with_records atlas step.records) lists
  spelled : map (spelled_shelf (with_records atlas step.records)) lists.entries ≡ state.shelves
  counted : length lists.unused_items ≡ step.made_unused + length unused
  holds :
      (notes : Notes) (by_height : List BoundedShelf) → is_parked notes shelf ≡ false → HoldsExceptNoted atlas old notes by_height
      → HoldsExceptNoted (with_records atlas step.records) lists.entries (change notes) (raised_unless (is_noted (change notes) shelf) shelf width by_height)
  seconds : ReturnsSeconds atlas.frame atlas.records old step.records lists.entries shelf width alone

-- what holds of kept records holds of the atlas that they are of, and back
holds-kept : (frame : Frame) (records : Records) (notes : Notes) (by_height : List BoundedShelf) → AreByHeightExceptNoted frame records notes by_height → HoldsExceptNoted (atlas_of frame records) (walked_lists records).entries notes by_height
holds-kept frame records notes by_height holds =
    record { listed = holds.listed; in_use = holds.in_use; order = holds.order; settled = holds.settled; bounds = holds.bounds; parked = λ k so. let is = holds.parked k so in record { unlisted = is.unlisted; some = is.some; narrow = is.narrow }; known = holds.known; few = holds.few }

holds-walked : (frame : Frame) (records new : Records) (lists : Lists) (notes : Notes) (by_height : List BoundedShelf) → walked_lists new ≡ lists → HoldsExceptNoted (with_records (atlas_of frame records) new) lists.entries notes by_height → AreByHeightExceptNoted frame new notes by_height
holds-walked frame records new lists notes by_height walked holds =
    subst (λ (l : Lists). HoldsExceptNoted (bare frame new) l.entries notes by_height) (sym walked)
    (record { listed = holds.listed; in_use = holds.in_use; order = holds.order; settled = holds.settled; bounds = holds.bounds; parked = λ k so. let is = holds.parked k so in record { unlisted = is.unlisted; some = is.some; narrow = is.narrow }; known = holds.known; few = holds.few })

-- records that spell lists keep every rule again where what they spell is valid
kept-again : (frame : Frame) (records new : Records) (id left_unused : ℕ) (change : Notes → Notes) (shelf width : ℕ) (alone : Bool) → AreKept frame records → SameLengths records new → IsReturned (atlas_of frame records) (record { records = new; made_unused = left_unused }) (walked_lists records).entries change shelf width alone (returned (state_of frame records) id) (walked_lists records).unused_items → (AreKept frame new × (state_of frame new ≡ returned (state_of frame records) id)) × (items_in_use (state_of frame new).shelves + left_unused ≡ items_in_use (state_of frame records).shelves) × ((notes : Notes) (by_height : List BoundedShelf) → is_parked notes shelf ≡ false → AreByHeightExceptNoted frame records notes by_height → AreByHeightExceptNoted frame new (change notes) (raised_unless (is_noted (change notes) shelf) shelf width by_height))
    × ReturnsSeconds frame records (walked_lists records).entries new (walked_lists new).entries shelf width alone
kept-again frame records new id left_unused change shelf width alone kept lengths is =
    let lists : Lists = is.lists in
    let linked : IsLinked new lists = is.flagged.spelled.linked in
    let counts : HasCounts (atlas_of frame new) = counts-same (atlas_of frame records) (atlas_of frame new) lengths (witnesses kept).counts in
    let walked : walked_lists new ≡ lists = linked-lists new lists (linked-walks new lists counts.shelves.1 counts.items.1 linked) in
    let after : AtlasState = returned (state_of frame records) id in
    let spelled : state_of frame new ≡ spelled_state (bare frame new) lists.entries = ap (λ (l : Lists). spelled_state (bare frame new) l.entries) walked in
    let state : state_of frame new ≡ after =
    spelled
    ∙ ap (λ (ss : List Shelf). record { frame = frame; shelves = ss; peak_items = length new.items }) is.spelled
    ∙ ap (λ n. record { frame = frame; shelves = after.shelves; peak_items = n }) lengths.items in
    let old_count = in-use-counted (atlas_of frame records) (walked_lists records) (witnesses kept).linked in
    let new_count = in-use-counted (atlas_of frame new) lists linked in
    let in_use : items_in_use (state_of frame new).shelves ≡ items_in_use (map (spelled_shelf (atlas_of frame new)) lists.entries) = ap (λ (s : AtlasState). items_in_use s.shelves) spelled in (
      (
        witnessed-kept frame new lists
            (record {
              spelled = spelled;
              counts = counts;
              linked = linked;
              placed = Each-weaken (IsPlaced (with_records (atlas_of frame records) new)) (IsPlaced (atlas_of frame new)) lists.entries
                  (λ (entry : Entry) (p : IsPlaced (with_records (atlas_of frame records) new) entry). record { owners = p.owners; along = p.along; places = p.places; free_list = p.free_list }) is.flagged.spelled.placed;
              flags = is.flagged.flags;
              stacked = is.flagged.spelled.stacked;
              valid = subst IsValid (sym state) (returned-valid (state_of frame records) id (witnesses kept).valid);
              unused = is.flagged.spelled.unused;
              space = refl;
            }),
        state,
      ),
      omega (arith, in_use, old_count, new_count, is.counted, lengths.items),
      λ notes by_height unparked holds. holds-walked frame records new lists (change notes) (raised_unless (is_noted (change notes) shelf) shelf width by_height) walked (is.holds notes by_height unparked (holds-kept frame records notes by_height holds)),
      λ seconds changed bound bounds narrow are. subst (λ (l : Lists). AreSecondsOf new.items l.entries (if alone then seconds else set seconds shelf (second_after changed width bound (second_at seconds shelf)))) (sym walked) (is.seconds seconds changed bound bounds narrow are),
    )

-- the id of an allocated item
pub allocated-id : (items : List LinkedItem) (label number : ℕ) → is_allocated_at items number ≡ true → (field_at (spelled_item label) (record { width = 0; id = None }) items number).id ≡ Some (label + 65536 * field_at (λ (x : LinkedItem). x.generation) 0 items number)
allocated-id [] label number e = absurd (cc)
allocated-id (x ∷ xs) label zero e = simp e refl
allocated-id (x ∷ xs) label (suc number) e = allocated-id xs label number e

-- a return of an item of this shelf
abbrev returned_in : ℕ → ℕ → Records → Step
returned_in shelf number records =
    let one = item_merged shelf number records in
    let two = shelves_merged shelf (emptiness_said shelf one.records) in
    record { records = two.records; made_unused = one.made_unused + two.made_unused }

-- what is noted after it
abbrev notes_in : ℕ → ℕ → Records → Notes → Notes
notes_in shelf number records notes = shelves_merged_notes shelf (emptiness_said shelf (item_merged shelf number records).records) notes

-- the shelves of a state whose shelves around one were merged
shelves-after : (frame : Frame) (peak_items n : ℕ) (after : AtlasState) (middle whole spelled : List Shelf) → after ≡ record { frame = frame; shelves = merged_before both_empty combined_shelves n (merged_at both_empty combined_shelves n whole); peak_items = peak_items } → middle ≡ whole → spelled ≡ merged_before both_empty combined_shelves n (merged_at both_empty combined_shelves n middle) → spelled ≡ after.shelves
shelves-after frame peak_items n after middle whole spelled at same merged = rw at (rw (← same) merged)

-- what is known of a return of an item of this shelf
record Returns (frame : Frame) (records : Records) (shelf number : ℕ) : Type 0 where
  after : IsReturned (atlas_of frame records) (returned_in shelf number records) (walked_lists records).entries (notes_in shelf number records) shelf (freed_width records.items number) (stands_alone shelf number records) (returned (state_of frame records) (id_at records.items number)) (walked_lists records).unused_items
  can_item : CanMergeItem shelf number records
  remains : IsRemaining shelf number records
  can_shelves : CanMergeShelves shelf (emptiness_said shelf (item_merged shelf number records).records)
  linked : IsLinkedBack shelf (emptiness_said shelf (item_merged shelf number records).records).shelves
  can_by_height : (notes : Notes) (by_height : List BoundedShelf) → is_parked notes shelf ≡ false → AreByHeightExceptNoted frame records notes by_height → CanReturnByHeight shelf number records notes by_height

-- an allocated item was returned that stands there
returned-there : (frame : Frame) (records : Records) (number : ℕ) (has : HasItem number (walked_lists records).entries) → AreKept frame records → is_allocated_at records.items number ≡ true → IsFlagged (atlas_of frame records) (lists_of (has.before ++ entry_of has.shelf (has.front ++ number ∷ has.back) has.free ∷ has.after) (walked_lists records).unused_items (walked_lists records).unused_shelves) → Returns frame records has.shelf number
returned-there frame records number has kept allocated flagged =
    let atlas : AtlasRecords = atlas_of frame records in
    let state : AtlasState = state_of frame records in
    let unused : List ℕ = (walked_lists records).unused_items in
    let gone : List ℕ = (walked_lists records).unused_shelves in
    let shelf : ℕ = has.shelf in
    let entry : Entry = entry_of shelf (has.front ++ number ∷ has.back) has.free in
    let front : List Shelf = map (spelled_shelf atlas) has.before in
    let back : List Shelf = map (spelled_shelf atlas) has.after in
    let old : Shelf = spelled_shelf atlas entry in
    let new : Shelf = merged_shelf (freed_shelf frame (length has.front) old) in
    let shelves : state.shelves ≡ front ++ old ∷ back = ap (map (spelled_shelf atlas)) has.whole ∙ map-append (spelled_shelf atlas) has.before (entry ∷ has.after) in
    let valid : IsShelf frame old = Each-middle (IsShelf frame) front old back (subst (λ (ss : List Shelf). AllByRecursion (IsShelf frame) ss) shelves (witnesses kept).valid.shelves) in
    let three : Records = emptiness_said shelf (item_merged shelf number records).records in
    let freed : IsFreed atlas three (item_merged shelf number records).made_unused (around_of has.before has.after unused gone) shelf number has.front has.back has.free =
    freed-flagged (around_of has.before has.after unused gone) shelf number has.front has.back has.free valid allocated flagged in
    let middle : AtlasRecords = with_records atlas three in
    let edited : Entry = entry_of shelf freed.numbers freed.free_list in
    let two : Step = shelves_merged shelf three in
    let merges : MergesShelves middle two (shelves_merged_notes shelf three) (around_of has.before has.after freed.left_unused gone) edited = merges-shelves (around_of has.before has.after freed.left_unused gone) edited freed.flagged in
    let at = returned-at state (id_at records.items number) (length has.before) (length has.front) front back old (map (item_at records.items) has.front) (map (item_at records.items) has.back) (item_at records.items number)
    (length-map has.before (spelled_shelf atlas)) (length-map has.front (item_at records.items)) (witnesses kept).valid shelves
    (map-append (item_at records.items) has.front (number ∷ has.back)) (allocated-id records.items number number allocated) in
    let low : AreLow (map (spelled_shelf middle) (has.before ++ edited ∷ has.after)) = λ column.
    let same : column_height column (new ∷ back) ≡ column_height column (old ∷ back) = refl in
    rw freed.spelled (omega (arith, same, column_height-append column front (new ∷ back), column_height-append column front (old ∷ back), low-valid state (witnesses kept).valid column, ap (column_height column) shelves)) in
    let remaining : IsRemaining shelf number records × (merged_width shelf number records ≡ freed_width records.items number) =
    item-remaining (around_of has.before has.after unused gone) shelf number has.front has.back has.free valid allocated flagged in
    let start : (notes : Notes) (by_height : List BoundedShelf) → HoldsExceptNoted atlas (walked_lists records).entries notes by_height → HoldsExceptNoted atlas (has.before ++ entry ∷ has.after) notes by_height = λ notes by_height holds.
    subst (λ (es : List Entry). HoldsExceptNoted atlas es notes by_height) has.whole holds in
    record {
      after =
          record {
            lists = lists_of merges.entries merges.left_unused merges.gone;
            flagged = merges.flagged;
            spelled = shelves-after frame state.peak_items (length has.before) (returned state (id_at records.items number)) (map (spelled_shelf middle) (has.before ++ edited ∷ has.after)) (front ++ new ∷ back)
                (map (spelled_shelf (with_records atlas two.records)) merges.entries) at freed.spelled merges.merged;
            counted = omega (arith, merges.counted, freed.counted);
            holds = λ notes by_height unparked holds. raised-later (with_records atlas two.records) merges.entries notes (shelves_merged_notes shelf three notes) shelf (freed_width records.items number) by_height (merged_all-later shelf three notes)
                (merges.holds notes (raised_unless (is_noted notes shelf) shelf (freed_width records.items number) by_height) (freed.frees notes by_height unparked (start notes by_height holds)));
            seconds = λ seconds changed bound bounds narrow are.
                let anew : List ℕ = set seconds shelf (second_after changed (freed_width records.items number) bound (second_at seconds shelf)) in
                let before : AreSecondsOf records.items (has.before ++ entry ∷ has.after) seconds = subst (λ (es : List Entry). AreSecondsOf records.items es seconds) has.whole are in
                merges.seconds (if stands_alone shelf number records then seconds else anew)
                (holds-either (AreSecondsOf three.items (has.before ++ edited ∷ has.after)) (stands_alone shelf number records) seconds anew
                (λ alone. freed.stay_seconds (remaining.0.alone ∙ alone) seconds before)
                (freed.frees_seconds seconds changed bound
                (λ unchanged. Each-middle (λ (e : Entry). e.number ≡ shelf → IsBound bound (spelled_shelf atlas e)) has.before entry has.after (subst (λ (es : List Entry). AllByRecursion (λ (e : Entry). e.number ≡ shelf → IsBound bound (spelled_shelf atlas e)) es) has.whole (bounds unchanged)) refl)
                narrow before));
          };
      remains = remaining.0;
      can_item = can-merge-item (around_of has.before has.after unused gone) shelf number has.front has.back has.free (witnesses kept).valid.frame valid allocated flagged.spelled;
      linked = shelf-before (around_of has.before has.after freed.left_unused gone) edited freed.flagged;
      can_shelves = can-merge-shelves (around_of has.before has.after freed.left_unused gone) edited low freed.flagged;
      can_by_height = λ notes by_height unparked are.
          let holds : HoldsExceptNoted atlas (has.before ++ entry ∷ has.after) notes by_height = start notes by_height (holds-kept frame records notes by_height are) in
          let in_use : 1 ≤ once_where (is_in_use notes shelf) =
          omega (
            arith,
            holds.in_use shelf,
            ap (times shelf) (shelf_numbers-append has.before (entry ∷ has.after)),
            times-append shelf (shelf_numbers has.before) (shelf ∷ shelf_numbers has.after),
            times-here shelf (shelf_numbers has.after),
          ) in
          record {
            width = remaining.1;
            known = in_use-within notes.standing shelf (once-true (is_in_use notes shelf) in_use);
            stands = λ unnoted. omega (arith, holds.listed shelf, in_use, ap once_where (holds.settled shelf unnoted).listed);
            order = holds.order;
            shelves = can-merge-all-notes (around_of has.before has.after freed.left_unused gone) edited notes (raised_unless (is_noted notes shelf) shelf (freed_width records.items number) by_height) freed.flagged (freed.frees notes by_height unparked holds);
          };
    }

-- records that keep every rule keep it after an allocated item was returned, and spell the state after its return; what
-- this adds up fits 16 bits, and as many items fewer are in use as became unused
pub returns-item : (frame : Frame) (records : Records) (number : ℕ) → AreKept frame records → is_allocated_at records.items number ≡ true → ReturnsItem frame records number
returns-item frame records number kept allocated =
    let atlas : AtlasRecords = atlas_of frame records in
    let lists : Lists = walked_lists records in
    let has : HasItem number lists.entries = located atlas lists number (witnesses kept).linked (witnesses kept).unused allocated in
    let entry : Entry = entry_of has.shelf (has.front ++ number ∷ has.back) has.free in
    let flagged : IsFlagged atlas (lists_of (has.before ++ entry ∷ has.after) lists.unused_items lists.unused_shelves) =
    subst (λ (es : List Entry). IsFlagged atlas (lists_of es lists.unused_items lists.unused_shelves)) has.whole
    (record { spelled = record { linked = (witnesses kept).linked; placed = (witnesses kept).placed; stacked = (witnesses kept).stacked; unused = (witnesses kept).unused }; flags = (witnesses kept).flags }) in
    let placed : IsPlaced atlas entry = Each-middle (IsPlaced atlas) has.before entry has.after flagged.spelled.placed in
    let own : shelf_of records.items number ≡ has.shelf = (Each-back (λ item. shelf_of records.items item ≡ has.shelf) has.front (number ∷ has.back) placed.owners).0 in
    let there : Returns frame records (shelf_of records.items number) number =
    subst (λ shelf. Returns frame records shelf number) (sym own) (returned-there frame records number has kept allocated flagged) in
    let again = kept-again frame records (item_returned number records) (id_at records.items number) (unused_by number records) (returned_notes number records) (shelf_of records.items number) (freed_width records.items number) (stands_alone (shelf_of records.items number) number records) kept (returned-lengths number records) there.after in
    record {
      can = record { item = there.can_item; remaining = there.remains; shelves = there.can_shelves; linked = there.linked };
      used = rw own
          (omega (
            arith,
            ap (λ (es : List Entry). times has.shelf (shelf_numbers es)) has.whole,
            ap (times has.shelf) (shelf_numbers-append has.before (entry ∷ has.after)),
            times-append has.shelf (shelf_numbers has.before) (has.shelf ∷ shelf_numbers has.after),
            times-here has.shelf (shelf_numbers has.after),
          ));
      kept = again.0.0;
      state = again.0.1;
      counted = again.1;
      can_by_height = there.can_by_height;
      by_height = again.2;
      seconds = again.3;
    }
