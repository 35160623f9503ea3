-- Kept records are kept again after a placement was taken, and spell the state of the model.
use Rattle.shelf_records.proofs.AllLists.LinkedEdits.{around_of}
use Rattle.std.proofs.Common.{◌≡◌, ℕ, zero, suc, ◌+◌, ◌<◌, ◌≤◌, pos, Some, List, [], ◌∷◌, ◌++◌, length, map, refl, ap, arith, ◌∙◌, sym, subst}
use Rattle.std.proofs.lemmas.List.{length-append, map-append}
use Rattle.std.specs.Prelude.{max, slice_get}
use Rattle.etagere_base.proofs.EachLemmas.{Each-back, Each-front, Each-weaken}
use Rattle.std.specs.List.{AllByRecursion}
use Rattle.etagere_base.specs.Lists.{replaced_at, times}
use Rattle.etagere_base.specs.declared.frames.Frame.{Frame}
use Rattle.etagere_base.specs.declared.geometry.Size.{Size}
use Rattle.shelf_records.proofs.AllLists.LinkedItems.{entry_of}
use Rattle.shelf_records.specs.RecordLists.{Records, Entry, Lists, item_numbers, shelf_numbers, walked_lists}
use Rattle.shelf_records.specs.RecordUses.{number_used}
use Rattle.shelf_records.proofs.AllLists.LinkedFrames.{shelf_numbers-append}
use Rattle.shelf_records.proofs.AllLists.LinkedWalks.{linked-lists, linked-walks}
use Rattle.shelf_records.specs.AtlasRecords.{AtlasRecords, item_at, spelled_shelf}
use Rattle.shelf_model.specs.Choice.{Placement, placement_of}
use Rattle.shelf_model.specs.Places.{allocated_numbers, record_number}
use Rattle.shelf_records.specs.Private.Kept.{AreKept, Locates, atlas_of, bare, state_of}
use Rattle.shelf_records.proofs.Spelled.Witnessed.{HasFlag, Witnessed}
use Rattle.shelf_store.proofs.Spelled.TakenItemSpelled.{free_spot}
use Rattle.shelf_store.specs.Private.PlacementTaken.{id_of, item_record, placement_taken}
use Rattle.shelf_model.specs.Space.{space_in}
use Rattle.shelf_model.specs.State.{Item, Shelf, AtlasState, items_in_use}
use Rattle.shelf_model.specs.Taking.{shelf_pieces, taken}
use Rattle.shelf_model.specs.Valid.{IsValid}
use Rattle.shelf_store.proofs.Spelled.LocatedPlacements.{IsLocated}
use Rattle.shelf_store.proofs.Spelled.NeighboursMerged.{get-here}
use Rattle.shelf_store.proofs.Spelled.SpelledLists.{with_records}
use Rattle.shelf_records.proofs.Spelled.SpelledNumbers.{items_in_use-spelled, new-number, number-of_record}
use Rattle.shelf_store.proofs.Spelled.TakenRests.{link_where, list_where}
use Rattle.shelf_store.proofs.Spelled.TakenReady.{IsReady, each-length, ready}
use Rattle.shelf_store.proofs.Spelled.TakenSpelled.{IsTakenBy, taken-spelled}
use Rattle.shelf_records.proofs.Spelled.Witnesses.{kept-of}
use Rattle.shelf_model.proofs.Taken.TakenShelves.{IsTaking, taken_shelf-not_empty}
use Rattle.shelf_model.proofs.Taken.TakenValid.{taken-valid}
use Rattle.shelf_records.proofs.Spelled.StandsKept.{witnesses}

-- there are shelves where some are spelled
some-entries : (atlas : AtlasRecords) (entries : List Entry) (front pieces back : List Shelf) → 1 ≤ length pieces → map (spelled_shelf atlas) entries ≡ front ++ (pieces ++ back) → 1 ≤ length (shelf_numbers entries)
some-entries atlas [] front pieces back some spelled = omega (arith, some, ap length spelled, length-append front (pieces ++ back), length-append pieces back)
some-entries atlas (entry ∷ entries) front pieces back some spelled = omega arith

-- a member replaced by pieces, through a function
replaced-between : {X Y : Type 0} (f : X → Y) (pieces : Y → List Y) (front back : List X) (x : X) → replaced_at (length front) pieces (map f (front ++ x ∷ back)) ≡ map f front ++ (pieces (f x) ++ map f back)
replaced-between f pieces [] back x = refl
replaced-between f pieces (y ∷ front) back x = ap (λ ys. f y ∷ ys) (replaced-between f pieces front back x)

-- the count of records: the greater of those before and of the items in use
pub records-count : (old new in_use unused : ℕ) → in_use + unused ≡ new → old ≤ new → (1 ≤ unused → new ≡ old) → max old in_use ≡ new
records-count old new in_use zero total more made = omega (arith, total, more)
records-count old new in_use (suc unused) total more made = omega (arith, total, made (omega arith))

-- the shelves in use before a placement was taken and after it, by their numbers and as they are spelled
pub record SpellsTaken (frame : Frame) (records new : Records) (placement found : Placement) : Type 0 where
  pub front : List ℕ
  pub back : List ℕ
  pub fronts : List Shelf
  pub backs : List Shelf
  pub whole : Shelf
  pub rest : ℕ
  pub item : ℕ
  pub rest_is : number_used placement.splits_shelf records.unused_shelves records.shelves ≡ link_where placement.splits_shelf rest
  pub item_is : number_used placement.splits_shelf records.unused_items records.items ≡ link_where placement.splits_shelf item
  pub takes : IsTaking frame placement whole
  pub taken_item : takes.found.item ≡ item_at records.items found.item
  pub long : length front ≡ length fronts
  pub numbers : shelf_numbers (walked_lists records).entries ≡ front ++ found.shelf ∷ back
  pub shelves : map (spelled_shelf (bare frame records)) (walked_lists records).entries ≡ fronts ++ whole ∷ backs
  pub new_numbers : shelf_numbers (walked_lists new).entries ≡ front ++ found.shelf ∷ (list_where placement.splits_shelf rest ++ back)
  pub new_shelves : map (spelled_shelf (bare frame new)) (walked_lists new).entries ≡ fronts ++ (shelf_pieces frame placement (id_of records.items found.item) whole ++ backs)

-- the numbers of shelves are as many as they
numbers-spelled : (atlas : AtlasRecords) (entries : List Entry) → length (shelf_numbers entries) ≡ length (map (spelled_shelf atlas) entries)
numbers-spelled atlas [] = refl
numbers-spelled atlas (entry ∷ entries) = omega (arith, numbers-spelled atlas entries)

-- what taking a placement makes of kept records: they are kept, and spell the state of the model; the record number of
-- the id is new, and below the records
pub record KeepsTaken (frame : Frame) (records : Records) (placement found : Placement) : Type 0 where
  pub state : state_of frame (placement_taken frame.column_width found records) ≡ taken (state_of frame records) placement (id_of records.items found.item)
  pub kept : AreKept frame (placement_taken frame.column_width found records)
  pub spells : SpellsTaken frame records (placement_taken frame.column_width found records) placement found
  pub fresh : times (record_number (id_of records.items found.item)) (allocated_numbers (state_of frame records)) ≡ 0
  pub below : record_number (id_of records.items found.item) < (taken (state_of frame records) placement (id_of records.items found.item)).peak_items

-- a placement of a size that was located in kept records is taken
pub placement-kept : (frame : Frame) (records : Records) (size : Size) (placement found : Placement) → AreKept frame records → placement_of (state_of frame records) size ≡ Some placement → Locates records found placement → KeepsTaken frame records placement found
placement-kept frame records size placement found kept h locates =
    let state : AtlasState = state_of frame records in
    let number : ℕ = found.item in
    let shelf : ℕ = locates.entry.number in
    let id : ℕ = id_of records.items number in
    let new_state : AtlasState = taken state placement id in
    let lists : Lists = walked_lists records in
    let atlas : AtlasRecords = record { frame = frame; records = records; allocated_space = pos (space_in new_state.shelves) } in
    let is_ready : IsReady frame records placement shelf number = ready frame records size placement found kept h locates in
    let is : IsLocated frame records placement shelf number = is_ready.is in
    let entry : Entry = entry_of shelf (is.front ++ number ∷ is.back) (is.free_front ++ number ∷ is.free_back) in
    let entries : List Entry = is.before ++ entry ∷ is.after in
    let numbered : Placement = record placement { shelf = shelf; item = number } in
    let new : Records = placement_taken frame.column_width numbered records in
    let last : AtlasRecords = with_records atlas new in
    let flags : AllByRecursion (HasFlag atlas) entries =
    subst (AllByRecursion (HasFlag atlas)) is.entries (Each-weaken (HasFlag (atlas_of frame records)) (HasFlag atlas) lists.entries (λ entry flag. flag) (witnesses kept).flags) in
    let within : number < length records.items = is_ready.within in
    let takes : IsTakenBy atlas new is.before is.after shelf (spelled_shelf atlas entry) placement id =
    taken-spelled (around_of is.before is.after lists.unused_items lists.unused_shelves) (free_spot shelf number is.front is.back is.free_front is.free_back) placement within is.item
    (λ split. omega (arith, is.takes.shorter split)) is.takes.full (witnesses kept).counts.shelves.1 is_ready.room
    (taken_shelf-not_empty frame placement id placement.height (spelled_shelf atlas entry) is.takes)
    (Each-front (HasFlag atlas) is.before (entry ∷ is.after) flags) (Each-back (HasFlag atlas) is.before (entry ∷ is.after) flags).1 (is_ready.spelled atlas.allocated_space) in
    let pieces : Shelf → List Shelf = shelf_pieces frame placement id in
    let shelves : new_state.shelves ≡ map (spelled_shelf last) takes.lists.entries =
    ap (λ (es : List Entry). replaced_at placement.shelf pieces (map (spelled_shelf atlas) es)) is.entries
    ∙ ap (λ n. replaced_at n pieces (map (spelled_shelf atlas) entries)) (sym is.at)
    ∙ replaced-between (spelled_shelf atlas) pieces is.before is.after entry
    ∙ sym takes.shelves in
    let in_use : items_in_use new_state.shelves ≡ length (item_numbers takes.lists.entries) = ap items_in_use shelves ∙ items_in_use-spelled last takes.lists.entries in
    let total : items_in_use new_state.shelves + length takes.lists.unused_items ≡ length new.items =
    omega (
      arith,
      in_use,
      each-length (length new.items) (item_numbers takes.lists.entries ++ takes.lists.unused_items ++ []) takes.flagged.spelled.linked.items_once,
      length-append (item_numbers takes.lists.entries ++ takes.lists.unused_items) [],
      length-append (item_numbers takes.lists.entries) takes.lists.unused_items,
    ) in
    let count : new_state.peak_items ≡ length new.items = records-count (length records.items) (length new.items) (items_in_use new_state.shelves) (length takes.lists.unused_items) total takes.more takes.made in
    let some_shelf : 1 ≤ length new.shelves =
    omega (
      arith,
      some-entries last takes.lists.entries (map (spelled_shelf atlas) is.before) (pieces (spelled_shelf atlas entry)) (map (spelled_shelf atlas) is.after) (omega arith) takes.shelves,
      each-length (length new.shelves) (shelf_numbers takes.lists.entries ++ takes.lists.unused_shelves ++ []) takes.flagged.spelled.linked.shelves_once,
      length-append (shelf_numbers takes.lists.entries ++ takes.lists.unused_shelves) [],
      length-append (shelf_numbers takes.lists.entries) takes.lists.unused_shelves,
    ) in
    let small : number < 65536 = omega (arith, within, (witnesses kept).counts.items.1) in
    let generation : ℕ = (item_record records.items number).generation in
    let new_number : times (record_number id) (allocated_numbers state) ≡ 0 =
    new-number (atlas_of frame records) lists.entries number generation (witnesses kept).counts.items.1 small is.item.free in
    let low : record_number id < new_state.peak_items = omega (arith, number-of_record number generation small, count, within, takes.more) in
    let valid : IsValid new_state = taken-valid state size placement id (witnesses kept).valid h new_number low in
    let witnessed : Witnessed last takes.lists new_state =
    record {
      spelled = ap (λ (ss : List Shelf). record { frame = frame; shelves = ss; peak_items = new_state.peak_items }) shelves
          ∙ ap (λ n. record { frame = frame; shelves = map (spelled_shelf last) takes.lists.entries; peak_items = n }) count;
      counts =
          record {
            shelves = (some_shelf, takes.few);
            items = (omega (arith, within, takes.more), omega (arith, valid.peak_items.1, count));
          };
      linked = takes.flagged.spelled.linked;
      placed = takes.flagged.spelled.placed;
      flags = takes.flagged.flags;
      stacked = takes.flagged.spelled.stacked;
      valid = valid;
      unused = takes.flagged.spelled.unused;
      space = refl;
    } in
    let done = kept-of frame new takes.lists new_state witnessed in
    let met : walked_lists new ≡ takes.lists = linked-lists new takes.lists (linked-walks new takes.lists witnessed.counts.shelves.1 witnessed.counts.items.1 witnessed.linked) in
    let items : List Item = map (item_at records.items) (is.front ++ number ∷ is.back) in
    let read : slice_get items (length is.front) ≡ Some (item_at records.items number) = get-here (item_at records.items) is.front number is.back in
    let place : is.takes.found.number ≡ length is.front = omega (arith, is.takes.item, is.item.at) in
    let got : slice_get items (length is.front) ≡ Some is.takes.found.item = subst (λ n. slice_get items n ≡ Some is.takes.found.item) place is.takes.found.at.get in
    let taken_item : is.takes.found.item ≡ item_at records.items number = cc in
    let spells : SpellsTaken frame records new placement numbered =
    record {
      front = shelf_numbers is.before;
      back = shelf_numbers is.after;
      fronts = map (spelled_shelf atlas) is.before;
      backs = map (spelled_shelf atlas) is.after;
      whole = spelled_shelf atlas entry;
      rest = takes.rest;
      item = takes.item;
      rest_is = takes.rest_is;
      item_is = takes.item_is;
      takes = is.takes;
      taken_item = taken_item;
      long = numbers-spelled atlas is.before;
      numbers = ap shelf_numbers is.entries ∙ shelf_numbers-append is.before (entry ∷ is.after);
      shelves = ap (map (spelled_shelf atlas)) is.entries ∙ map-append (spelled_shelf atlas) is.before (entry ∷ is.after);
      new_numbers = ap (λ (l : Lists). shelf_numbers l.entries) met ∙ takes.numbers;
      new_shelves = ap (λ (l : Lists). map (spelled_shelf last) l.entries) met ∙ takes.shelves;
    } in
    let same : numbered ≡ found = ap (λ n. record placement { shelf = n; item = number }) (sym locates.shelf) ∙ sym locates.same in
    subst (KeepsTaken frame records placement) same
    (record {
      state = done.0;
      kept = done.1;
      spells = spells;
      fresh = new_number;
      below = low;
    })
