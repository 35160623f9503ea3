-- What taking a located placement needs of kept records is there.
use Rattle.std.proofs.Common.{◌≡◌, ℕ, zero, suc, ◌+◌, ◌-◌, ◌<◌, ◌≤◌, Bool, true, false, Option, None, Some, List, [], ◌∷◌, ◌++◌, length, take, refl, ap, arith, ◌∙◌, sym, subst}
use Rattle.std.proofs.lemmas.List.{length-append}
use Rattle.std.proofs.lemmas.Option.{slice_get-map}
use Rattle.std.specs.Prelude.{◌/◌, IfSome, if◌then◌else◌, option_map, slice_get}
use Rattle.etagere_base.proofs.EachLemmas.{Each-middle}
use Rattle.etagere_base.proofs.TimesLemmas.{times-append}
use Rattle.etagere_base.specs.Lists.{times}
use Rattle.etagere_base.specs.declared.frames.Frame.{Frame}
use Rattle.etagere_base.specs.declared.geometry.Size.{Size}
use Rattle.shelf_records.proofs.AllLists.LinkedItems.{entry_of}
use Rattle.shelf_records.proofs.AllLists.LinkedEdits.{linked-apart, around_of}
use Rattle.shelf_records.proofs.AllLists.LinkedUnused.{lists_of}
use Rattle.shelf_records.specs.declared.records.LinkedItem.{LinkedItem}
use Rattle.shelf_records.specs.declared.records.LinkedShelf.{LinkedShelf}
use Rattle.etagere_links.specs.Links.{no_link}
use Rattle.shelf_records.specs.Records.{free_list, item_chain}
use Rattle.shelf_records.specs.RecordLists.{Records, Entry, IsEntry, Lists, first_free_of, first_item_of, item_numbers, shelf_numbers, shelf_walk, walked_entry, walked_lists}
use Rattle.shelf_records.specs.RecordUses.{number_used, rests_used}
use Rattle.shelf_records.proofs.AllLists.LinkedFrames.{item_numbers-append, shelf_numbers-append}
use Rattle.etagere_links.proofs.ListEnds.{times-here}
use Rattle.etagere_links.proofs.RecordChanges.{length-changed_by}
use Rattle.shelf_records.specs.AtlasRecords.{AtlasRecords, across_of, along_of, height_of, item_at, spelled_shelf}
use Rattle.shelf_model.specs.Choice.{Placement, placement_of}
use Rattle.shelf_model.specs.Places.{column_height}
use Rattle.shelf_records.specs.Private.Kept.{AreKept, Locates, atlas_of, state_of}
use Rattle.shelf_store.specs.Private.PlacementTaken.{CanTakeFrom, free_item, item_record, shelf_record, with_shelf_rest}
use Rattle.shelf_model.specs.State.{Item, Shelf, AtlasState, empty_shelf, items_in_use}
use Rattle.shelf_model.proofs.Chosen.Placed.{IsPlaced, placement_of-placed}
use Rattle.shelf_records.proofs.Spelled.KeptShelves.{across-at}
use Rattle.shelf_store.proofs.Spelled.GivenItems.{width-read}
use Rattle.shelf_store.proofs.Spelled.LocatedPlacements.{IsLocated}
use Rattle.shelf_store.proofs.Spelled.NeighboursThere.{loose_shelf-there, member-neighbours, shelf-neighbours}
use Rattle.shelf_records.proofs.Spelled.RecordValues.{SameItem, item-same}
use Rattle.shelf_store.proofs.Spelled.SpelledSplits.{HasShelfSplit, read-record}
use Rattle.shelf_records.proofs.Spelled.SpelledNumbers.{items_in_use-spelled}
use Rattle.shelf_store.proofs.Spelled.TakenReady.{IsReady, each-length, ready}
use Rattle.shelf_store.proofs.Spelled.TakenRests.{AreRests, added_where, are-rests, split-where, link_where, list_where}
use Rattle.shelf_model.proofs.Taken.PlacedWithin.{placed-within}
use Rattle.shelf_records.proofs.Spelled.StandsKept.{witnesses}

-- where the shelf of a placement begins across
across-placed : (frame : Frame) (records : Records) (size : Size) (placement found : Placement) → AreKept frame records → placement_of (state_of frame records) size ≡ Some placement → (locates : Locates records found placement) → across_of records.shelves locates.entry.number ≡ placement.across
across-placed frame records size placement found kept h locates = by_number (slice_get (shelf_walk records).met placement.shelf) refl
  where
    state : AtlasState
    state = state_of frame records

    chosen : IsPlaced state size placement
    chosen = placement_of-placed state size placement h

    by_number : (o : Option ℕ) → slice_get (shelf_walk records).met placement.shelf ≡ o → across_of records.shelves locates.entry.number ≡ placement.across
    by_number None e =
        let none : Some locates.entry ≡ None =
        sym locates.at ∙ slice_get-map (walked_entry records) (shelf_walk records).met placement.shelf ∙ ap (option_map (walked_entry records)) e in
        absurd (cc)
    by_number (Some number) e =
        let both : Some locates.entry ≡ Some (walked_entry records number) =
        sym locates.at ∙ slice_get-map (walked_entry records) (shelf_walk records).met placement.shelf ∙ ap (option_map (walked_entry records)) e in
        let entry : locates.entry ≡ walked_entry records number = cc in
        let read : slice_get state.shelves placement.shelf ≡ Some (spelled_shelf (atlas_of frame records) locates.entry) =
        slice_get-map (spelled_shelf (atlas_of frame records)) (walked_lists records).entries placement.shelf ∙ ap (option_map (spelled_shelf (atlas_of frame records))) locates.at in
        let both_shelves : Some chosen.chosen.shelf ≡ Some (spelled_shelf (atlas_of frame records) locates.entry) = sym chosen.chosen.at ∙ read in
        let shelf : chosen.chosen.shelf ≡ spelled_shelf (atlas_of frame records) locates.entry = cc in
        ap (λ (x : Entry). across_of records.shelves x.number) entry
        ∙ across-at frame records placement.shelf number kept e
        ∙ ap (λ (x : Entry). column_height (along_of records.shelves x.number / frame.column_width) (take placement.shelf state.shelves)) (sym entry)
        ∙ ap (λ (s : Shelf). column_height s.column (take placement.shelf state.shelves)) (sym shelf)
        ∙ ap (λ (p : Placement). p.across) (sym chosen.chosen.is)

-- so many records stand in no list
loose-count : (of_shelf of_item : Bool) (one two : ℕ) → length (list_where of_shelf one ++ list_where of_item two) ≡ (if of_shelf then 1 else 0) + (if of_item then 1 else 0)
loose-count true true one two = refl
loose-count true false one two = refl
loose-count false true one two = refl
loose-count false false one two = refl

-- the items that there are once some were put to use
count-few : (old new in_use unused loose : ℕ) → in_use + unused + loose ≡ new → in_use + loose ≤ no_link → old ≤ no_link → (1 ≤ unused → new ≡ old) → new ≤ no_link
count-few old new in_use zero loose total few old_few made = omega (arith, total, few)
count-few old new in_use (suc unused) loose total few old_few made = omega (arith, made (omega arith), old_few)

-- splitting a shelf keeps the count of items
split-length : (column_width : ℕ) (found : Placement) (shelf item : Option ℕ) (records : Records) → length (with_shelf_rest column_width found shelf item records).items ≡ length records.items
split-length column_width found None item records = refl
split-length column_width found (Some shelf) None records = refl
split-length column_width found (Some shelf) (Some item) records =
    length-changed_by (λ _. free_item (shelf_record records.shelves found.shelf).x column_width shelf (item_record records.items item).generation) records.items (Some item)

-- what is given is no more than there is
fits : (part whole : ℕ) (b : Bool) → (b ≡ true → part < whole) → (b ≡ false → part ≡ whole) → part ≤ whole
fits part whole true split full = omega (arith, split refl)
fits part whole false split full = omega (arith, full refl)

-- a record in no list is there, where one is wanted
wanted-there : (is_wanted : Bool) (number count : ℕ) → ((k : ℕ) → 1 ≤ times k (list_where is_wanted number) → k < count) → IfSome (link_where is_wanted number) (λ k. k < count)
wanted-there false number count within = tt
wanted-there true number count within = within number (omega (arith, times-here number []))

-- a placement that was located can be taken
pub can-take : (frame : Frame) (records : Records) (size : Size) (placement found : Placement) → AreKept frame records → placement_of (state_of frame records) size ≡ Some placement → Locates records found placement → CanTakeFrom frame.column_width found records
can-take frame records size placement found kept h locates =
    let state : AtlasState = state_of frame records in
    let atlas : AtlasRecords = atlas_of frame records in
    let number : ℕ = found.item in
    let shelf : ℕ = locates.entry.number in
    let lists : Lists = walked_lists records in
    let of_shelf : Bool = placement.splits_shelf in
    let of_item : Bool = placement.splits_item in
    let is_ready : IsReady frame records placement shelf number = ready frame records size placement found kept h locates in
    let is : IsLocated frame records placement shelf number = is_ready.is in
    let numbers : List ℕ = is.front ++ number ∷ is.back in
    let entry : Entry = entry_of shelf numbers (is.free_front ++ number ∷ is.free_back) in
    let entries : List Entry = is.before ++ entry ∷ is.after in
    let numbered : Placement = record placement { shelf = shelf; item = number } in
    let used : Records = rests_used of_shelf of_item records in
    let rests : AreRests of_shelf of_item atlas entries =
    are-rests of_shelf of_item atlas (lists_of entries lists.unused_items lists.unused_shelves) (witnesses kept).counts.shelves.1 is_ready.room (is_ready.spelled atlas.allocated_space) in
    let loose : List ℕ = list_where of_shelf rests.shelf_item ++ list_where of_item rests.item in
    let apart = linked-apart (around_of is.before is.after rests.unused_items rests.unused_shelves) entry rests.used.spelled.linked in
    let height : placement.height ≤ height_of records.shelves shelf = fits placement.height (height_of records.shelves shelf) of_shelf is.takes.shorter is.takes.full in
    let rest : List Shelf = if of_shelf then empty_shelf frame (along_of records.shelves shelf / frame.column_width) (height_of records.shelves shelf - placement.height) ∷ [] else [] in
    let Split : Option ℕ → Option ℕ → Type 0 = λ a b.
    HasShelfSplit atlas (with_shelf_rest frame.column_width numbered a b used) (around_of is.before is.after rests.unused_items rests.unused_shelves) (added_where of_shelf rests.shelf rests.shelf_item) entry (list_where of_item rests.item) placement.height rest in
    let one : Split (link_where of_shelf rests.shelf) (link_where of_shelf rests.shelf_item) =
    split-where of_shelf atlas used (around_of is.before is.after rests.unused_items rests.unused_shelves) entry placement number rests.shelf rests.shelf_item (list_where of_item rests.item) (λ e. height) is.takes.full rests.used in
    let two : Split (number_used of_shelf records.unused_shelves records.shelves) (link_where of_shelf rests.shelf_item) =
    subst (λ (o : Option ℕ). Split o (link_where of_shelf rests.shelf_item)) (sym rests.shelf_is) one in
    let is_split : Split (number_used of_shelf records.unused_shelves records.shelves) (number_used of_shelf records.unused_items records.items) =
    subst (λ (o : Option ℕ). Split (number_used of_shelf records.unused_shelves records.shelves) o) (sym rests.shelf_item_is) two in
    let split_records : Records = with_shelf_rest frame.column_width numbered (number_used of_shelf records.unused_shelves records.shelves) (number_used of_shelf records.unused_items records.items) used in
    let added : List Entry = added_where of_shelf rests.shelf rests.shelf_item in
    let apart_split = linked-apart (around_of is.before (added ++ is.after) rests.unused_items rests.unused_shelves) entry is_split.spelled.linked in
    let stands : 1 ≤ times number numbers = omega (arith, times-append number is.front (number ∷ is.back), times-here number is.back) in
    let frees : List ℕ = is.free_front ++ number ∷ is.free_back in
    let stands_free : 1 ≤ times number frees = omega (arith, times-append number is.free_front (number ∷ is.free_back), times-here number is.free_back) in
    let is_entry : IsEntry split_records entry = Each-middle (IsEntry split_records) is.before entry (added ++ is.after) is_split.spelled.linked.entries in
    let among : 1 ≤ times number (item_numbers entries) = omega (arith, item_numbers-append is.before (entry ∷ is.after) number, times-append number numbers (item_numbers is.after), stands) in
    let same : SameItem records.items split_records.items number = item-same records.items split_records.items number (is_split.items number among) in
    let in_use : items_in_use state.shelves ≡ length (item_numbers entries) =
    items_in_use-spelled atlas lists.entries ∙ ap (λ (es : List Entry). length (item_numbers es)) is.entries in
    let few_items : length used.items ≤ no_link =
    count-few (length records.items) (length used.items) (items_in_use state.shelves) (length rests.unused_items) (length loose)
    (omega (
      arith,
      in_use,
      each-length (length used.items) (item_numbers entries ++ rests.unused_items ++ loose) rests.used.spelled.linked.items_once,
      length-append (item_numbers entries ++ rests.unused_items) loose,
      length-append (item_numbers entries) rests.unused_items,
    ))
    (omega (arith, loose-count of_shelf of_item rests.shelf_item rests.item, (placement_of-placed state size placement h).room)) (witnesses kept).counts.items.1 rests.used.made in
    let ends = placed-within state size placement (witnesses kept).valid h in
    let used_shelf = rests.used.shelves shelf in
    let done : CanTakeFrom frame.column_width numbered records =
    record {
      item = is_ready.within;
      small = omega (arith, is_ready.shelf_within, (witnesses kept).counts.shelves.1);
      items = few_items;
      shelves = rests.used.few;
      splits_shelf =
          record {
            shelf = shelf-neighbours used (lists_of entries rests.unused_items rests.unused_shelves) loose (list_where of_shelf rests.shelf) rests.used.spelled.linked shelf
                (omega (arith, ap (times shelf) (shelf_numbers-append is.before (entry ∷ is.after)), times-append shelf (shelf_numbers is.before) (shelf ∷ shelf_numbers is.after), times-here shelf (shelf_numbers is.after)));
            few = rests.used.few;
            bottom = omega (arith, read-record (λ (x : LinkedShelf). x.y) (shelf_record [] shelf) used.shelves shelf, used_shelf.across, across-placed frame records size placement found kept h locates, ends.bottom);
            shorter = omega (arith, read-record (λ (x : LinkedShelf). x.height) (shelf_record [] shelf) used.shelves shelf, used_shelf.height, height);
          };
      rests =
          record {
            shelf = subst (λ (o : Option ℕ). IfSome o (λ number. number < length used.shelves)) (sym rests.shelf_is)
                (wanted-there of_shelf rests.shelf (length used.shelves)
                (loose_shelf-there used (lists_of entries rests.unused_items rests.unused_shelves) loose (list_where of_shelf rests.shelf) rests.used.spelled.linked));
            item = subst (λ (o : Option ℕ). IfSome o (λ number. number < length used.items)) (sym rests.shelf_item_is)
                (wanted-there of_shelf rests.shelf_item (length used.items)
                (λ k wanted. apart.loose_within k (omega (arith, wanted, times-append k (list_where of_shelf rests.shelf_item) (list_where of_item rests.item)))));
          };
      splits_item =
          record {
            item = apart_split.within number stands;
            few = omega (arith, split-length frame.column_width numbered (number_used of_shelf records.unused_shelves records.shelves) (number_used of_shelf records.unused_items records.items) used, few_items);
            right = omega (arith, read-record (λ (x : LinkedItem). x.x) (item_record [] number) split_records.items number, same.place, is.item.along, ends.right);
            narrower = omega (arith, width-read split_records.items number number, ap (λ (i : Item). i.width) same.item, fits placement.width (item_at records.items number).width of_item is.item.split is.item.whole);
          };
      there =
          record {
            shelf = apart_split.number;
            in_shelf = member-neighbours item_chain split_records.items (first_item_of split_records.shelves shelf) numbers number apart_split.within is_entry.items stands;
            in_free_list = member-neighbours free_list split_records.items (first_free_of split_records.shelves shelf) frees number apart_split.free_within is_entry.free_list stands_free;
            for_rest = subst (λ (o : Option ℕ). IfSome o (λ number. number < length split_records.items)) (sym rests.item_is) (wanted-there of_item rests.item (length split_records.items) apart_split.loose_within);
          };
    } in
    let equal : numbered ≡ found = ap (λ n. record placement { shelf = n; item = number }) (sym locates.shelf) ∙ sym locates.same in
    subst (λ (p : Placement). CanTakeFrom frame.column_width p records) equal done
