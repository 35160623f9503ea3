-- Records that spell lists, between the steps of an edit: what an edit of one shelf's items keeps of the others.
use Rattle.std.proofs.Common.{◌≡◌, ℕ, ◌≤◌, false, List, [], ◌∷◌, ◌++◌, map, refl, ap, arith, sym, ◌∙◌}
use Rattle.std.proofs.lemmas.List.{map-append}
use Rattle.std.specs.Prelude.{◌/◌, ◌%◌}
use Rattle.etagere_base.proofs.EachLemmas.{Each-append, Each-front, Each-back}
use Rattle.etagere_base.proofs.TimesLemmas.{times-append}
use Rattle.std.specs.List.{AllByRecursion}
use Rattle.etagere_base.specs.Lists.{times}
use Rattle.shelf_records.specs.RecordLists.{Records, Entry, Lists, shelf_numbers, item_numbers, IsEntry, IsLinkedExcept}
use Rattle.shelf_records.proofs.AllLists.LinkedEdits.{same-numbers, linked-apart, Around, with_entry}
use Rattle.shelf_records.specs.AtlasRecords.{AtlasRecords, is_allocated_at, item_place_of, along_of, height_of, item_at, spelled_shelf}
use Rattle.shelf_records.specs.StandsFor.{AreStacked}
use Rattle.shelf_model.specs.State.{Shelf}
use Rattle.shelf_records.proofs.Spelled.EntryValues.{free_count-same}
use Rattle.shelf_records.proofs.Spelled.RecordValues.{SameItem, SameShelf, map-agrees, LieFrom-same, owners-same}
use Rattle.shelf_records.proofs.Spelled.Witnessed.{IsPlaced}
use Rattle.shelf_store.proofs.Spelled.StackedEdits.{stacked-same}

-- the atlas with other records
abbrev pub with_records : AtlasRecords → Records → AtlasRecords
with_records atlas lists = record { frame = atlas.frame; records = lists; allocated_space = atlas.allocated_space }

-- a shelf whose record and items say the same is spelled as before
pub shelf-same : (atlas : AtlasRecords) (records : Records) (entry : Entry) → SameShelf atlas.records.shelves records.shelves entry.number → ((k : ℕ) → 1 ≤ times k entry.items → SameItem atlas.records.items records.items k) → ((k : ℕ) → times k entry.free_list ≤ times k entry.items) → spelled_shelf (with_records atlas records) entry ≡ spelled_shelf atlas entry
shelf-same atlas records entry shelf items members =
    ap (λ a. record { column = a / atlas.frame.column_width; height = height_of records.shelves entry.number; items = map (item_at records.items) entry.items; free_list = map (item_place_of records.items) entry.free_list }) shelf.along
    ∙ ap (λ h. record { column = along_of atlas.records.shelves entry.number / atlas.frame.column_width; height = h; items = map (item_at records.items) entry.items; free_list = map (item_place_of records.items) entry.free_list }) shelf.height
    ∙ ap (λ is. record { column = along_of atlas.records.shelves entry.number / atlas.frame.column_width; height = height_of atlas.records.shelves entry.number; items = is; free_list = map (item_place_of records.items) entry.free_list }) (map-agrees (item_at records.items) (item_at atlas.records.items) entry.items (λ k stands. (items k stands).item))
    ∙ ap (λ ps. record { column = along_of atlas.records.shelves entry.number / atlas.frame.column_width; height = height_of atlas.records.shelves entry.number; items = map (item_at atlas.records.items) entry.items; free_list = ps }) (map-agrees (item_place_of records.items) (item_place_of atlas.records.items) entry.free_list (λ k stands. (items k (omega (arith, stands, members k))).place))

-- a shelf whose record and items say the same is placed as before
pub placed-same : (atlas : AtlasRecords) (records : Records) (entry : Entry) → along_of records.shelves entry.number ≡ along_of atlas.records.shelves entry.number → ((k : ℕ) → 1 ≤ times k entry.items → SameItem atlas.records.items records.items k) → IsPlaced atlas entry → IsPlaced (with_records atlas records) entry
placed-same atlas records entry along items placed =
    record {
      owners = owners-same atlas.records.items records.items entry.number entry.items items placed.owners;
      along = ap (λ a. a % atlas.frame.column_width) along ∙ placed.along;
      places = rw along (LieFrom-same atlas.records.items records.items (along_of atlas.records.shelves entry.number) entry.items items placed.places);
      free_list = λ k. placed.free_list k ∙ sym (free_count-same atlas.records.items records.items k entry.items (λ n stands. (items n stands).allocated));
    }

-- records that spell lists, while an edit goes on, but for those that stand in no list: no more is known of the state
-- that they spell
pub record IsSpelledExcept (atlas : AtlasRecords) (lists : Lists) (loose_items loose_shelves : List ℕ) : Type 0 where
  pub linked : IsLinkedExcept atlas.records lists loose_items loose_shelves
  pub placed : AllByRecursion (IsPlaced atlas) lists.entries
  pub stacked : AreStacked atlas.records.shelves atlas.frame.column_width [] (shelf_numbers lists.entries)
  pub unused : AllByRecursion (λ item. is_allocated_at atlas.records.items item ≡ false) lists.unused_items

-- records that spell lists, while an edit goes on, each in one of them
abbrev pub IsSpelled : AtlasRecords → Lists → Type 0
IsSpelled atlas lists = IsSpelledExcept atlas lists [] []

-- an edit of the items of one shelf: what the records of other items and of all shelves say stays
pub record EditsItems (atlas : AtlasRecords) (records : Records) (around : Around) (unused' : List ℕ) (entry edited : Entry) : Type 0 where
  pub number : edited.number ≡ entry.number
  pub linked : IsLinkedExcept records (with_entry (record around { unused_items = unused' }) edited) [] []
  pub placed : IsPlaced (with_records atlas records) edited
  pub items : (k : ℕ) → times k entry.items ≡ 0 → SameItem atlas.records.items records.items k
  pub shelf : (k : ℕ) → SameShelf atlas.records.shelves records.shelves k
  pub left_unused : AllByRecursion (λ item. is_allocated_at records.items item ≡ false) unused'

-- shelves whose items are untouched are placed and spelled as before
untouched : (atlas : AtlasRecords) (records : Records) (entries : List Entry) → ((k : ℕ) → SameShelf atlas.records.shelves records.shelves k) → ((k : ℕ) → 1 ≤ times k (item_numbers entries) → SameItem atlas.records.items records.items k) → AllByRecursion (IsEntry atlas.records) entries → AllByRecursion (IsPlaced atlas) entries → AllByRecursion (IsPlaced (with_records atlas records)) entries × (map (spelled_shelf (with_records atlas records)) entries ≡ map (spelled_shelf atlas) entries)
untouched atlas records [] shelf items are placed = (tt, refl)
untouched atlas records (entry ∷ entries) shelf items are placed =
    let own : (k : ℕ) → 1 ≤ times k entry.items → SameItem atlas.records.items records.items k = λ k stands. items k (omega (arith, stands, times-append k entry.items (item_numbers entries))) in
    let rest = untouched atlas records entries shelf (λ k stands. items k (omega (arith, stands, times-append k entry.items (item_numbers entries)))) are.1 placed.1 in (
      (placed-same atlas records entry (shelf entry.number).along own placed.0, rest.0),
      ap (λ (s : Shelf). s ∷ map (spelled_shelf (with_records atlas records)) entries) (shelf-same atlas records entry (shelf entry.number) own are.0.members)
          ∙ ap (λ (ss : List Shelf). spelled_shelf atlas entry ∷ ss) rest.1,
    )

-- the records after an edit of the items of one shelf that puts all loose records into it spell the lists with that
-- shelf edited, and the same other shelves
pub items-edited-except : {atlas : AtlasRecords} (records : Records) (around : Around) (unused' loose : List ℕ) (entry edited : Entry) → IsSpelledExcept atlas (with_entry around entry) loose [] → EditsItems atlas records around unused' entry edited → IsSpelled (with_records atlas records) (with_entry (record around { unused_items = unused' }) edited) × (map (spelled_shelf (with_records atlas records)) (around.before ++ edited ∷ around.after) ≡ map (spelled_shelf atlas) around.before ++ spelled_shelf (with_records atlas records) edited ∷ map (spelled_shelf atlas) around.after)
items-edited-except {atlas} records around unused' loose entry edited spelled edits =
    let new : AtlasRecords = with_records atlas records in
    let apart = linked-apart around entry spelled.linked in
    let front = untouched atlas records around.before edits.shelf
    (λ k stands. edits.items k (omega (arith, apart.others k (omega (arith, stands)))))
    (Each-front (IsEntry atlas.records) around.before (entry ∷ around.after) spelled.linked.entries)
    (Each-front (IsPlaced atlas) around.before (entry ∷ around.after) spelled.placed) in
    let back = untouched atlas records around.after edits.shelf
    (λ k stands. edits.items k (omega (arith, apart.others k (omega (arith, stands)))))
    (Each-back (IsEntry atlas.records) around.before (entry ∷ around.after) spelled.linked.entries).1
    (Each-back (IsPlaced atlas) around.before (entry ∷ around.after) spelled.placed).1 in
    let numbers : shelf_numbers (around.before ++ edited ∷ around.after) ≡ shelf_numbers (around.before ++ entry ∷ around.after) = same-numbers around.before around.after entry edited edits.number in (
      record {
        linked = edits.linked;
        placed = Each-append (IsPlaced new) around.before (edited ∷ around.after) front.0 (edits.placed, back.0);
        stacked = rw numbers (stacked-same atlas.records.shelves records.shelves atlas.frame.column_width edits.shelf (shelf_numbers (around.before ++ entry ∷ around.after)) spelled.stacked);
        unused = edits.left_unused;
      },
      map-append (spelled_shelf new) around.before (edited ∷ around.after)
          ∙ ap (λ (ss : List Shelf). ss ++ spelled_shelf new edited ∷ map (spelled_shelf new) around.after) front.1
          ∙ ap (λ (ss : List Shelf). map (spelled_shelf atlas) around.before ++ spelled_shelf new edited ∷ ss) back.1,
    )

-- the same of an edit that puts no other records into it
pub items-edited : {atlas : AtlasRecords} (records : Records) (around : Around) (unused' : List ℕ) (entry edited : Entry) → IsSpelled atlas (with_entry around entry) → EditsItems atlas records around unused' entry edited → IsSpelled (with_records atlas records) (with_entry (record around { unused_items = unused' }) edited) × (map (spelled_shelf (with_records atlas records)) (around.before ++ edited ∷ around.after) ≡ map (spelled_shelf atlas) around.before ++ spelled_shelf (with_records atlas records) edited ∷ map (spelled_shelf atlas) around.after)
items-edited {atlas} records around unused' entry edited spelled edits =
    items-edited-except records around unused' [] entry edited spelled edits
