-- Records that spell lists, whose shelves say whether they are empty; and after a shelf was made to say it.
use Rattle.std.proofs.Common.{◌≡◌, ◌≢◌, ℕ, ◌+◌, ◌≤◌, Bool, true, false, ◌&&◌, ◌==◌, Option, Some, List, [], ◌∷◌, ◌++◌, map, refl, ap, arith, sym, ◌∙◌}
use Rattle.std.specs.Prelude.{◌/◌, not, is_none, if◌then◌else◌}
use Rattle.etagere_base.proofs.EachLemmas.{Each-append, Each-middle}
use Rattle.std.specs.List.{AllByRecursion}
use Rattle.etagere_base.specs.Lists.{times}
use Rattle.shelf_records.proofs.AllLists.LinkedEdits.{linked-apart, Around, with_entry}
use Rattle.shelf_records.specs.declared.records.LinkedItem.{LinkedItem}
use Rattle.shelf_records.specs.declared.records.LinkedShelf.{LinkedShelf}
use Rattle.shelf_records.specs.Chains.{IsChainIn}
use Rattle.shelf_records.specs.RecordLists.{Records, Entry, Lists, IsEntry, first_item_of, shelf_numbers}
use Rattle.shelf_records.specs.Records.{item_chain}
use Rattle.shelf_records.proofs.AllLists.LinkedFields.{KeepsShelfLinks, shelf_changed-linked}
use Rattle.etagere_links.proofs.FieldChanges.{field_at-changed, field_at-kept, field_at-other}
use Rattle.etagere_links.proofs.ListEnds.{times-here}
use Rattle.shelf_records.specs.AtlasRecords.{AtlasRecords, along_of, across_of, height_of, is_empty_at, is_allocated_at, item_at, item_place_of, spelled_shelf}
use Rattle.shelf_store.specs.Private.ItemReturned.{emptiness_said, names_one_free}
use Rattle.shelf_records.proofs.Spelled.Witnessed.{HasFlag}
use Rattle.shelf_records.specs.StandsFor.{AreStacked, height_before}
use Rattle.shelf_model.specs.State.{Item, Shelf, is_empty, is_one_free}
use Rattle.shelf_store.proofs.Spelled.ItemsAround.{free-item}
use Rattle.shelf_records.proofs.Spelled.RecordValues.{SameItem, items-same, map-agrees}
use Rattle.shelf_store.proofs.Spelled.SpelledLists.{with_records, IsSpelled}
use Rattle.shelf_store.proofs.Spelled.SpelledShelves.{still-placed}

-- records that spell lists, and whose shelves say whether they are empty
pub record IsFlagged (atlas : AtlasRecords) (lists : Lists) : Type 0 where
  pub spelled : IsSpelled atlas lists
  pub flags : AllByRecursion (HasFlag atlas) lists.entries

-- shelves that are spelled as before and say what they said
pub flags-same : (atlas new : AtlasRecords) (entries : List Entry) → ((k : ℕ) → 1 ≤ times k (shelf_numbers entries) → is_empty_at new.records.shelves k ≡ is_empty_at atlas.records.shelves k) → map (spelled_shelf new) entries ≡ map (spelled_shelf atlas) entries → AllByRecursion (HasFlag atlas) entries → AllByRecursion (HasFlag new) entries
flags-same atlas new [] same spelled flags = tt
flags-same atlas new (entry ∷ entries) same spelled flags =
    let first : spelled_shelf new entry ≡ spelled_shelf atlas entry = cc in
    let rest : map (spelled_shelf new) entries ≡ map (spelled_shelf atlas) entries = cc in (
      same entry.number (omega (arith, times-here entry.number (shelf_numbers entries))) ∙ flags.0 ∙ ap is_empty (sym first),
      flags-same atlas new entries (λ k stands. same k (omega (arith, stands))) rest flags.1,
    )

-- a shelf with the same place and items, and of this height
pub shelf-is : (atlas : AtlasRecords) (records : Records) (entry : Entry) (height : ℕ) → along_of records.shelves entry.number ≡ along_of atlas.records.shelves entry.number → height_of records.shelves entry.number ≡ height → ((k : ℕ) → SameItem atlas.records.items records.items k) → spelled_shelf (with_records atlas records) entry ≡ record { column = (spelled_shelf atlas entry).column; height = height; items = (spelled_shelf atlas entry).items; free_list = (spelled_shelf atlas entry).free_list }
shelf-is atlas records entry height along tall same =
    let items : map (item_at records.items) entry.items ≡ map (item_at atlas.records.items) entry.items = map-agrees (item_at records.items) (item_at atlas.records.items) entry.items (λ k stands. (same k).item) in
    let places : map (item_place_of records.items) entry.free_list ≡ map (item_place_of atlas.records.items) entry.free_list = map-agrees (item_place_of records.items) (item_place_of atlas.records.items) entry.free_list (λ k stands. (same k).place) in
    ap (λ a. record { column = a / atlas.frame.column_width; height = height_of records.shelves entry.number; items = map (item_at records.items) entry.items; free_list = map (item_place_of records.items) entry.free_list }) along
    ∙ ap (λ h. record { column = (spelled_shelf atlas entry).column; height = h; items = map (item_at records.items) entry.items; free_list = map (item_place_of records.items) entry.free_list }) tall
    ∙ ap (λ (is : List Item). record { column = (spelled_shelf atlas entry).column; height = height; items = is; free_list = map (item_place_of records.items) entry.free_list }) items
    ∙ ap (λ (ps : List ℕ). record { column = (spelled_shelf atlas entry).column; height = height; items = (spelled_shelf atlas entry).items; free_list = ps }) places

-- shelves that begin where they began and are as tall stand where they stood
module _ (shelves new : List LinkedShelf) (column_width : ℕ) (along : (k : ℕ) → along_of new k ≡ along_of shelves k) (across : (k : ℕ) → across_of new k ≡ across_of shelves k) (height : (k : ℕ) → height_of new k ≡ height_of shelves k) where
  heights-stay : (column : ℕ) (numbers : List ℕ) → height_before new column_width column numbers ≡ height_before shelves column_width column numbers
  heights-stay column [] = refl
  heights-stay column (n ∷ ns) =
      ap (λ a. (if a / column_width == column then height_of new n else 0) + height_before new column_width column ns) (along n)
      ∙ ap (λ h. (if along_of shelves n / column_width == column then h else 0) + height_before new column_width column ns) (height n)
      ∙ ap (λ rest. (if along_of shelves n / column_width == column then height_of shelves n else 0) + rest) (heights-stay column ns)

  stacked-stay : (before numbers : List ℕ) → AreStacked shelves column_width before numbers → AreStacked new column_width before numbers
  stacked-stay before [] stacked = tt
  stacked-stay before (n ∷ ns) stacked =
      let own : height_before new column_width (along_of new n / column_width) before ≡ height_before shelves column_width (along_of shelves n / column_width) before =
      heights-stay (along_of new n / column_width) before ∙ ap (λ a. height_before shelves column_width (a / column_width) before) (along n) in
      (across n ∙ stacked.0 ∙ sym own, stacked-stay (before ++ n ∷ []) ns stacked.1)

-- the link to the first of a shelf's items names one free item where that is all
pub one-free : (items : List LinkedItem) (first : Option ℕ) (xs : List ℕ) → IsChainIn item_chain items first xs → names_one_free items first ≡ is_one_free (map (item_at items) xs)
one-free items first [] chain = ap (names_one_free items) chain.forward
one-free items first (x ∷ []) chain =
    let all : (b : Bool) → (b && true) ≡ b = λ b. grind arith in
    ap (names_one_free items) chain.forward.0
    ∙ ap (λ (next : Option ℕ). not (is_allocated_at items x) && is_none next) chain.forward.1
    ∙ all (not (is_allocated_at items x))
    ∙ sym (free-item items x (is_allocated_at items x) refl)
one-free items first (x ∷ y ∷ ys) chain =
    let none : (b : Bool) → (b && false) ≡ false = λ b. grind arith in
    ap (names_one_free items) chain.forward.0
    ∙ ap (λ (next : Option ℕ). not (is_allocated_at items x) && is_none next) chain.forward.1.0
    ∙ none (not (is_allocated_at items x))

-- saying whether a shelf is empty keeps the links
keeps-emptiness : (is_empty : Bool) → KeepsShelfLinks (λ (shelf : LinkedShelf). record shelf { is_empty = is_empty })
keeps-emptiness is_empty = record { next = λ x. refl; prev = λ x. refl; first_item = λ x. refl; first_unallocated = λ x. refl }

-- the records after a shelf was made to say whether it is empty: they spell the same, and every shelf says it
pub emptiness_said-flagged : {atlas : AtlasRecords} (around : Around) (entry : Entry) → AllByRecursion (HasFlag atlas) around.before → AllByRecursion (HasFlag atlas) around.after → IsSpelled atlas (with_entry around entry) → IsFlagged (with_records atlas (emptiness_said entry.number atlas.records)) (with_entry around entry) × (map (spelled_shelf (with_records atlas (emptiness_said entry.number atlas.records))) (around.before ++ entry ∷ around.after) ≡ map (spelled_shelf atlas) (around.before ++ entry ∷ around.after))
emptiness_said-flagged {atlas} around entry flags_before flags_after spelled =
    let old : List LinkedShelf = atlas.records.shelves in
    let items : List LinkedItem = atlas.records.items in
    let entries : List Entry = around.before ++ entry ∷ around.after in
    let value : Bool = names_one_free items (first_item_of old entry.number) in
    let change : LinkedShelf → LinkedShelf = λ x. record x { is_empty = value } in
    let records : Records = emptiness_said entry.number atlas.records in
    let new : AtlasRecords = with_records atlas records in
    let apart = linked-apart around entry spelled.linked in
    let along : (k : ℕ) → along_of records.shelves k ≡ along_of old k = λ k. field_at-kept (λ (x : LinkedShelf). x.x) 0 change old entry.number k (λ x. refl) in
    let across : (k : ℕ) → across_of records.shelves k ≡ across_of old k = λ k. field_at-kept (λ (x : LinkedShelf). x.y) 0 change old entry.number k (λ x. refl) in
    let height : (k : ℕ) → height_of records.shelves k ≡ height_of old k = λ k. field_at-kept (λ (x : LinkedShelf). x.height) 0 change old entry.number k (λ x. refl) in
    let same : (k : ℕ) → SameItem items records.items k = λ k. items-same items records.items k refl in
    let each : (es : List Entry) → map (spelled_shelf new) es ≡ map (spelled_shelf atlas) es = λ es. shelves-stay atlas records along height same es in
    let is : IsEntry atlas.records entry = Each-middle (IsEntry atlas.records) around.before entry around.after spelled.linked.entries in
    let other : (k : ℕ) → Some entry.number ≢ Some k → is_empty_at records.shelves k ≡ is_empty_at old k = λ k stranger. field_at-other (λ (x : LinkedShelf). x.is_empty) false change old (Some entry.number) k stranger in
    let own : is_empty_at records.shelves entry.number ≡ value = field_at-changed (λ (x : LinkedShelf). x.is_empty) false change old entry.number value apart.number (λ x. refl) in (
      record {
        spelled =
            record {
              linked = shelf_changed-linked entry.number change (keeps-emptiness value) spelled.linked;
              placed = still-placed atlas records entries along same spelled.placed;
              stacked = stacked-stay old records.shelves atlas.frame.column_width along across height [] (shelf_numbers entries) spelled.stacked;
              unused = spelled.unused;
            };
        flags = Each-append (HasFlag new) around.before (entry ∷ around.after)
            (flags-same atlas new around.before (λ k stands. other k (apart.numbers k (omega (arith, stands)))) (each around.before) flags_before) (
              own ∙ one-free items (first_item_of old entry.number) entry.items is.items,
              flags-same atlas new around.after (λ k stands. other k (apart.numbers k (omega (arith, stands)))) (each around.after) flags_after,
            );
      },
      each entries,
    )
  where
    shelves-stay : (atlas : AtlasRecords) (records : Records) → ((k : ℕ) → along_of records.shelves k ≡ along_of atlas.records.shelves k) → ((k : ℕ) → height_of records.shelves k ≡ height_of atlas.records.shelves k) → ((k : ℕ) → SameItem atlas.records.items records.items k) → (es : List Entry) → map (spelled_shelf (with_records atlas records)) es ≡ map (spelled_shelf atlas) es
    shelves-stay atlas records along height same [] = refl
    shelves-stay atlas records along height same (e ∷ es) =
        ap (λ (s : Shelf). s ∷ map (spelled_shelf (with_records atlas records)) es) (shelf-is atlas records e (height_of atlas.records.shelves e.number) (along e.number) (height e.number) same)
        ∙ ap (λ (ss : List Shelf). spelled_shelf atlas e ∷ ss) (shelves-stay atlas records along height same es)
