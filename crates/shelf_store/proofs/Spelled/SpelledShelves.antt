-- Records that spell lists, after an empty shelf took the place of the empty one after it.
use Rattle.std.proofs.Common.{◌≡◌, ◌≢◌, ℕ, ◌+◌, ◌<◌, false, Some, List, [], ◌∷◌, ◌++◌, length, map, refl, arith, ◌∙◌}
use Rattle.etagere_base.proofs.EachLemmas.{Each-append, Each-front, Each-back}
use Rattle.std.specs.List.{AllByRecursion}
use Rattle.shelf_records.proofs.AllLists.LinkedItems.{entry_of}
use Rattle.shelf_records.proofs.AllLists.LinkedEdits.{linked-apart, Around}
use Rattle.shelf_records.specs.declared.records.LinkedItem.{LinkedItem}
use Rattle.shelf_records.specs.declared.records.LinkedShelf.{LinkedShelf}
use Rattle.shelf_records.specs.ListEdits.{unlinked, made_unused}
use Rattle.shelf_records.specs.Families.{IsUnchanged}
use Rattle.shelf_records.specs.RecordLists.{Records, Entry, shelf_numbers}
use Rattle.shelf_records.specs.RecordMerges.{shelf_absorbed}
use Rattle.shelf_records.specs.Records.{item_chain, shelf_chain}
use Rattle.etagere_links.proofs.FieldChanges.{field_at-changed, field_at-kept}
use Rattle.shelf_records.proofs.AllLists.LinkedMerges.{shelf_absorbed-linked}
use Rattle.shelf_records.proofs.AllLists.LinkedFrames.{shelf_numbers-append}
use Rattle.shelf_records.proofs.AllLists.LinkedUnused.{lists_of}
use Rattle.etagere_links.proofs.RecordChanges.{length-changed_by}
use Rattle.shelf_records.proofs.RecordFrames.{map-unlinked, map-made_unused, length-unlinked, length-made_unused}
use Rattle.shelf_records.specs.AtlasRecords.{AtlasRecords, is_allocated_at, is_empty_at, along_of, across_of, height_of}
use Rattle.shelf_store.proofs.Spelled.AbsorbedItems.{items-keep_values}
use Rattle.shelf_records.proofs.Spelled.RecordValues.{item_values, shelf_values, SameItem, SameShelf, items-same, shelves-same, shelf-other}
use Rattle.shelf_store.proofs.Spelled.SpelledLists.{with_records, IsSpelled, placed-same}
use Rattle.shelf_store.proofs.Spelled.SpelledMerges.{unmarked-same}
use Rattle.shelf_store.proofs.Spelled.StackedEdits.{AbsorbsShelf, stacked-absorbed}
use Rattle.shelf_records.proofs.Spelled.Witnessed.{IsPlaced}

-- the values of shelves are no part of the links between them
pub shelves-keep_values : IsUnchanged shelf_chain shelf_values
shelves-keep_values = record { next = λ link x. refl; previous = λ link x. refl }

-- shelves whose items say the same, and that begin along where they began, are placed as before
pub still-placed : (atlas : AtlasRecords) (records : Records) (entries : List Entry) → ((k : ℕ) → along_of records.shelves k ≡ along_of atlas.records.shelves k) → ((k : ℕ) → SameItem atlas.records.items records.items k) → AllByRecursion (IsPlaced atlas) entries → AllByRecursion (IsPlaced (with_records atlas records)) entries
still-placed atlas records [] along items placed = tt
still-placed atlas records (entry ∷ entries) along items placed =
    (placed-same atlas records entry (along entry.number) (λ k stands. items k) placed.0, still-placed atlas records entries along items placed.1)

-- what records say after an empty shelf took the place of the one after it: it is taller, and all else is as it was
pub record IsTaller (old new : Records) (number height : ℕ) : Type 0 where
  pub along : (k : ℕ) → along_of new.shelves k ≡ along_of old.shelves k
  pub across : (k : ℕ) → across_of new.shelves k ≡ across_of old.shelves k
  pub is_empty : (k : ℕ) → is_empty_at new.shelves k ≡ is_empty_at old.shelves k
  pub own : height_of new.shelves number ≡ height
  pub others : (k : ℕ) → Some number ≢ Some k → SameShelf old.shelves new.shelves k
  pub items : (k : ℕ) → SameItem old.items new.items k
  pub as_many : length new.shelves ≡ length old.shelves

pub shelf_absorbed-values : (records : Records) (number next item height : ℕ) → number < length records.shelves → IsTaller records (shelf_absorbed number next item height records) number height
shelf_absorbed-values records number next item height within =
    let old : List LinkedShelf = records.shelves in
    let change : LinkedShelf → LinkedShelf = λ x. record x { height = height } in
    let one : List LinkedShelf = unlinked shelf_chain next old in
    let two : List LinkedShelf = made_unused shelf_chain records.unused_shelves next one in
    let values : map shelf_values two ≡ map shelf_values old =
    map-made_unused shelf_chain shelf_values shelves-keep_values one records.unused_shelves next ∙ map-unlinked shelf_chain shelf_values shelves-keep_values old next in
    let long : length two ≡ length old = length-made_unused shelf_chain one records.unused_shelves next ∙ length-unlinked shelf_chain old next in
    let middle : (k : ℕ) → SameShelf old two k = λ k. shelves-same old two k values in
    record {
      along = λ k. field_at-kept (λ (x : LinkedShelf). x.x) 0 change two number k (λ x. refl) ∙ (middle k).along;
      across = λ k. field_at-kept (λ (x : LinkedShelf). x.y) 0 change two number k (λ x. refl) ∙ (middle k).across;
      is_empty = λ k. field_at-kept (λ (x : LinkedShelf). x.is_empty) false change two number k (λ x. refl) ∙ (middle k).is_empty;
      own = field_at-changed (λ (x : LinkedShelf). x.height) 0 change two number height (rw long within) (λ x. refl);
      others = λ k other. shelf-other old two change number k other (middle k);
      items = λ k. items-same records.items (shelf_absorbed number next item height records).items k (map-made_unused item_chain item_values items-keep_values records.items records.unused_items item);
      as_many = length-changed_by change two (Some number) ∙ long;
    }

-- the records after an empty shelf took the place of the empty one after it in its column
pub shelf_absorbed-spelled : {atlas : AtlasRecords} (around : Around) (entry : Entry) (next item : ℕ) (free : List ℕ) → along_of atlas.records.shelves next ≡ along_of atlas.records.shelves entry.number → is_allocated_at atlas.records.items item ≡ false → IsSpelled atlas (lists_of (around.before ++ entry ∷ entry_of next (item ∷ []) free ∷ around.after) around.unused_items around.unused_shelves) → IsSpelled (with_records atlas (shelf_absorbed entry.number next item (height_of atlas.records.shelves entry.number + height_of atlas.records.shelves next) atlas.records)) (lists_of (around.before ++ entry ∷ around.after) (item ∷ around.unused_items) (next ∷ around.unused_shelves))
shelf_absorbed-spelled {atlas} around entry next item free column is_free spelled =
    let old : List LinkedShelf = atlas.records.shelves in
    let items : List LinkedItem = atlas.records.items in
    let height : ℕ = height_of old entry.number + height_of old next in
    let records : Records = shelf_absorbed entry.number next item height atlas.records in
    let gone : Entry = entry_of next (item ∷ []) free in
    let apart = linked-apart (record around { after = gone ∷ around.after }) entry spelled.linked in
    let taller : IsTaller atlas.records records entry.number height = shelf_absorbed-values atlas.records entry.number next item height apart.number in
    let absorbs : AbsorbsShelf old records.shelves entry.number next =
    record { along = taller.along entry.number; across = taller.across entry.number; height = taller.own; column = column } in
    let numbers : shelf_numbers (around.before ++ entry ∷ gone ∷ around.after) ≡ shelf_numbers around.before ++ entry.number ∷ next ∷ shelf_numbers around.after = shelf_numbers-append around.before (entry ∷ gone ∷ around.after) in
    let fewer : shelf_numbers (around.before ++ entry ∷ around.after) ≡ shelf_numbers around.before ++ entry.number ∷ shelf_numbers around.after = shelf_numbers-append around.before (entry ∷ around.after) in
    let tail = Each-back (IsPlaced atlas) around.before (entry ∷ gone ∷ around.after) spelled.placed in
    record {
      linked = shelf_absorbed-linked around entry next item height free spelled.linked;
      placed = Each-append (IsPlaced (with_records atlas records)) around.before (entry ∷ around.after)
          (still-placed atlas records around.before taller.along taller.items (Each-front (IsPlaced atlas) around.before (entry ∷ gone ∷ around.after) spelled.placed))
          (still-placed atlas records (entry ∷ around.after) taller.along taller.items (tail.0, tail.1.1));
      stacked = rw fewer (stacked-absorbed old records.shelves atlas.frame.column_width (shelf_numbers around.before) (shelf_numbers around.after) entry.number next
          (λ k stands. taller.others k (apart.numbers k (omega (arith, stands))))
          (λ k stands. taller.others k (apart.numbers k (omega (arith, stands)))) absorbs
          (rw (← numbers) spelled.stacked));
      unused = ((taller.items item).allocated ∙ is_free, unmarked-same items records.items around.unused_items (λ k stands. taller.items k) spelled.unused);
    }
