-- Records that spell lists, after an allocated item became free and was merged with its free neighbours: its shelf is the
-- one with the item freed, and merged.
use Rattle.shelf_records.proofs.AllLists.LinkedEdits.{Around, with_entry}
use Rattle.std.proofs.Common.{◌≡◌, ℕ, ◌+◌, ◌≤◌, Bool, true, List, ◌∷◌, ◌++◌, length, map, refl, ap, arith, sym, ◌∙◌}
use Rattle.std.specs.Prelude.{◌/◌, if◌then◌else◌}
use Rattle.std.proofs.lemmas.List.{map-append}
use Rattle.etagere_base.specs.declared.frames.Frame.{Frame}
use Rattle.etagere_base.proofs.AlignedPlaces.{multiple}
use Rattle.etagere_base.proofs.EachLemmas.{Each-middle}
use Rattle.etagere_base.specs.Lists.{NoNeighbours, remove_number, times}
use Rattle.etagere_base.specs.MergingAt.{merged_at, merged_before}
use Rattle.shelf_records.proofs.AllLists.LinkedItems.{entry_of}
use Rattle.shelf_records.specs.declared.records.LinkedItem.{LinkedItem}
use Rattle.shelf_records.specs.RecordLists.{Entry}
use Rattle.shelf_records.specs.AtlasRecords.{AtlasRecords, along_of, height_of, is_allocated_at, item_place_of, item_at, spelled_shelf, width_of}
use Rattle.shelf_model.specs.Merging.{both_free, combined_items, merged_shelf}
use Rattle.shelf_model.specs.Places.{column_place}
use Rattle.shelf_store.specs.Private.ItemReturned.{Step, free_next, free_previous, freed_after, item_merged, next_absorbed}
use Rattle.shelf_records.proofs.Spelled.Witnessed.{IsPlaced}
use Rattle.shelf_model.specs.Returning.{freed, freed_shelf, is_free_before, returned_free_list}
use Rattle.shelf_model.specs.State.{Item, Shelf}
use Rattle.shelf_model.specs.Valid.{IsItem, IsShelf}
use Rattle.shelf_model.proofs.Returned.MergedNear.{merged_items-freed}
use Rattle.shelf_records.proofs.Spelled.EntryValues.{LieFrom-back, widths}
use Rattle.shelf_store.proofs.Spelled.ItemsAround.{free-next, freed-here, place-here, place-next}
use Rattle.shelf_store.proofs.Spelled.MergedAround.{is_first_free}
use Rattle.shelf_store.proofs.Spelled.NextMerged.{MergesNext, merges-next}
use Rattle.shelf_store.proofs.Spelled.PreviousMerged.{FreesItem, frees-item}
use Rattle.shelf_records.proofs.Spelled.RecordValues.{SameShelf, SameShelf-then}
use Rattle.shelf_records.proofs.Spelled.Witnesses.{Each-unmap}
use Rattle.shelf_store.proofs.Spelled.SpelledLists.{with_records, IsSpelled}
use Rattle.shelf_records.proofs.Recorded.Members.{Each-member}

-- what a step that frees an item and merges it makes of its shelf's lists, and what these spell
pub record MergesItem (atlas : AtlasRecords) (step : Step) (around : Around) (shelf number : ℕ) (front back free : List ℕ) : Type 0 where
  pub numbers : List ℕ
  pub free_list : List ℕ
  pub left_unused : List ℕ
  pub spelled : IsSpelled (with_records atlas step.records) (with_entry (record around { unused_items = left_unused }) (entry_of shelf numbers free_list))
  pub before_same : map (spelled_shelf (with_records atlas step.records)) around.before ≡ map (spelled_shelf atlas) around.before
  pub after_same : map (spelled_shelf (with_records atlas step.records)) around.after ≡ map (spelled_shelf atlas) around.after
  pub same : (k : ℕ) → SameShelf atlas.records.shelves step.records.shelves k
  pub returned :
      spelled_shelf (with_records atlas step.records) (entry_of shelf numbers free_list)
      ≡ merged_shelf (freed_shelf atlas.frame (length front) (spelled_shelf atlas (entry_of shelf (front ++ number ∷ back) free)))
  pub counted : length left_unused ≡ step.made_unused + length around.unused_items

-- a shelf with its items freed and merged around a number, and its free list edited so
shelf-returned : (frame : Frame) (n : ℕ) (shelf : Shelf) (along height : ℕ) (items : List Item) (places : List ℕ) → NoNeighbours both_free shelf.items → along / frame.column_width ≡ shelf.column → height ≡ shelf.height → items ≡ merged_before both_free combined_items n (merged_at both_free combined_items n (freed n shelf.items)) → places ≡ returned_free_list (column_place frame shelf) shelf.items n shelf.free_list → record { column = along / frame.column_width; height = height; items = items; free_list = places } ≡ merged_shelf (freed_shelf frame n shelf)
shelf-returned frame n shelf along height items places apart column tall merged listed =
    let around : items ≡ (merged_shelf (freed_shelf frame n shelf)).items = merged ∙ sym (merged_items-freed n shelf.items apart) in
    rw (column, tall, around, listed) refl

-- a free list without the place of a next item where that is free, and with the own one in front where the previous is not
abbrev edited_list : Bool → ℕ → Bool → ℕ → List ℕ → List ℕ
edited_list next_free next previous_free own places =
    let others = if next_free then remove_number next places else places in if previous_free then others else own ∷ others

-- the free list of records, edited in two steps
list-edited : (next_free previous_free : Bool) (next own own' : ℕ) (places middle new : List ℕ) → middle ≡ (if next_free then remove_number next places else places) → own' ≡ own → new ≡ (if previous_free then middle else own' ∷ middle) → new ≡ edited_list next_free next previous_free own places
list-edited next_free previous_free next own own' places middle new one same two = rw (two, one, same) refl

-- the free list of a shelf around an item
list-around : (items : List LinkedItem) (here : ℕ) (front : List ℕ) (item : Item) (others : List Item) (places : List ℕ) → returned_free_list here (map (item_at items) front ++ item ∷ others) (length front) places ≡ edited_list (is_first_free others) (here + (widths items front + item.width)) (is_free_before (length front) (map (item_at items) front ++ item ∷ others)) (here + widths items front) places
list-around items here front item others places =
    rw (free-next (item_at items) front item others, place-next items here front item others, place-here items here front (item ∷ others)) refl

-- the items of a shelf are at least one pixel wide
pub wide-items : (atlas : AtlasRecords) (shelf : ℕ) (numbers free : List ℕ) → IsShelf atlas.frame (spelled_shelf atlas (entry_of shelf numbers free)) → (n : ℕ) → 1 ≤ times n numbers → 1 ≤ width_of atlas.records.items n
wide-items atlas shelf numbers free valid n stands =
    (Each-member (λ k. IsItem atlas.frame (item_at atlas.records.items k)) numbers n (Each-unmap (IsItem atlas.frame) (item_at atlas.records.items) numbers valid.items) stands).width

-- an allocated item became free and was merged with its free neighbours
pub merges-item : {atlas : AtlasRecords} (around : Around) (shelf number : ℕ) (front back free : List ℕ) → IsShelf atlas.frame (spelled_shelf atlas (entry_of shelf (front ++ number ∷ back) free)) → is_allocated_at atlas.records.items number ≡ true → IsSpelled atlas (with_entry around (entry_of shelf (front ++ number ∷ back) free)) → MergesItem atlas (item_merged shelf number atlas.records) around shelf number front back free
merges-item {atlas} around shelf number front back free valid allocated spelled =
    let items : List LinkedItem = atlas.records.items in
    let entry : Entry = entry_of shelf (front ++ number ∷ back) free in
    let old : Shelf = spelled_shelf atlas entry in
    let one : Step = next_absorbed shelf number (free_next items number) atlas.records in
    let next : MergesNext atlas one around shelf number front back free =
    merges-next around shelf number front back free (wide-items atlas shelf (front ++ number ∷ back) free valid) allocated spelled in
    let middle : AtlasRecords = with_records atlas one.records in
    let two : Step = freed_after shelf number (free_previous one.records.items number) one.records in
    let own : FreesItem middle two (record around { unused_items = next.left_unused }) shelf number front next.rest next.free_list =
    frees-item (record around { unused_items = next.left_unused }) shelf number front next.rest next.free_list next.allocated next.spelled in
    let new : AtlasRecords = with_records atlas two.records in
    let placed : IsPlaced atlas entry = Each-middle (IsPlaced atlas) around.before entry around.after spelled.placed in
    let along : ℕ = along_of atlas.records.shelves shelf in
    let here : along ≡ column_place atlas.frame old = multiple along atlas.frame.column_width placed.along in
    let whole : map (item_at items) (front ++ number ∷ back) ≡ map (item_at items) front ++ item_at items number ∷ map (item_at items) back = map-append (item_at items) front (number ∷ back) in
    let begins : item_place_of items number ≡ along + widths items front = (LieFrom-back items along front (number ∷ back) placed.places).0 in
    let same : (k : ℕ) → SameShelf atlas.records.shelves two.records.shelves k = λ k. SameShelf-then atlas.records.shelves one.records.shelves two.records.shelves k (next.same k) (own.same k) in
    let merged : map (item_at two.records.items) own.numbers ≡ merged_before both_free combined_items (length front) (merged_at both_free combined_items (length front) (freed (length front) old.items)) =
    own.items
    ∙ ap (merged_before both_free combined_items (length front)) (sym next.items)
    ∙ ap (λ (is : List Item). merged_before both_free combined_items (length front) (merged_at both_free combined_items (length front) is)) (sym (freed-here (item_at items) front (item_at items number) (map (item_at items) back)))
    ∙ ap (λ (is : List Item). merged_before both_free combined_items (length front) (merged_at both_free combined_items (length front) (freed (length front) is))) (sym whole) in
    let previous_free : Bool = is_free_before (length front) (map (item_at items) front ++ item_at items number ∷ map (item_at items) back) in
    let two_places : map (item_place_of two.records.items) own.free_list ≡ (if previous_free then map (item_place_of one.records.items) next.free_list else item_place_of one.records.items number ∷ map (item_place_of one.records.items) next.free_list) =
    rw (← next.front_same) (own.places (item_at items number ∷ map (item_at items) back)) in
    let listed : map (item_place_of two.records.items) own.free_list ≡ returned_free_list (column_place atlas.frame old) old.items (length front) old.free_list =
    list-edited (is_first_free (map (item_at items) back)) previous_free (along + (widths items front + width_of items number)) (along + widths items front) (item_place_of one.records.items number)
    (map (item_place_of items) free) (map (item_place_of one.records.items) next.free_list) (map (item_place_of two.records.items) own.free_list) next.places (next.place ∙ begins) two_places
    ∙ sym (list-around items along front (item_at items number) (map (item_at items) back) (map (item_place_of items) free))
    ∙ ap (λ (is : List Item). returned_free_list along is (length front) (map (item_place_of items) free)) (sym whole)
    ∙ ap (λ p. returned_free_list p old.items (length front) old.free_list) here in
    record {
      numbers = own.numbers;
      free_list = own.free_list;
      left_unused = own.left_unused;
      spelled = own.spelled;
      before_same = own.before_same ∙ next.before_same;
      after_same = own.after_same ∙ next.after_same;
      same = same;
      returned = shelf-returned atlas.frame (length front) old (along_of two.records.shelves shelf) (height_of two.records.shelves shelf) (map (item_at two.records.items) own.numbers) (map (item_place_of two.records.items) own.free_list)
          valid.apart (ap (λ a. a / atlas.frame.column_width) (same shelf).along) (same shelf).height merged listed;
      counted = omega (arith, own.counted, next.counted);
    }
