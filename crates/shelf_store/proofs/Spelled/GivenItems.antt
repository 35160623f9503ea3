-- Records that spell lists, after an item of a shelf was given, and the shelf was marked as one that is not empty.
use Rattle.std.proofs.Common.{◌≡◌, ◌≢◌, ℕ, zero, suc, ◌+◌, ◌-◌, ◌*◌, ◌<◌, ◌≤◌, true, false, Option, None, Some, List, [], ◌∷◌, ◌++◌, length, map, refl, ap, arith, ◌∙◌, sym}
use Rattle.std.proofs.lemmas.List.{map-append}
use Rattle.std.specs.Option.{option_map_or}
use Rattle.std.specs.Prelude.{slice_get}
use Rattle.etagere_base.proofs.EachLemmas.{Each-append, Each-front, Each-back, Each-middle}
use Rattle.etagere_base.proofs.TimesLemmas.{times-append}
use Rattle.std.specs.List.{AllByRecursion}
use Rattle.etagere_base.specs.Lists.{times}
use Rattle.shelf_records.proofs.AllLists.LinkedItems.{entry_of}
use Rattle.shelf_records.proofs.AllLists.LinkedEdits.{linked-apart, Around}
use Rattle.shelf_records.specs.declared.records.LinkedItem.{LinkedItem}
use Rattle.etagere_links.specs.Edits.{field_at}
use Rattle.etagere_links.specs.Links.{no_link}
use Rattle.shelf_records.specs.RecordEdits.{item_changed}
use Rattle.shelf_records.specs.RecordLists.{Records, Entry, item_numbers, IsEntry}
use Rattle.shelf_records.specs.RecordMerges.{item_given, front_given}
use Rattle.etagere_links.proofs.FieldChanges.{field_at-changed}
use Rattle.shelf_records.proofs.AllLists.LinkedFrames.{item_numbers-append}
use Rattle.shelf_records.proofs.AllLists.LinkedUnused.{lists_of}
use Rattle.etagere_links.proofs.ListEnds.{times-here}
use Rattle.etagere_links.proofs.RecordChanges.{length-changed_by}
use Rattle.shelf_records.specs.AtlasRecords.{AtlasRecords, item_place_of, item_at, spelled_item, spelled_shelf}
use Rattle.shelf_model.specs.Choice.{Placement}
use Rattle.shelf_records.proofs.Spelled.Witnessed.{HasFlag}
use Rattle.shelf_store.specs.Private.PlacementTaken.{id_of, item_record, rest_item}
use Rattle.shelf_model.specs.State.{Item, Shelf}
use Rattle.shelf_records.proofs.Spelled.EntryValues.{IsGiven, id_at}
use Rattle.shelf_records.proofs.Spelled.RecordValues.{SameItem, SameItem-then, item-same}
use Rattle.shelf_store.proofs.Spelled.SpelledFronts.{IsFront, IsRestItem, front-values, front_given-spelled}
use Rattle.shelf_store.proofs.Spelled.SpelledLists.{with_records, IsSpelled, EditsItems, items-edited-except}
use Rattle.shelf_store.proofs.Spelled.SpelledMerges.{given-values, item_given-spelled, before-other, after-other}
use Rattle.shelf_store.proofs.Spelled.SpelledSplits.{HasShelfSplit, split-written, read-record}
use Rattle.shelf_store.proofs.Spelled.SpelledUses.{SameEntries, same-entries}
use Rattle.shelf_store.proofs.Spelled.TakenItemSpelled.{taken_from, IsPlacedAt, KeepsOthers, whole-spelled, front-spelled, FreeSpot, spot_entry}

-- the records after an item was given: what they spell, and that other shelves say what they said
pub record IsItemGiven (atlas : AtlasRecords) (new : Records) (around : Around) (added : List Entry) (entry : Entry) (shelf : Shelf) (rests : List Shelf) : Type 0 where
  pub edited : Entry
  pub number : edited.number ≡ entry.number
  pub spelled : IsSpelled (with_records atlas new) (lists_of (around.before ++ edited ∷ (added ++ around.after)) around.unused_items around.unused_shelves)
  pub shelves : map (spelled_shelf (with_records atlas new)) (around.before ++ edited ∷ (added ++ around.after)) ≡ map (spelled_shelf atlas) around.before ++ shelf ∷ (rests ++ map (spelled_shelf atlas) around.after)
  pub own : spelled_shelf (with_records atlas new) edited ≡ shelf
  pub flags_before : AllByRecursion (HasFlag atlas) around.before → AllByRecursion (HasFlag (with_records atlas new)) around.before
  pub flags_after : AllByRecursion (HasFlag atlas) around.after → AllByRecursion (HasFlag (with_records atlas new)) (added ++ around.after)
  pub more : length atlas.records.items ≤ length new.items
  pub made : 1 ≤ length around.unused_items → length new.items ≡ length atlas.records.items
  pub few : length new.shelves ≤ no_link

-- from what an edit of the items of the shelf says: the other shelves are those that they were, and the edited one is this
given-after : {atlas : AtlasRecords} (split_records new : Records) (around : Around) (added : List Entry) (entry edited : Entry) (loose : List ℕ) (tall : ℕ) (rests : List Shelf) (shelf : Shelf) → AllByRecursion (IsEntry atlas.records) (around.before ++ entry ∷ around.after) → HasShelfSplit atlas split_records around added entry loose tall rests → EditsItems (with_records atlas split_records) new (record around { after = added ++ around.after }) around.unused_items entry edited → spelled_shelf (with_records atlas new) edited ≡ shelf → length new.items ≡ length split_records.items → length new.shelves ≡ length split_records.shelves → IsItemGiven atlas new around added entry shelf rests
given-after {atlas} split_records new around added entry edited loose tall rests shelf are_old is_split edits spelled long long_shelves =
    let base : AtlasRecords = with_records atlas split_records in
    let last : AtlasRecords = with_records atlas new in
    let entries : List Entry = around.before ++ entry ∷ (added ++ around.after) in
    let are : AllByRecursion (IsEntry split_records) entries = is_split.spelled.linked.entries in
    let done = items-edited-except new (record around { after = added ++ around.after }) around.unused_items loose entry edited is_split.spelled edits in
    let apart = linked-apart (record around { after = added ++ around.after }) entry is_split.spelled.linked in
    let other : (k : ℕ) → 1 ≤ times k (item_numbers around.before) + times k (item_numbers (added ++ around.after)) → SameItem split_records.items new.items k =
    λ k stands. edits.items k (omega (arith, apart.others k (omega (arith, stands)))) in
    let tail = Each-back (IsEntry split_records) around.before (entry ∷ (added ++ around.after)) are in
    let old_tail = Each-back (IsEntry atlas.records) around.before (entry ∷ around.after) are_old in
    let fewer : (k : ℕ) → times k (item_numbers (around.before ++ entry ∷ around.after)) ≡ times k (item_numbers around.before) + (times k entry.items + times k (item_numbers around.after)) =
    λ k. omega (arith, item_numbers-append around.before (entry ∷ around.after) k, times-append k entry.items (item_numbers around.after)) in
    let to_split : (k : ℕ) → 1 ≤ times k (item_numbers (around.before ++ entry ∷ around.after)) → SameItem atlas.records.items split_records.items k = λ k stands. item-same atlas.records.items split_records.items k (is_split.items k stands) in
    let first_before : SameEntries atlas split_records around.before =
    same-entries atlas split_records around.before (λ k stands. is_split.others k (omega (arith, stands))) (λ k stands. to_split k (omega (arith, fewer k, stands))) (Each-front (IsEntry atlas.records) around.before (entry ∷ around.after) are_old) in
    let first_after : SameEntries atlas split_records around.after =
    same-entries atlas split_records around.after (λ k stands. is_split.others k (omega (arith, stands))) (λ k stands. to_split k (omega (arith, fewer k, stands))) old_tail.1 in
    let then_before : SameEntries base new around.before =
    same-entries base new around.before (λ k stands. edits.shelf k) (λ k stands. other k (omega (arith, stands))) (Each-front (IsEntry split_records) around.before (entry ∷ (added ++ around.after)) are) in
    let then_after : SameEntries base new (added ++ around.after) =
    same-entries base new (added ++ around.after) (λ k stands. edits.shelf k) (λ k stands. other k (omega (arith, stands))) tail.1 in
    record {
      edited = edited;
      number = edits.number;
      spelled = done.0;
      shelves = done.1
          ∙ ap (λ (ss : List Shelf). ss ++ spelled_shelf last edited ∷ map (spelled_shelf base) (added ++ around.after)) first_before.spelled
          ∙ ap (λ (s : Shelf). map (spelled_shelf atlas) around.before ++ s ∷ map (spelled_shelf base) (added ++ around.after)) spelled
          ∙ ap (λ (ss : List Shelf). map (spelled_shelf atlas) around.before ++ shelf ∷ ss) (map-append (spelled_shelf base) added around.after)
          ∙ ap (λ (ss : List Shelf). map (spelled_shelf atlas) around.before ++ shelf ∷ (ss ++ map (spelled_shelf base) around.after)) is_split.rests
          ∙ ap (λ (ss : List Shelf). map (spelled_shelf atlas) around.before ++ shelf ∷ (rests ++ ss)) first_after.spelled;
      own = spelled;
      flags_before = λ flags. then_before.flags (first_before.flags flags);
      flags_after = λ flags. then_after.flags (Each-append (HasFlag base) added around.after is_split.flags (first_after.flags flags));
      more = omega (arith, long, is_split.more);
      made = λ some. long ∙ is_split.made some;
      few = omega (arith, long_shelves, is_split.few);
    }

-- a field of a record that there is
read-within : {T X : Type 0} (field : T → X) (other : X) (none : T) (xs : List T) (k : ℕ) → k < length xs → field_at field other xs k ≡ field (field_at (λ (x : T). x) none xs k)
read-within field other none [] k within = absurd (omega arith)
read-within field other none (x ∷ xs) zero within = refl
read-within field other none (x ∷ xs) (suc k) within = read-within field other none xs k (omega arith)

-- the id of a record that stayed
id-same : (items new : List LinkedItem) (k : ℕ) → k < length items → slice_get new k ≡ slice_get items k → id_at new k ≡ id_of items k
id-same items new k within same =
    ap (λ (r : Option LinkedItem). k + 65536 * option_map_or (λ (x : LinkedItem). x.generation) r 0) same
    ∙ ap (λ g. k + 65536 * g) (read-within (λ (x : LinkedItem). x.generation) 0 (item_record [] k) items k within)

-- the width that an item spells is that of its record
pub width-read : (items : List LinkedItem) (label k : ℕ) → (field_at (spelled_item label) (record { width = 0; id = None }) items k).width ≡ (item_record items k).width
width-read [] label k = refl
width-read (x ∷ items) label zero = refl
width-read (x ∷ items) label (suc k) = width-read items label k

-- what was said of the items of a shelf before one of them was given is said of the others still
keeps-others : {atlas : AtlasRecords} (split_records : Records) (new : List LinkedItem) (around : Around) (added : List Entry) (spot : FreeSpot) (loose : List ℕ) (tall : ℕ) (rests : List Shelf) → HasShelfSplit atlas split_records around added (spot_entry spot) loose tall rests → ((k : ℕ) → spot.number ≢ k → SameItem split_records.items new k) → KeepsOthers atlas.records.items new spot
keeps-others {atlas} split_records new around added spot loose tall rests is_split others =
    let numbers : List ℕ = spot.front ++ spot.number ∷ spot.back in
    let free : List ℕ = spot.free_front ++ spot.number ∷ spot.free_back in
    let entry : Entry = entry_of spot.shelf numbers free in
    let apart = linked-apart (record around { after = added ++ around.after }) entry is_split.spelled.linked in
    let members : (k : ℕ) → times k free ≤ times k numbers = (Each-middle (IsEntry split_records) around.before entry (added ++ around.after) is_split.spelled.linked.entries).members in
    let fewer : (k : ℕ) → times k (item_numbers (around.before ++ entry ∷ around.after)) ≡ times k (item_numbers around.before) + (times k numbers + times k (item_numbers around.after)) =
    λ k. omega (arith, item_numbers-append around.before (entry ∷ around.after) k, times-append k numbers (item_numbers around.after)) in
    let same : (k : ℕ) → 1 ≤ times k numbers → spot.number ≢ k → SameItem atlas.records.items new k =
    λ k stands other. SameItem-then atlas.records.items split_records.items new k (item-same atlas.records.items split_records.items k (is_split.items k (omega (arith, fewer k, stands)))) (others k other) in
    let count : (k : ℕ) → times k numbers ≡ times k spot.front + times k (spot.number ∷ spot.back) = λ k. times-append k spot.front (spot.number ∷ spot.back) in
    let free_count : (k : ℕ) → times k free ≡ times k spot.free_front + times k (spot.number ∷ spot.free_back) = λ k. times-append k spot.free_front (spot.number ∷ spot.free_back) in
    record {
      before = λ k stands. (same k (omega (arith, count k, stands)) (before-other spot.front spot.back spot.number k (apart.once k) stands)).item;
      after = λ k stands. (same k (omega (arith, count k, stands)) (after-other spot.front spot.back spot.number k (apart.once k) stands)).item;
      free_before = λ k stands. (same k (omega (arith, free_count k, stands, members k)) (before-other spot.free_front spot.free_back spot.number k (apart.free_once k) stands)).place;
      free_after = λ k stands. (same k (omega (arith, free_count k, stands, members k)) (after-other spot.free_front spot.free_back spot.number k (apart.free_once k) stands)).place;
    }

-- giving keeps the counts of records
given-length : (records : Records) (shelf number : ℕ) → length (item_given shelf number records).items ≡ length records.items
given-length records shelf number = simp length-changed_by refl

pub given-shelves : (records : Records) (shelf number : ℕ) → length (item_given shelf number records).shelves ≡ length records.shelves
given-shelves records shelf number = simp length-changed_by refl

front-length : (records : Records) (shelf number rest width : ℕ) → length (front_given shelf number rest width records).items ≡ length records.items
front-length records shelf number rest width = simp length-changed_by refl

pub front-shelves : (records : Records) (shelf number rest width : ℕ) → length (front_given shelf number rest width records).shelves ≡ length records.shelves
front-shelves records shelf number rest width = simp length-changed_by refl

-- an item was given whole
pub item-whole : {atlas : AtlasRecords} (split_records : Records) (around : Around) (added : List Entry) (spot : FreeSpot) (placement : Placement) (rests : List Shelf) → spot.number < length atlas.records.items → IsPlacedAt atlas.records.items placement spot → placement.splits_item ≡ false → AllByRecursion (IsEntry atlas.records) (around.before ++ spot_entry spot ∷ around.after) → HasShelfSplit atlas split_records around added (spot_entry spot) [] placement.height rests → IsItemGiven atlas (item_given spot.shelf spot.number split_records) around added (spot_entry spot) (taken_from false placement (id_of atlas.records.items spot.number) (spelled_shelf atlas (spot_entry spot))) rests
item-whole {atlas} split_records around added spot placement rests within is no_split are_old is_split =
    let old : List LinkedItem = atlas.records.items in
    let new : Records = item_given spot.shelf spot.number split_records in
    let numbers : List ℕ = spot.front ++ spot.number ∷ spot.back in
    let free : List ℕ = spot.free_front ++ spot.number ∷ spot.free_back in
    let entry : Entry = entry_of spot.shelf numbers free in
    let edited : Entry = entry_of spot.shelf numbers (spot.free_front ++ spot.free_back) in
    let id : ℕ = id_of old spot.number in
    let apart = linked-apart (record around { after = added ++ around.after }) entry is_split.spelled.linked in
    let stands : 1 ≤ times spot.number numbers = omega (arith, times-append spot.number spot.front (spot.number ∷ spot.back), times-here spot.number spot.back) in
    let own : slice_get split_records.items spot.number ≡ slice_get old spot.number =
    is_split.items spot.number (omega (arith, item_numbers-append around.before (entry ∷ around.after) spot.number, times-append spot.number numbers (item_numbers around.after), stands)) in
    let same : SameItem old split_records.items spot.number = item-same old split_records.items spot.number own in
    let edits : EditsItems (with_records atlas split_records) new (record around { after = added ++ around.after }) around.unused_items entry edited =
    item_given-spelled (record around { after = added ++ around.after }) spot.shelf spot.number spot.front spot.back spot.free_front spot.free_back (same.allocated ∙ is.free) is_split.spelled in
    let given : IsGiven split_records.items new.items spot.number = given-values split_records spot.shelf spot.number (apart.within spot.number stands) in
    let item : item_at new.items spot.number ≡ record { width = placement.width; id = Some id } =
    given.item
    ∙ ap (λ (i : Item). record { width = i.width; id = Some (id_at split_records.items spot.number) }) same.item
    ∙ ap (λ w. record { width = w; id = Some (id_at split_records.items spot.number) }) (sym (is.whole no_split))
    ∙ ap (λ n. record { width = placement.width; id = Some n }) (id-same old split_records.items spot.number within own) in
    given-after split_records new around added entry edited [] placement.height rests (taken_from false placement id (spelled_shelf atlas entry)) are_old is_split edits
    (whole-spelled atlas new placement spot id is
    (keeps-others split_records new.items around added spot [] placement.height rests is_split given.others)
    ((edits.shelf spot.shelf).along ∙ is_split.along) ((edits.shelf spot.shelf).height ∙ is_split.height) item)
    (given-length split_records spot.shelf spot.number) (given-shelves split_records spot.shelf spot.number)

-- the front of an item was given, after the record of the rest was written
pub item-front : {atlas : AtlasRecords} (split_records : Records) (around : Around) (added : List Entry) (spot : FreeSpot) (rest generation : ℕ) (placement : Placement) (rests : List Shelf) → spot.number < length atlas.records.items → IsPlacedAt atlas.records.items placement spot → placement.splits_item ≡ true → AllByRecursion (IsEntry atlas.records) (around.before ++ spot_entry spot ∷ around.after) → HasShelfSplit atlas split_records around added (spot_entry spot) (rest ∷ []) placement.height rests → IsItemGiven atlas (front_given spot.shelf spot.number rest placement.width (item_changed rest (λ _. rest_item (item_record split_records.items spot.number) placement.width spot.shelf generation) split_records)) around added (spot_entry spot) (taken_from true placement (id_of atlas.records.items spot.number) (spelled_shelf atlas (spot_entry spot))) rests
item-front {atlas} split_records around added spot rest generation placement rests within is split are_old is_split =
    let old : List LinkedItem = atlas.records.items in
    let width : ℕ = placement.width in
    let item : LinkedItem = rest_item (item_record split_records.items spot.number) width spot.shelf generation in
    let written : Records = item_changed rest (λ _. item) split_records in
    let new : Records = front_given spot.shelf spot.number rest width written in
    let numbers : List ℕ = spot.front ++ spot.number ∷ spot.back in
    let free : List ℕ = spot.free_front ++ spot.number ∷ spot.free_back in
    let entry : Entry = entry_of spot.shelf numbers free in
    let edited : Entry = entry_of spot.shelf (spot.front ++ spot.number ∷ rest ∷ spot.back) (spot.free_front ++ rest ∷ spot.free_back) in
    let id : ℕ = id_of old spot.number in
    let is_written : HasShelfSplit atlas written around added entry (rest ∷ []) placement.height rests =
    split-written split_records around added entry [] placement.height rests rest item is_split in
    let apart = linked-apart (record around { after = added ++ around.after }) entry is_written.spelled.linked in
    let stands : 1 ≤ times spot.number numbers = omega (arith, times-append spot.number spot.front (spot.number ∷ spot.back), times-here spot.number spot.back) in
    let rest_stands : 1 ≤ times rest (rest ∷ []) = omega (arith, times-here rest []) in
    let differ : spot.number ≢ rest = λ e. let again : 1 ≤ times rest numbers = rw (← e) stands in omega (arith, again, apart.loose_items rest rest_stands) in
    let among : 1 ≤ times spot.number (item_numbers (around.before ++ entry ∷ around.after)) =
    omega (arith, item_numbers-append around.before (entry ∷ around.after) spot.number, times-append spot.number numbers (item_numbers around.after), stands) in
    let own : slice_get written.items spot.number ≡ slice_get old spot.number = is_written.items spot.number among in
    let same : SameItem old written.items spot.number = item-same old written.items spot.number own in
    let same_split : SameItem old split_records.items spot.number = item-same old split_records.items spot.number (is_split.items spot.number among) in
    let rest_within : rest < length split_records.items =
    omega (arith, apart.loose_within rest rest_stands, length-changed_by (λ _. item) split_records.items (Some rest)) in
    let whole_width : (item_record split_records.items spot.number).width ≡ (item_at old spot.number).width =
    sym (width-read split_records.items spot.number spot.number) ∙ ap (λ (i : Item). i.width) same_split.item in
    let whole_place : (item_record split_records.items spot.number).x ≡ item_place_of old spot.number = read-record (λ (x : LinkedItem). x.x) (item_record [] spot.number) split_records.items spot.number ∙ same_split.place in
    let rest_is : item_at written.items rest ≡ record { width = (item_at old spot.number).width - width; id = None } =
    field_at-changed (spelled_item rest) (record { width = 0; id = None }) (λ _. item) split_records.items rest (record { width = (item_record split_records.items spot.number).width - width; id = None }) rest_within (λ x. refl)
    ∙ ap (λ w. record { width = w - width; id = None }) whole_width in
    let rest_place : item_place_of written.items rest ≡ item_place_of old spot.number + width =
    field_at-changed (λ (x : LinkedItem). x.x) 0 (λ _. item) split_records.items rest ((item_record split_records.items spot.number).x + width) rest_within (λ x. refl)
    ∙ ap (λ p. p + width) whole_place in
    let narrower : width < (item_at old spot.number).width = is.split split in
    let is_rest : IsRestItem written.items spot.shelf spot.number rest width =
    record {
      width = omega (arith, narrower, ap (λ (i : Item). i.width) same.item, ap (λ (i : Item). i.width) rest_is);
      place = rest_place ∙ ap (λ p. p + width) (sym same.place);
      shelf = field_at-changed (λ (x : LinkedItem). x.shelf) 0 (λ _. item) split_records.items rest spot.shelf rest_within (λ x. refl);
      free = field_at-changed (λ (x : LinkedItem). x.allocated) false (λ _. item) split_records.items rest false rest_within (λ x. refl);
    } in
    let edits : EditsItems (with_records atlas written) new (record around { after = added ++ around.after }) around.unused_items entry edited =
    front_given-spelled (record around { after = added ++ around.after }) spot.shelf spot.number rest width spot.front spot.back spot.free_front spot.free_back (same.allocated ∙ is.free) is_rest is_written.spelled in
    let given : IsFront written.items new.items spot.number width = front-values written spot.shelf spot.number rest width (apart.within spot.number stands) in
    let own_item : item_at new.items spot.number ≡ record { width = width; id = Some id } =
    given.item ∙ ap (λ n. record { width = width; id = Some n }) (id-same old written.items spot.number within own) in
    given-after written new around added entry edited (rest ∷ []) placement.height rests (taken_from true placement id (spelled_shelf atlas entry)) are_old is_written edits
    (front-spelled atlas new placement spot id rest is
    (keeps-others written new.items around added spot (rest ∷ []) placement.height rests is_written given.others)
    ((edits.shelf spot.shelf).along ∙ is_written.along) ((edits.shelf spot.shelf).height ∙ is_written.height) own_item
    ((given.others rest differ).item ∙ rest_is) ((given.others rest differ).place ∙ rest_place ∙ ap (λ p. p + width) (sym is.along)))
    (front-length written spot.shelf spot.number rest width) (front-shelves written spot.shelf spot.number rest width)
