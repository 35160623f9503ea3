-- Records that spell lists, after a shelf was split: the rest is an empty shelf of the same column.
use Rattle.std.proofs.Common.{◌≡◌, ◌≢◌, ℕ, zero, suc, ◌+◌, ◌-◌, ◌*◌, ◌<◌, ◌≤◌, true, false, Option, None, Some, List, [], ◌∷◌, ◌++◌, length, map, refl, ap, arith, ◌∙◌, sym}
use Rattle.std.specs.Prelude.{◌/◌, ◌%◌, slice_get}
use Rattle.etagere_base.proofs.EachLemmas.{Each-append, Each-front, Each-back, Each-middle}
use Rattle.etagere_base.proofs.TimesLemmas.{times-append}
use Rattle.std.specs.List.{AllByRecursion}
use Rattle.etagere_base.specs.Lists.{times}
use Rattle.shelf_records.proofs.AllLists.LinkedItems.{entry_of}
use Rattle.shelf_records.proofs.AllLists.LinkedEdits.{linked-apart, Around, with_entry}
use Rattle.shelf_records.specs.declared.records.LinkedItem.{LinkedItem}
use Rattle.shelf_records.specs.declared.records.LinkedShelf.{LinkedShelf}
use Rattle.etagere_links.specs.Edits.{changed_by, link_at, field_at}
use Rattle.shelf_records.specs.ListEdits.{linked_between}
use Rattle.etagere_links.specs.Links.{no_link}
use Rattle.shelf_records.specs.RecordEdits.{item_changed}
use Rattle.shelf_records.specs.RecordLists.{Records, Entry, shelf_numbers, item_numbers, IsEntry}
use Rattle.shelf_records.specs.RecordMerges.{shelf_split}
use Rattle.shelf_records.specs.Records.{shelf_chain}
use Rattle.etagere_links.proofs.FieldChanges.{field_at-changed, field_at-kept}
use Rattle.shelf_records.proofs.AllLists.LinkedFields.{item_written-linked}
use Rattle.shelf_records.proofs.AllLists.LinkedFrames.{item_numbers-append, shelf_numbers-append}
use Rattle.shelf_records.proofs.AllLists.LinkedSplits.{shelf_split-linked}
use Rattle.shelf_records.proofs.AllLists.LinkedUnused.{lists_of, IsLoose, loose-of}
use Rattle.etagere_links.proofs.RecordChanges.{get-changed_by-other, length-changed_by}
use Rattle.shelf_records.proofs.RecordFrames.{map-linked_between, length-linked_between}
use Rattle.shelf_records.specs.AtlasRecords.{AtlasRecords, is_allocated_at, item_place_of, shelf_of, along_of, across_of, height_of, is_empty_at, item_at, spelled_item, spelled_shelf}
use Rattle.shelf_records.proofs.Spelled.Witnessed.{HasFlag, IsPlaced}
use Rattle.shelf_store.specs.Private.PlacementTaken.{free_item, item_record, rest_shelf, shelf_record}
use Rattle.shelf_model.specs.State.{Item, Shelf, empty_shelf, is_empty}
use Rattle.shelf_records.proofs.Spelled.EntryValues.{free_count-free}
use Rattle.shelf_records.proofs.Spelled.RecordValues.{shelf_values, SameItem, SameShelf, item-same, shelves-same, shelf-other, SameShelf-then}
use Rattle.shelf_store.proofs.Spelled.SpelledLists.{with_records, IsSpelledExcept, placed-same}
use Rattle.shelf_store.proofs.Spelled.SpelledMerges.{unmarked-same}
use Rattle.shelf_store.proofs.Spelled.SpelledShelves.{shelves-keep_values}
use Rattle.shelf_store.proofs.Spelled.SpelledUses.{IsUsed, SameEntries, same-entries, same-shelf, stranger}
use Rattle.shelf_store.proofs.Spelled.StackedEdits.{SplitsShelf, stacked-split}
use Rattle.etagere_base.proofs.AlignedPlaces.{multiple}

-- a field of a record that is read whole
pub read-record : {T X : Type 0} (field : T → X) (other : T) (xs : List T) (k : ℕ) → field (field_at (λ (x : T). x) other xs k) ≡ field_at field (field other) xs k
read-record field other [] k = refl
read-record field other (x ∷ xs) zero = refl
read-record field other (x ∷ xs) (suc k) = read-record field other xs k

-- shelves that begin along where they began, of items that say the same, are placed as before
placed-entries : (atlas : AtlasRecords) (records : Records) (entries : List Entry) → ((k : ℕ) → 1 ≤ times k (shelf_numbers entries) → along_of records.shelves k ≡ along_of atlas.records.shelves k) → ((k : ℕ) → 1 ≤ times k (item_numbers entries) → SameItem atlas.records.items records.items k) → AllByRecursion (IsPlaced atlas) entries → AllByRecursion (IsPlaced (with_records atlas records)) entries
placed-entries atlas records [] along items placed = tt
placed-entries atlas records (entry ∷ entries) along items placed = (
  placed-same atlas records entry (along entry.number (grind arith)) (λ k stands. items k (omega (arith, stands, times-append k entry.items (item_numbers entries)))) placed.0,
  placed-entries atlas records entries (λ k stands. along k (omega (arith, stands))) (λ k stands. items k (omega (arith, stands, times-append k entry.items (item_numbers entries)))) placed.1,
)

-- a shelf by its parts
abbrev pub shelf_from : ℕ → ℕ → List Item → List ℕ → Shelf
shelf_from column height items free = record { column = column; height = height; items = items; free_list = free }

-- two shelves are the same that are so by parts
pub shelf-parts : (column column' height height' : ℕ) (items items' : List Item) (free free' : List ℕ) → column ≡ column' → height ≡ height' → items ≡ items' → free ≡ free' → shelf_from column height items free ≡ shelf_from column' height' items' free'
shelf-parts column column' height height' items items' free free' a b c d = rw (a, b, c, d) refl

-- records of which a shelf was split where that was due: it is this tall, and these shelves stand after it
pub record HasShelfSplit (atlas : AtlasRecords) (new : Records) (around : Around) (added : List Entry) (entry : Entry) (loose : List ℕ) (tall : ℕ) (pieces : List Shelf) : Type 0 where
  pub spelled : IsSpelledExcept (with_records atlas new) (lists_of (around.before ++ entry ∷ (added ++ around.after)) around.unused_items around.unused_shelves) loose []
  pub items : (k : ℕ) → 1 ≤ times k (item_numbers (around.before ++ entry ∷ around.after)) → slice_get new.items k ≡ slice_get atlas.records.items k
  pub others : (k : ℕ) → 1 ≤ times k (shelf_numbers around.before) + times k (shelf_numbers around.after) → SameShelf atlas.records.shelves new.shelves k
  pub along : along_of new.shelves entry.number ≡ along_of atlas.records.shelves entry.number
  pub height : height_of new.shelves entry.number ≡ tall
  pub rests : map (spelled_shelf (with_records atlas new)) added ≡ pieces
  pub flags : AllByRecursion (HasFlag (with_records atlas new)) added
  pub more : length atlas.records.items ≤ length new.items
  pub made : 1 ≤ length around.unused_items → length new.items ≡ length atlas.records.items
  pub few : length new.shelves ≤ no_link

-- no shelf is split
pub split-none : {atlas : AtlasRecords} (new : Records) (around : Around) (entry : Entry) (loose : List ℕ) → IsUsed atlas new (with_entry around entry) loose [] → HasShelfSplit atlas new around [] entry loose (height_of atlas.records.shelves entry.number) []
split-none {atlas} new around entry loose used =
    record {
      spelled = used.spelled;
      items = used.items;
      others = λ k stands. used.shelves k;
      along = (used.shelves entry.number).along;
      height = (used.shelves entry.number).height;
      rests = refl;
      flags = tt;
      more = used.more;
      made = used.made;
      few = used.few;
    }

-- what the records of the rest of a shelf say once they were written
record IsRestOf (frame_width : ℕ) (items : List LinkedItem) (shelves old : List LinkedShelf) (number rest rest_item tall : ℕ) : Type 0 where
  pub splits : SplitsShelf old shelves number rest
  pub height : height_of shelves number ≡ tall
  pub is_empty : is_empty_at shelves rest ≡ true
  pub item : item_at items rest_item ≡ record { width = frame_width; id = None }
  pub place : item_place_of items rest_item ≡ along_of shelves rest
  pub owner : shelf_of items rest_item ≡ rest
  pub free : is_allocated_at items rest_item ≡ false
  pub others : (k : ℕ) → number ≢ k → rest ≢ k → SameShelf old shelves k

rest-of : (records : Records) (number rest rest_item height frame_width : ℕ) → number ≢ rest → number < length records.shelves → rest < length records.shelves → rest_item < length records.items → height ≤ height_of records.shelves number → IsRestOf frame_width (shelf_split number rest rest_item height (rest_shelf (shelf_record records.shelves number) height rest_item) (free_item (shelf_record records.shelves number).x frame_width rest (item_record records.items rest_item).generation) records).items (shelf_split number rest rest_item height (rest_shelf (shelf_record records.shelves number) height rest_item) (free_item (shelf_record records.shelves number).x frame_width rest (item_record records.items rest_item).generation) records).shelves records.shelves number rest rest_item height
rest-of records number rest rest_item height frame_width apart within rest_within item_within tall =
    let whole : LinkedShelf = shelf_record records.shelves number in
    let rest_record : LinkedShelf = rest_shelf whole height rest_item in
    let item : LinkedItem = free_item whole.x frame_width rest (item_record records.items rest_item).generation in
    let items : List LinkedItem = records.items in
    let old : List LinkedShelf = records.shelves in
    let change : LinkedShelf → LinkedShelf = λ x. record x { height = height } in
    let one : List LinkedShelf = changed_by (Some rest) (λ _. rest_record) old in
    let next : Option ℕ = link_at shelf_chain.next one number in
    let two : List LinkedShelf = linked_between shelf_chain (Some number) next rest one in
    let new : List LinkedShelf = changed_by (Some number) change two in
    let long : length two ≡ length old = length-linked_between shelf_chain one (Some number) next rest ∙ length-changed_by (λ _. rest_record) old (Some rest) in
    let linked : (k : ℕ) → SameShelf one two k = λ k. shelves-same one two k (map-linked_between shelf_chain shelf_values shelves-keep_values one (Some number) next rest) in
    let written : (k : ℕ) → rest ≢ k → SameShelf old one k = λ k other.
    shelf-other old old (λ _. rest_record) rest k (λ e. let same : rest ≡ k = cc in other same) (same-shelf old k) in
    let middle : (k : ℕ) → rest ≢ k → SameShelf old two k = λ k other. SameShelf-then old one two k (written k other) (linked k) in
    let own : SameShelf old two number = middle number (λ e. apart (sym e)) in
    let last : SameShelf one new rest = shelf-other one two change number rest (λ e. let same : number ≡ rest = cc in apart same) (linked rest) in
    let own_along : along_of new number ≡ along_of old number = field_at-kept (λ (x : LinkedShelf). x.x) 0 change two number number (λ x. refl) ∙ own.along in
    let own_height : height_of new number ≡ height = field_at-changed (λ (x : LinkedShelf). x.height) 0 change two number height (rw long within) (λ x. refl) in
    let rest_along : along_of new rest ≡ along_of old number =
    last.along ∙ field_at-changed (λ (x : LinkedShelf). x.x) 0 (λ _. rest_record) old rest whole.x rest_within (λ x. refl) ∙ read-record (λ (x : LinkedShelf). x.x) _ old number in
    let rest_across : across_of new rest ≡ whole.y + height =
    last.across ∙ field_at-changed (λ (x : LinkedShelf). x.y) 0 (λ _. rest_record) old rest (whole.y + height) rest_within (λ x. refl) in
    let rest_height : height_of new rest ≡ whole.height - height =
    last.height ∙ field_at-changed (λ (x : LinkedShelf). x.height) 0 (λ _. rest_record) old rest (whole.height - height) rest_within (λ x. refl) in
    record {
      splits =
          record {
            along = own_along;
            across = field_at-kept (λ (x : LinkedShelf). x.y) 0 change two number number (λ x. refl) ∙ own.across;
            height = omega (arith, own_height, rest_height, tall, read-record (λ (x : LinkedShelf). x.height) (shelf_record [] number) old number);
            rest_along = rest_along;
            rest_across = omega (arith, own_height, rest_across, read-record (λ (x : LinkedShelf). x.y) (shelf_record [] number) old number);
          };
      height = own_height;
      is_empty = last.is_empty ∙ field_at-changed (λ (x : LinkedShelf). x.is_empty) false (λ _. rest_record) old rest true rest_within (λ x. refl);
      item = field_at-changed (spelled_item rest_item) (record { width = 0; id = None }) (λ _. item) items rest_item (record { width = frame_width; id = None }) item_within (λ x. refl);
      place = field_at-changed (λ (x : LinkedItem). x.x) 0 (λ _. item) items rest_item whole.x item_within (λ x. refl)
          ∙ read-record (λ (x : LinkedShelf). x.x) _ old number ∙ sym rest_along;
      owner = field_at-changed (λ (x : LinkedItem). x.shelf) 0 (λ _. item) items rest_item rest item_within (λ x. refl);
      free = field_at-changed (λ (x : LinkedItem). x.allocated) false (λ _. item) items rest_item false item_within (λ x. refl);
      others = λ k other rest_other. shelf-other old two change number k (λ e. let same : number ≡ k = cc in other same) (middle k rest_other);
    }

-- a shelf is split
pub split-shelf : {atlas : AtlasRecords} (used : Records) (around : Around) (entry : Entry) (rest rest_item height : ℕ) (loose : List ℕ) → height ≤ height_of atlas.records.shelves entry.number → IsUsed atlas used (with_entry around entry) (rest_item ∷ loose) (rest ∷ []) → HasShelfSplit atlas (shelf_split entry.number rest rest_item height (rest_shelf (shelf_record used.shelves entry.number) height rest_item) (free_item (shelf_record used.shelves entry.number).x atlas.frame.column_width rest (item_record used.items rest_item).generation) used) around (entry_of rest (rest_item ∷ []) (rest_item ∷ []) ∷ []) entry loose height (empty_shelf atlas.frame (along_of atlas.records.shelves entry.number / atlas.frame.column_width) (height_of atlas.records.shelves entry.number - height) ∷ [])
split-shelf {atlas} used around entry rest rest_item height loose tall is_used =
    let middle : AtlasRecords = with_records atlas used in
    let entries : List Entry = around.before ++ entry ∷ around.after in
    let number : ℕ = entry.number in
    let cw : ℕ = atlas.frame.column_width in
    let whole : LinkedShelf = shelf_record used.shelves number in
    let rest_record : LinkedShelf = rest_shelf whole height rest_item in
    let item : LinkedItem = free_item whole.x cw rest (item_record used.items rest_item).generation in
    let added : Entry = entry_of rest (rest_item ∷ []) (rest_item ∷ []) in
    let new : Records = shelf_split number rest rest_item height rest_record item used in
    let spelled : IsSpelledExcept middle (lists_of entries around.unused_items around.unused_shelves) (rest_item ∷ loose) (rest ∷ []) = is_used.spelled in
    let free_shelf : IsLoose (length used.shelves) (shelf_numbers entries) around.unused_shelves rest = loose-of (length used.shelves) (shelf_numbers entries) around.unused_shelves [] rest spelled.linked.shelves_once in
    let free : IsLoose (length used.items) (item_numbers entries) around.unused_items rest_item = loose-of (length used.items) (item_numbers entries) around.unused_items loose rest_item spelled.linked.items_once in
    let apart = linked-apart around entry spelled.linked in
    let numbers : shelf_numbers entries ≡ shelf_numbers around.before ++ number ∷ shelf_numbers around.after = shelf_numbers-append around.before (entry ∷ around.after) in
    let number_count : (k : ℕ) → times k (shelf_numbers entries) ≡ times k (shelf_numbers around.before) + times k (number ∷ shelf_numbers around.after) =
    λ k. ap (times k) numbers ∙ times-append k (shelf_numbers around.before) (number ∷ shelf_numbers around.after) in
    let own_stands : 1 ≤ times number (shelf_numbers entries) = omega (arith, number_count number, self-stands number (shelf_numbers around.after)) in
    let rest_other : (k : ℕ) → 1 ≤ times k (shelf_numbers entries) → rest ≢ k = λ k stands. stranger rest k (shelf_numbers entries) free_shelf.no_used stands in
    let number_other : (k : ℕ) → 1 ≤ times k (shelf_numbers around.before) + times k (shelf_numbers around.after) → number ≢ k = λ k stands e. apart.numbers k stands (ap (λ n. Some n) e) in
    let is : IsRestOf cw new.items new.shelves used.shelves number rest rest_item height =
    rest-of used number rest rest_item height cw (λ e. rest_other number own_stands (sym e)) apart.number free_shelf.within free.within (rw (is_used.shelves number).height tall) in
    let item_same : (k : ℕ) → rest_item ≢ k → slice_get new.items k ≡ slice_get used.items k = λ k other.
    get-changed_by-other (λ _. item) used.items (Some rest_item) k (λ e. let same : rest_item ≡ k = cc in other same) in
    let kept : (k : ℕ) → 1 ≤ times k (item_numbers entries) → slice_get new.items k ≡ slice_get used.items k = λ k stands.
    item_same k (stranger rest_item k (item_numbers entries) free.no_used stands) in
    let others : (k : ℕ) → 1 ≤ times k (shelf_numbers around.before) + times k (shelf_numbers around.after) → SameShelf used.shelves new.shelves k = λ k stands.
    is.others k (number_other k stands) (rest_other k (omega (arith, number_count k, stands))) in
    let along : (k : ℕ) → 1 ≤ times k (shelf_numbers entries) → along_of new.shelves k ≡ along_of used.shelves k = λ k stands.
    (field_at-kept (λ (x : LinkedShelf). x.x) 0 (λ (x : LinkedShelf). record x { height = height }) (linked_between shelf_chain (Some number) (link_at shelf_chain.next (changed_by (Some rest) (λ _. rest_record) used.shelves) number) rest (changed_by (Some rest) (λ _. rest_record) used.shelves)) number k (λ x. refl))
    ∙ (shelves-same (changed_by (Some rest) (λ _. rest_record) used.shelves) (linked_between shelf_chain (Some number) (link_at shelf_chain.next (changed_by (Some rest) (λ _. rest_record) used.shelves) number) rest (changed_by (Some rest) (λ _. rest_record) used.shelves)) k (map-linked_between shelf_chain shelf_values shelves-keep_values (changed_by (Some rest) (λ _. rest_record) used.shelves) (Some number) (link_at shelf_chain.next (changed_by (Some rest) (λ _. rest_record) used.shelves) number) rest)).along
    ∙ (shelf-other used.shelves used.shelves (λ _. rest_record) rest k (λ e. let same : rest ≡ k = cc in rest_other k stands same) (same-shelf used.shelves k)).along in
    let all : AllByRecursion (IsPlaced (with_records atlas new)) entries = placed-entries middle new entries along (λ k stands. item-same used.items new.items k (kept k stands)) spelled.placed in
    let own_column : along_of used.shelves number % cw ≡ 0 = (Each-middle (IsPlaced middle) around.before entry around.after spelled.placed).along in
    let rest_along : along_of new.shelves rest ≡ along_of used.shelves number = is.splits.rest_along in
    let added_placed : IsPlaced (with_records atlas new) added =
    record {
      owners = (is.owner, tt);
      along = ap (λ a. a % cw) rest_along ∙ own_column;
      places = (is.place, tt);
      free_list = λ k. sym (free_count-free new.items k rest_item [] is.free ∙ omega arith);
    } in
    let base : along_of used.shelves number ≡ along_of atlas.records.shelves number = (is_used.shelves number).along in
    let column : along_of new.shelves rest / cw ≡ along_of atlas.records.shelves number / cw = ap (λ a. a / cw) (rest_along ∙ base) in
    let place : item_place_of new.items rest_item ≡ along_of atlas.records.shelves number / cw * cw =
    is.place ∙ rest_along ∙ base ∙ multiple (along_of atlas.records.shelves number) cw (ap (λ a. a % cw) (sym base) ∙ own_column) in
    let rest_height : height_of new.shelves rest ≡ height_of atlas.records.shelves number - height =
    omega (arith, is.splits.height, is.height, (is_used.shelves number).height) in
    let added_spelled : spelled_shelf (with_records atlas new) added ≡ empty_shelf atlas.frame (along_of atlas.records.shelves number / cw) (height_of atlas.records.shelves number - height) =
    shelf-parts (along_of new.shelves rest / cw) (along_of atlas.records.shelves number / cw) (height_of new.shelves rest) (height_of atlas.records.shelves number - height)
    (item_at new.items rest_item ∷ []) (record { width = cw; id = None } ∷ []) (item_place_of new.items rest_item ∷ []) (along_of atlas.records.shelves number / cw * cw ∷ [])
    column rest_height (ap (λ (i : Item). i ∷ []) is.item) (ap (λ p. p ∷ []) place) in
    let tail = Each-back (IsPlaced (with_records atlas new)) around.before (entry ∷ around.after) all in
    let more_numbers : shelf_numbers (around.before ++ entry ∷ added ∷ around.after) ≡ shelf_numbers around.before ++ number ∷ rest ∷ shelf_numbers around.after = shelf_numbers-append around.before (entry ∷ added ∷ around.after) in
    record {
      spelled =
          record {
            linked = shelf_split-linked around entry rest rest_item height rest_record item
                (record { next = refl; prev = refl; next_unallocated = refl; prev_unallocated = refl; first_item = refl; first_unallocated = refl }) spelled.linked;
            placed = Each-append (IsPlaced (with_records atlas new)) around.before (entry ∷ added ∷ around.after) (Each-front (IsPlaced (with_records atlas new)) around.before (entry ∷ around.after) all) (tail.0, (added_placed, tail.1));
            stacked = rw more_numbers
                (stacked-split used.shelves new.shelves cw (shelf_numbers around.before) (shelf_numbers around.after) number rest
                (λ k stands. others k (omega (arith, stands))) (λ k stands. others k (omega (arith, stands))) is.splits
                (rw (← numbers) spelled.stacked));
            unused = unmarked-same used.items new.items around.unused_items
                (λ k stands. item-same used.items new.items k (item_same k (stranger rest_item k around.unused_items free.no_unused stands))) spelled.unused;
          };
      items = λ k stands. kept k stands ∙ is_used.items k stands;
      others = λ k stands. SameShelf-then atlas.records.shelves used.shelves new.shelves k (is_used.shelves k) (others k stands);
      along = is.splits.along ∙ base;
      height = is.height;
      rests = ap (λ (s : Shelf). s ∷ []) added_spelled;
      flags = (is.is_empty ∙ sym (ap is_empty added_spelled), tt);
      more = omega (arith, is_used.more, length-changed_by (λ _. item) used.items (Some rest_item));
      made = λ some. length-changed_by (λ _. item) used.items (Some rest_item) ∙ is_used.made some;
      few = omega (arith, is_used.few, length-changed_by (λ (x : LinkedShelf). record x { height = height }) (linked_between shelf_chain (Some number) (link_at shelf_chain.next (changed_by (Some rest) (λ _. rest_record) used.shelves) number) rest (changed_by (Some rest) (λ _. rest_record) used.shelves)) (Some number), length-linked_between shelf_chain (changed_by (Some rest) (λ _. rest_record) used.shelves) (Some number) (link_at shelf_chain.next (changed_by (Some rest) (λ _. rest_record) used.shelves) number) rest, length-changed_by (λ _. rest_record) used.shelves (Some rest));
    }
  where
    self-stands : (n : ℕ) (ns : List ℕ) → 1 ≤ times n (n ∷ ns)
    self-stands n ns = grind arith

-- the record of the rest of an item, which stands in no list, is written
pub split-written : {atlas : AtlasRecords} (new : Records) (around : Around) (added : List Entry) (entry : Entry) (loose : List ℕ) (tall : ℕ) (pieces : List Shelf) (rest : ℕ) (item : LinkedItem) → HasShelfSplit atlas new around added entry (rest ∷ loose) tall pieces → HasShelfSplit atlas (item_changed rest (λ _. item) new) around added entry (rest ∷ loose) tall pieces
split-written {atlas} new around added entry loose tall pieces rest item is_split =
    let middle : AtlasRecords = with_records atlas new in
    let last : Records = item_changed rest (λ _. item) new in
    let entries : List Entry = around.before ++ entry ∷ (added ++ around.after) in
    let spelled : IsSpelledExcept middle (lists_of entries around.unused_items around.unused_shelves) (rest ∷ loose) [] = is_split.spelled in
    let free : IsLoose (length new.items) (item_numbers entries) around.unused_items rest = loose-of (length new.items) (item_numbers entries) around.unused_items loose rest spelled.linked.items_once in
    let item_same : (k : ℕ) → rest ≢ k → slice_get last.items k ≡ slice_get new.items k = λ k other.
    get-changed_by-other (λ _. item) new.items (Some rest) k (λ e. let same : rest ≡ k = cc in other same) in
    let kept : (k : ℕ) → 1 ≤ times k (item_numbers entries) → slice_get last.items k ≡ slice_get new.items k = λ k stands.
    item_same k (stranger rest k (item_numbers entries) free.no_used stands) in
    let count : (k : ℕ) → times k (item_numbers entries) ≡ times k (item_numbers around.before) + (times k entry.items + (times k (item_numbers added) + times k (item_numbers around.after))) =
    λ k. omega (arith, item_numbers-append around.before (entry ∷ (added ++ around.after)) k, times-append k entry.items (item_numbers (added ++ around.after)), item_numbers-append added around.after k) in
    let fewer : (k : ℕ) → times k (item_numbers (around.before ++ entry ∷ around.after)) ≡ times k (item_numbers around.before) + (times k entry.items + times k (item_numbers around.after)) =
    λ k. omega (arith, item_numbers-append around.before (entry ∷ around.after) k, times-append k entry.items (item_numbers around.after)) in
    let same : SameEntries middle last entries =
    same-entries middle last entries (λ k stands. same-shelf new.shelves k) (λ k stands. item-same new.items last.items k (kept k stands)) spelled.linked.entries in
    let same_added : SameEntries middle last added =
    same-entries middle last added (λ k stands. same-shelf new.shelves k) (λ k stands. item-same new.items last.items k (kept k (omega (arith, stands, count k))))
    (Each-front (IsEntry new) added around.after (Each-back (IsEntry new) around.before (entry ∷ (added ++ around.after)) spelled.linked.entries).1) in
    record {
      spelled =
          record {
            linked = item_written-linked rest (λ _. item) spelled.linked;
            placed = same.placed spelled.placed;
            stacked = spelled.stacked;
            unused = unmarked-same new.items last.items around.unused_items
                (λ k stands. item-same new.items last.items k (item_same k (stranger rest k around.unused_items free.no_unused stands))) spelled.unused;
          };
      items = λ k stands. kept k (omega (arith, stands, count k, fewer k)) ∙ is_split.items k stands;
      others = is_split.others;
      along = is_split.along;
      height = is_split.height;
      rests = same_added.spelled ∙ is_split.rests;
      flags = same_added.flags is_split.flags;
      more = omega (arith, is_split.more, length-changed_by (λ _. item) new.items (Some rest));
      made = λ some. length-changed_by (λ _. item) new.items (Some rest) ∙ is_split.made some;
      few = is_split.few;
    }
