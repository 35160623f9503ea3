-- An empty shelf is put after another one, half way through a grow: what the records spell then.
use Rattle.std.proofs.Common.{◌≡◌, ◌≢◌, ℕ, suc, ◌+◌, ◌-◌, ◌*◌, ◌/◌, ◌<◌, ◌≤◌, true, false, Option, None, Some, List, [], ◌∷◌, ◌++◌, length, map, refl, ap, sym, subst, ◌∙◌, arith, append_assoc}
use Rattle.std.proofs.Math.Nat.{mul-div_cancel, mul-mod_left}
use Rattle.std.specs.Prelude.{◌%◌, is_some, slice_get}
use Rattle.etagere_base.specs.declared.frames.Frame.{Frame}
use Rattle.std.specs.List.{AllByRecursion}
use Rattle.etagere_base.proofs.TimesLemmas.{times-append}
use Rattle.etagere_base.specs.Lists.{times}
use Rattle.shelf_records.proofs.AllLists.LinkedItems.{entry_of}
use Rattle.shelf_records.proofs.AllLists.LinkedEdits.{linked-apart, around_of}
use Rattle.shelf_records.specs.declared.records.LinkedItem.{LinkedItem}
use Rattle.shelf_records.specs.declared.records.LinkedShelf.{LinkedShelf}
use Rattle.etagere_links.specs.Edits.{changed_by, link_at}
use Rattle.shelf_records.specs.ListEdits.{linked_between}
use Rattle.shelf_records.specs.RecordEdits.{item_changed, shelf_changed, shelf_inserted_after}
use Rattle.shelf_records.specs.RecordLists.{Entry, IsEntry, IsLinkedExcept, Records, item_numbers, shelf_numbers}
use Rattle.shelf_records.specs.RecordMaking.{started}
use Rattle.shelf_records.specs.RecordUses.{shelves_used}
use Rattle.shelf_records.specs.Records.{free_list, item_chain, shelf_chain}
use Rattle.etagere_links.proofs.FieldChanges.{field_at-changed}
use Rattle.shelf_records.proofs.AllLists.LinkedFields.{item_written-linked, shelf_written-linked}
use Rattle.shelf_records.proofs.AllLists.LinkedFrames.{shelf_numbers-append}
use Rattle.shelf_records.proofs.AllLists.LinkedShelves.{shelf_inserted_after-linked}
use Rattle.shelf_records.proofs.AllLists.LinkedUnused.{IsLoose, lists_of, loose-of}
use Rattle.shelf_records.proofs.AllLists.LinkedUses.{but_first}
use Rattle.etagere_links.proofs.RecordChanges.{get-changed_by-other, length-changed_by, link_at-changed}
use Rattle.shelf_records.proofs.RecordFrames.{map-linked_between}
use Rattle.shelf_records.specs.AtlasRecords.{across_of, along_of, height_of, is_allocated_at, is_empty_at, item_at, item_place_of, shelf_of, spelled_item, spelled_shelf}
use Rattle.shelf_records.specs.Private.Kept.{bare}
use Rattle.shelf_records.proofs.Spelled.Witnessed.{HasFlag, IsPlaced}
use Rattle.shelf_store.specs.Private.RecordsGrown.{CanInsert, Growing, after_item, after_shelf, empty_shelf_record, made_after_shelf, next_item, next_shelf}
use Rattle.shelf_records.specs.StandsFor.{AreStacked, height_before}
use Rattle.shelf_model.specs.State.{Item, empty_shelf, is_empty}
use Rattle.shelf_store.specs.declared.growing.Made.{Made}
use Rattle.shelf_store.proofs.Grown.HalfGrown.{HasInserted, Inserts, IsGrowing, shelves_spelled}
use Rattle.shelf_store.proofs.Grown.MadeLinked.{numbers_from}
use Rattle.shelf_store.proofs.Grown.NextRecords.{item-next, shelf-next}
use Rattle.shelf_store.proofs.Grown.UsedRecords.{fewer-left, shelf-unused, used-length, used-other}
use Rattle.shelf_records.proofs.Spelled.EntryValues.{free_count-free}
use Rattle.shelf_records.proofs.Spelled.RecordValues.{SameItem, SameShelf, SameShelf-then, item-same, shelf-other, shelf_values, shelves-same}
use Rattle.shelf_store.proofs.Spelled.SpelledLists.{IsSpelledExcept}
use Rattle.shelf_store.proofs.Spelled.SpelledMerges.{unmarked-same}
use Rattle.shelf_store.proofs.Spelled.SpelledShelves.{shelves-keep_values}
use Rattle.shelf_store.proofs.Spelled.SpelledSplits.{shelf-parts}
use Rattle.shelf_store.proofs.Spelled.SpelledUses.{Each-but_first, SameEntries, same-entries, same-shelf, stranger}
use Rattle.shelf_store.proofs.Spelled.StackedEdits.{Each-numbers, height-other, stacked-edited}
use Rattle.shelf_store.proofs.Spelled.ReturnedLengths.{counts-same}

-- a fact of each element, with one put after another
Each-inserted : {X : Type 0} (P : X → Type 0) (xs : List X) (y z : X) (ys : List X) → P z → AllByRecursion P (xs ++ y ∷ ys) → AllByRecursion P (xs ++ y ∷ z ∷ ys)
Each-inserted P [] y z ys here each = (each.0, (here, each.1))
Each-inserted P (x ∷ xs) y z ys here each = (each.0, Each-inserted P xs y z ys here each.1)

-- what two functions say alike, with one put after another
map-inserted : {X Y : Type 0} (f g : X → Y) (xs : List X) (y z : X) (ys : List X) (w : Y) → f z ≡ w → map f (xs ++ y ∷ ys) ≡ map g (xs ++ y ∷ ys)
    → map f (xs ++ y ∷ z ∷ ys) ≡ map g (xs ++ y ∷ []) ++ w ∷ map g ys
map-inserted f g [] y z ys w here same =
    let first : f y ≡ g y = cc in
    let rest : map f ys ≡ map g ys = cc in
    rw (first, here, rest) refl
map-inserted f g (x ∷ xs) y z ys w here same =
    let first : f x ≡ g x = cc in
    let rest : map f (xs ++ y ∷ ys) ≡ map g (xs ++ y ∷ ys) = cc in
    rw (first, map-inserted f g xs y z ys w here rest) refl

-- shelves stand one on the other after one was put behind some, where those in its column end
stacked-inserted : (shelves new : List LinkedShelf) (column_width : ℕ) (before after : List ℕ) (added column : ℕ) → along_of new added / column_width ≡ column
    → across_of new added ≡ height_before shelves column_width column before
    → ((k : ℕ) → 1 ≤ times k before → SameShelf shelves new k) → ((k : ℕ) → 1 ≤ times k after → SameShelf shelves new k)
    → AllByRecursion (λ n. along_of shelves n / column_width ≢ column) after
    → AreStacked shelves column_width [] (before ++ after) → AreStacked new column_width [] (before ++ added ∷ after)
stacked-inserted shelves new column_width before after added column is across same_before same_after =
    stacked-edited shelves new column_width (λ c. c ≢ column) before [] (added ∷ []) after same_before same_after
    (λ below _. (across ∙ sym (ap (λ c. height_before new column_width c before) is ∙ below column), tt))
    (λ c other. height-other new column_width c added (λ e. other (sym e ∙ is)))

-- the records with an empty shelf after the one of this number
abbrev empty_inserted : ℕ → ℕ → ℕ → ℕ → ℕ → ℕ → ℕ → Records → Records
empty_inserted previous shelf item width along across height records =
    shelf_inserted_after previous shelf (shelf_changed shelf (λ _. empty_shelf_record along across height item) (item_changed item (started along width shelf) records))

-- what the records of the empty shelf say; others say the same
record IsInserted (records new : Records) (shelf item width along across height : ℕ) : Type 0 where
  begins : along_of new.shelves shelf ≡ along
  stands : across_of new.shelves shelf ≡ across
  tall : height_of new.shelves shelf ≡ height
  is_empty : is_empty_at new.shelves shelf ≡ true
  spells : item_at new.items item ≡ record { width = width; id = None }
  place : item_place_of new.items item ≡ along
  owner : shelf_of new.items item ≡ shelf
  free : is_allocated_at new.items item ≡ false
  others : (k : ℕ) → shelf ≢ k → SameShelf records.shelves new.shelves k
  items : (k : ℕ) → item ≢ k → slice_get new.items k ≡ slice_get records.items k

module _ (records : Records) (previous shelf item width along across height : ℕ) where
  -- what the records of the empty shelf say once they were written
  inserted-values : shelf < length records.shelves → item < length records.items
      → IsInserted records (empty_inserted previous shelf item width along across height records) shelf item width along across height
  inserted-values within item_within =
      let items : List LinkedItem = records.items in
      let old : List LinkedShelf = records.shelves in
      let written : LinkedShelf = empty_shelf_record along across height item in
      let one : List LinkedShelf = changed_by (Some shelf) (λ _. written) old in
      let next : Option ℕ = link_at shelf_chain.next one previous in
      let new : List LinkedShelf = linked_between shelf_chain (Some previous) next shelf one in
      let linked : (k : ℕ) → SameShelf one new k = λ k. shelves-same one new k (map-linked_between shelf_chain shelf_values shelves-keep_values one (Some previous) next shelf) in
      record {
        begins = (linked shelf).along ∙ field_at-changed (λ (x : LinkedShelf). x.x) 0 (λ _. written) old shelf along within (λ x. refl);
        stands = (linked shelf).across ∙ field_at-changed (λ (x : LinkedShelf). x.y) 0 (λ _. written) old shelf across within (λ x. refl);
        tall = (linked shelf).height ∙ field_at-changed (λ (x : LinkedShelf). x.height) 0 (λ _. written) old shelf height within (λ x. refl);
        is_empty = (linked shelf).is_empty ∙ field_at-changed (λ (x : LinkedShelf). x.is_empty) false (λ _. written) old shelf true within (λ x. refl);
        spells = field_at-changed (spelled_item item) (record { width = 0; id = None }) (started along width shelf) items item (record { width = width; id = None }) item_within (λ x. refl);
        place = field_at-changed (λ (x : LinkedItem). x.x) 0 (started along width shelf) items item along item_within (λ x. refl);
        owner = field_at-changed (λ (x : LinkedItem). x.shelf) 0 (started along width shelf) items item shelf item_within (λ x. refl);
        free = field_at-changed (λ (x : LinkedItem). x.allocated) false (started along width shelf) items item false item_within (λ x. refl);
        others = λ k other. SameShelf-then old one new k (shelf-other old old (λ _. written) shelf k (λ e. let same : shelf ≡ k = cc in other same) (same-shelf old k)) (linked k);
        items = λ k other. get-changed_by-other (started along width shelf) items (Some item) k (λ e. let same : item ≡ k = cc in other same);
      }

  -- as many shelves as before
  inserted-shelves : length (empty_inserted previous shelf item width along across height records).shelves ≡ length records.shelves
  inserted-shelves = simp length-changed_by refl

  -- links spell an empty shelf
  empty-entry : shelf < length records.shelves → item < length records.items
      → IsEntry (shelf_changed shelf (λ _. empty_shelf_record along across height item) (item_changed item (started along width shelf) records)) (entry_of shelf (item ∷ []) (item ∷ []))
  empty-entry within item_within =
      let items : List LinkedItem = records.items in
      let shelves : List LinkedShelf = records.shelves in
      let written : LinkedShelf = empty_shelf_record along across height item in
      let change : LinkedItem → LinkedItem = started along width shelf in
      record {
        items = record {
          forward = (
            field_at-changed (λ (x : LinkedShelf). x.first_item) None (λ _. written) shelves shelf (Some item) within (λ x. refl),
            link_at-changed item_chain.next change items (Some item) None item refl item_within (λ x. refl),
          );
          backward = (link_at-changed item_chain.previous change items (Some item) None item refl item_within (λ x. refl), tt);
        };
        free_list = record {
          forward = (
            field_at-changed (λ (x : LinkedShelf). x.first_unallocated) None (λ _. written) shelves shelf (Some item) within (λ x. refl),
            link_at-changed free_list.next change items (Some item) None item refl item_within (λ x. refl),
          );
          backward = (link_at-changed free_list.previous change items (Some item) None item refl item_within (λ x. refl), tt);
        };
        members = λ k. omega arith;
      }

-- an empty shelf was put after another one of those that records spell
record IsAdded (frame : Frame) (records new : Records) (before after : List Entry) (entry added : Entry) (unused_items unused_shelves loose loose_shelves : List ℕ) (column height : ℕ) : Type 0 where
  spelled : IsSpelledExcept (bare frame new) (lists_of (before ++ entry ∷ added ∷ after) unused_items unused_shelves) loose loose_shelves
  flags : AllByRecursion (HasFlag (bare frame records)) (before ++ entry ∷ after) → AllByRecursion (HasFlag (bare frame new)) (before ++ entry ∷ added ∷ after)
  others : shelves_spelled frame new (before ++ entry ∷ after) ≡ shelves_spelled frame records (before ++ entry ∷ after)
  empty : spelled_shelf (bare frame new) added ≡ empty_shelf frame column height
  same : (k : ℕ) → 1 ≤ times k (shelf_numbers (before ++ entry ∷ after)) → SameShelf records.shelves new.shelves k

module _ (frame : Frame) (records : Records) (before after : List Entry) (entry : Entry) (shelf item column across height : ℕ) (unused_items unused_shelves loose loose_shelves : List ℕ) where
  -- the place of the column
  abbrev along_column : ℕ
  along_column = column * frame.column_width

  -- the records with the empty shelf
  abbrev new_records : Records
  new_records = empty_inserted entry.number shelf item frame.column_width along_column across height records

  -- an empty shelf put after another one stays linked
  added-linked : shelf < length records.shelves → item < length records.items
      → IsLinkedExcept records (lists_of (before ++ entry ∷ after) unused_items unused_shelves) (item ∷ loose) (shelf ∷ loose_shelves)
      → IsLinkedExcept new_records (lists_of (before ++ entry ∷ entry_of shelf (item ∷ []) (item ∷ []) ∷ after) unused_items unused_shelves) loose loose_shelves
  added-linked within item_within linked =
      shelf_inserted_after-linked (around_of before after unused_items unused_shelves) entry (entry_of shelf (item ∷ []) (item ∷ []))
      (empty-entry records entry.number shelf item frame.column_width along_column across height within item_within)
      (shelf_written-linked shelf (λ _. empty_shelf_record along_column across height item)
      (item_written-linked item (started along_column frame.column_width shelf) linked))

  -- the empty shelf is placed
  added-placed : 1 ≤ frame.column_width → IsInserted records new_records shelf item frame.column_width along_column across height
      → IsPlaced (bare frame new_records) (entry_of shelf (item ∷ []) (item ∷ []))
  added-placed wide is =
      record {
        owners = (is.owner, tt);
        along = ap (λ a. a % frame.column_width) is.begins ∙ mul-mod_left column frame.column_width;
        places = (is.place ∙ sym is.begins, tt);
        free_list = λ k. sym (free_count-free new_records.items k item [] is.free ∙ omega arith);
      }

  -- the column of the empty shelf
  added-column : 1 ≤ frame.column_width → IsInserted records new_records shelf item frame.column_width along_column across height
      → along_of new_records.shelves shelf / frame.column_width ≡ column
  added-column wide is = ap (λ a. a / frame.column_width) is.begins ∙ mul-div_cancel column wide

  -- the empty shelf is spelled
  added-spelled : 1 ≤ frame.column_width → IsInserted records new_records shelf item frame.column_width along_column across height
      → spelled_shelf (bare frame new_records) (entry_of shelf (item ∷ []) (item ∷ [])) ≡ empty_shelf frame column height
  added-spelled wide is =
      shelf-parts (along_of new_records.shelves shelf / frame.column_width) column (height_of new_records.shelves shelf) height
      (item_at new_records.items item ∷ []) (record { width = frame.column_width; id = None } ∷ []) (item_place_of new_records.items item ∷ []) (along_column ∷ [])
      (added-column wide is) is.tall (ap (λ (i : Item). i ∷ []) is.spells) (ap (λ p. p ∷ []) is.place)

  -- an empty shelf put after another one, where those before it in its column end
  shelf-added : 1 ≤ frame.column_width → across ≡ height_before records.shelves frame.column_width column (shelf_numbers (before ++ entry ∷ []))
      → AllByRecursion (λ (other : Entry). along_of records.shelves other.number / frame.column_width ≢ column) after
      → IsSpelledExcept (bare frame records) (lists_of (before ++ entry ∷ after) unused_items unused_shelves) (item ∷ loose) (shelf ∷ loose_shelves)
      → IsAdded frame records new_records before after entry (entry_of shelf (item ∷ []) (item ∷ [])) unused_items unused_shelves loose loose_shelves column height
  shelf-added wide ends others spelled =
      let entries : List Entry = before ++ entry ∷ after in
      let added : Entry = entry_of shelf (item ∷ []) (item ∷ []) in
      let free_shelf : IsLoose (length records.shelves) (shelf_numbers entries) unused_shelves shelf =
      loose-of (length records.shelves) (shelf_numbers entries) unused_shelves loose_shelves shelf spelled.linked.shelves_once in
      let free : IsLoose (length records.items) (item_numbers entries) unused_items item =
      loose-of (length records.items) (item_numbers entries) unused_items loose item spelled.linked.items_once in
      let is : IsInserted records new_records shelf item frame.column_width along_column across height =
      inserted-values records entry.number shelf item frame.column_width along_column across height free_shelf.within free.within in
      let same : (k : ℕ) → 1 ≤ times k (shelf_numbers entries) → SameShelf records.shelves new_records.shelves k =
      λ k stands. is.others k (stranger shelf k (shelf_numbers entries) free_shelf.no_used stands) in
      let same_entries : SameEntries (bare frame records) new_records entries =
      same-entries (bare frame records) new_records entries same
      (λ k stands. item-same records.items new_records.items k (is.items k (stranger item k (item_numbers entries) free.no_used stands))) spelled.linked.entries in
      let under : List Entry = before ++ entry ∷ [] in
      let numbers : shelf_numbers entries ≡ shelf_numbers under ++ shelf_numbers after =
      ap shelf_numbers (sym (append_assoc before (entry ∷ []) after)) ∙ shelf_numbers-append under after in
      let more_numbers : shelf_numbers (before ++ entry ∷ added ∷ after) ≡ shelf_numbers under ++ shelf ∷ shelf_numbers after =
      ap shelf_numbers (sym (append_assoc before (entry ∷ []) (added ∷ after))) ∙ shelf_numbers-append under (added ∷ after) in
      let count : (k : ℕ) → times k (shelf_numbers entries) ≡ times k (shelf_numbers under) + times k (shelf_numbers after) =
      λ k. ap (times k) numbers ∙ times-append k (shelf_numbers under) (shelf_numbers after) in
      let empty : spelled_shelf (bare frame new_records) added ≡ empty_shelf frame column height = added-spelled wide is in
      record {
        spelled =
            record {
              linked = added-linked free_shelf.within free.within spelled.linked;
              placed = Each-inserted (IsPlaced (bare frame new_records)) before entry added after (added-placed wide is) (same_entries.placed spelled.placed);
              stacked = rw more_numbers
                  (stacked-inserted records.shelves new_records.shelves frame.column_width (shelf_numbers under) (shelf_numbers after) shelf column (added-column wide is) (is.stands ∙ ends)
                  (λ k stands. same k (omega (arith, stands, count k))) (λ k stands. same k (omega (arith, stands, count k)))
                  (Each-numbers (λ n. along_of records.shelves n / frame.column_width ≢ column) after others) (rw (← numbers) spelled.stacked));
              unused = unmarked-same records.items new_records.items unused_items
                  (λ k stands. item-same records.items new_records.items k (is.items k (stranger item k unused_items free.no_unused stands))) spelled.unused;
            };
        flags = λ flags. Each-inserted (HasFlag (bare frame new_records)) before entry added after (is.is_empty ∙ sym (ap is_empty empty)) (same_entries.flags flags);
        others = same_entries.spelled;
        empty = empty;
        same = same;
      }

-- the item that is made next is the same once a shelf was put to use
made-item : (unused : Option ℕ) (made : Made) → (made_after_shelf unused made).item ≡ made.item
made-item None made = refl
made-item (Some number) made = refl

-- putting a shelf to use that became unused, or made before, keeps all shelf records
kept-shelves : (unused : Option ℕ) (shelves : List LinkedShelf) → shelves_used (is_some unused) unused shelves ≡ shelves
kept-shelves None shelves = refl
kept-shelves (Some number) shelves = refl

-- numbers in no list, of which one less is needed
numbers-left : (made from needed other : ℕ) → made ≡ from → needed ≡ other → numbers_from made needed ++ [] ≡ numbers_from from other ++ []
numbers-left made from needed other e same = rw (e, same) refl

-- the items that were made and are still to be put to use
abbrev left_items : Growing → List ℕ → ℕ → List ℕ
left_items growing unused items = numbers_from growing.made.item (items - length unused) ++ []

-- the shelves that were made and are still to be put to use
abbrev left_shelves : Growing → List ℕ → ℕ → List ℕ
left_shelves growing unused shelves = numbers_from growing.made.shelf (shelves - length unused) ++ []

-- records of which an item and a shelf were put to use for an empty shelf
record IsReady (frame : Frame) (growing used : Growing) (entries : List Entry) (unused_items unused_shelves : List ℕ) (items shelves : ℕ) : Type 0 where
  spelled : IsSpelledExcept (bare frame used.records) (lists_of entries (but_first unused_items) (but_first unused_shelves))
      (next_item growing ∷ left_items used (but_first unused_items) items) (next_shelf (after_item growing) ∷ left_shelves used (but_first unused_shelves) shelves)
  flags : AllByRecursion (HasFlag (bare frame used.records)) entries
  same : shelves_spelled frame used.records entries ≡ shelves_spelled frame growing.records entries
  same_shelves : used.records.shelves ≡ growing.records.shelves
  count : length used.records.items ≡ length growing.records.items

-- an item and a shelf are put to use, where some of each are still needed
ready : (frame : Frame) (growing : Growing) (entries : List Entry) (unused_items unused_shelves : List ℕ) (items shelves : ℕ)
    → IsSpelledExcept (bare frame growing.records) (lists_of entries unused_items unused_shelves) (left_items growing unused_items (suc items)) (left_shelves growing unused_shelves (suc shelves))
    → AllByRecursion (HasFlag (bare frame growing.records)) entries
    → IsReady frame growing (after_shelf (after_item growing)) entries unused_items unused_shelves items shelves
ready frame growing entries unused_items unused_shelves items shelves spelled flags =
    let middle : Growing = after_item growing in
    let used : Growing = after_shelf middle in
    let rest_items : List ℕ = but_first unused_items in
    let rest_shelves : List ℕ = but_first unused_shelves in
    let loose : List ℕ = next_item growing ∷ (numbers_from middle.made.item (suc items - 1 - length rest_items) ++ []) in
    let same_left : left_shelves growing unused_shelves (suc shelves) ≡ left_shelves middle unused_shelves (suc shelves) =
    numbers-left growing.made.shelf middle.made.shelf (suc shelves - length unused_shelves) (suc shelves - length unused_shelves) (sym (shelf-unused growing)) refl in
    let items_left : loose ≡ next_item growing ∷ left_items used rest_items items =
    ap (λ (l : List ℕ). next_item growing ∷ l)
    (numbers-left middle.made.item used.made.item (suc items - 1 - length rest_items) (items - length rest_items) (sym (made-item growing.records.unused_shelves middle.made)) (omega arith)) in
    let shelves_left : next_shelf middle ∷ (numbers_from used.made.shelf (suc shelves - 1 - length rest_shelves) ++ []) ≡ next_shelf middle ∷ left_shelves used rest_shelves shelves =
    ap (λ (l : List ℕ). next_shelf middle ∷ l)
    (numbers-left used.made.shelf used.made.shelf (suc shelves - 1 - length rest_shelves) (shelves - length rest_shelves) refl (omega arith)) in
    let linked : IsLinkedExcept used.records (lists_of entries rest_items rest_shelves) (next_item growing ∷ left_items used rest_items items) (next_shelf middle ∷ left_shelves used rest_shelves shelves) =
    subst (λ (l : List ℕ). IsLinkedExcept used.records (lists_of entries rest_items rest_shelves) l (next_shelf middle ∷ left_shelves used rest_shelves shelves)) items_left
    (subst (λ (l : List ℕ). IsLinkedExcept used.records (lists_of entries rest_items rest_shelves) loose l) shelves_left
    (shelf-next middle entries rest_items unused_shelves loose [] (suc shelves) (omega arith)
    (subst (λ (l : List ℕ). IsLinkedExcept middle.records (lists_of entries rest_items unused_shelves) loose l) same_left
    (item-next growing entries unused_items unused_shelves [] (left_shelves growing unused_shelves (suc shelves)) (suc items) (omega arith) spelled.linked)))) in
    let free : IsLoose (length used.records.items) (item_numbers entries) rest_items (next_item growing) =
    loose-of (length used.records.items) (item_numbers entries) rest_items (left_items used rest_items items) (next_item growing) linked.items_once in
    let kept : (k : ℕ) → next_item growing ≢ k → SameItem growing.records.items used.records.items k =
    λ k other. item-same growing.records.items used.records.items k (used-other growing.records.unused_items growing.records.items growing.made.item k other) in
    let all_shelves : used.records.shelves ≡ growing.records.shelves = kept-shelves growing.records.unused_shelves growing.records.shelves in
    let same : SameEntries (bare frame growing.records) used.records entries =
    same-entries (bare frame growing.records) used.records entries
    (λ k stands. subst (λ (s : List LinkedShelf). SameShelf growing.records.shelves s k) (sym all_shelves) (same-shelf growing.records.shelves k))
    (λ k stands. kept k (stranger (next_item growing) k (item_numbers entries) free.no_used stands)) spelled.linked.entries in
    record {
      spelled =
          record {
            linked = linked;
            placed = same.placed spelled.placed;
            stacked = subst (λ (s : List LinkedShelf). AreStacked s frame.column_width [] (shelf_numbers entries)) (sym all_shelves) spelled.stacked;
            unused = unmarked-same growing.records.items used.records.items rest_items
                (λ k stands. kept k (stranger (next_item growing) k rest_items free.no_unused stands))
                (Each-but_first (λ item. is_allocated_at growing.records.items item ≡ false) unused_items spelled.unused);
          };
      flags = same.flags flags;
      same = same.spelled;
      same_shelves = all_shelves;
      count = used-length growing;
    }

module _ (frame : Frame) (old : ℕ) (growing : Growing) (before after : List Entry) (entry : Entry) (unused_items unused_shelves : List ℕ) (items shelves : ℕ) where
  -- the numbers are those of links
  can-insert : IsGrowing frame old growing (before ++ entry ∷ after) unused_items unused_shelves (suc items) (suc shelves) → CanInsert entry.number growing
  can-insert is =
      let used : Growing = after_shelf (after_item growing) in
      let entries : List Entry = before ++ entry ∷ after in
      let is_ready : IsReady frame growing used entries unused_items unused_shelves items shelves = ready frame growing entries unused_items unused_shelves items shelves is.spelled is.flags in
      let rest_items : List ℕ = but_first unused_items in
      let rest_shelves : List ℕ = but_first unused_shelves in
      let free_shelf : IsLoose (length used.records.shelves) (shelf_numbers entries) rest_shelves (next_shelf (after_item growing)) =
      loose-of (length used.records.shelves) (shelf_numbers entries) rest_shelves (left_shelves used rest_shelves shelves) (next_shelf (after_item growing)) is_ready.spelled.linked.shelves_once in
      let free : IsLoose (length used.records.items) (item_numbers entries) rest_items (next_item growing) =
      loose-of (length used.records.items) (item_numbers entries) rest_items (left_items used rest_items items) (next_item growing) is_ready.spelled.linked.items_once in
      let apart = linked-apart (around_of before after unused_items unused_shelves) entry is.spelled.linked in
      let shelf_count : length used.records.shelves ≡ length growing.records.shelves = ap (λ (s : List LinkedShelf). length s) is_ready.same_shelves in
      record {
        small = omega (arith, apart.number, is.counts.shelves.1);
        item = omega (arith, free.within, is_ready.count, is.counts.items.1);
        shelf = omega (arith, free_shelf.within, shelf_count, is.counts.shelves.1);
      }

  -- an empty shelf of a column is put after another one
  inserted : (column across height : ℕ) → IsGrowing frame old growing (before ++ entry ∷ after) unused_items unused_shelves (suc items) (suc shelves)
      → 1 ≤ frame.column_width → across ≡ height_before growing.records.shelves frame.column_width column (shelf_numbers (before ++ entry ∷ []))
      → AllByRecursion (λ (other : Entry). along_of growing.records.shelves other.number / frame.column_width ≢ column) after
      → HasInserted frame old growing before after entry unused_items unused_shelves items shelves column (column * frame.column_width) across height
  inserted column across height is wide ends others =
      let used : Growing = after_shelf (after_item growing) in
      let entries : List Entry = before ++ entry ∷ after in
      let shelf : ℕ = next_shelf (after_item growing) in
      let item : ℕ = next_item growing in
      let added : Entry = entry_of shelf (item ∷ []) (item ∷ []) in
      let rest_items : List ℕ = but_first unused_items in
      let rest_shelves : List ℕ = but_first unused_shelves in
      let new : Records = empty_inserted entry.number shelf item frame.column_width (column * frame.column_width) across height used.records in
      let is_ready : IsReady frame growing used entries unused_items unused_shelves items shelves = ready frame growing entries unused_items unused_shelves items shelves is.spelled is.flags in
      let is_added : IsAdded frame used.records new before after entry added rest_items rest_shelves (left_items used rest_items items) (left_shelves used rest_shelves shelves) column height =
      shelf-added frame used.records before after entry shelf item column across height rest_items rest_shelves (left_items used rest_items items) (left_shelves used rest_shelves shelves) wide
      (ends ∙ ap (λ (s : List LinkedShelf). height_before s frame.column_width column (shelf_numbers (before ++ entry ∷ []))) (sym is_ready.same_shelves))
      (subst (λ (s : List LinkedShelf). AllByRecursion (λ (other : Entry). along_of s other.number / frame.column_width ≢ column) after) (sym is_ready.same_shelves) others)
      is_ready.spelled in
      let item_count : length new.items ≡ length growing.records.items = length-changed_by (started (column * frame.column_width) frame.column_width shelf) used.records.items (Some item) ∙ is_ready.count in
      let shelf_count : length new.shelves ≡ length growing.records.shelves =
      inserted-shelves used.records entry.number shelf item frame.column_width (column * frame.column_width) across height ∙ ap (λ (s : List LinkedShelf). length s) is_ready.same_shelves in
      record {
        item = item;
        is =
            record {
              spelled = is_added.spelled;
              flags = is_added.flags is_ready.flags;
              counts = counts-same (bare frame growing.records) (bare frame new) (record { items = item_count; shelves = shelf_count }) is.counts;
              more = omega (arith, item_count, is.more);
              used_up = λ made. fewer-left unused_items items (is.used_up (omega (arith, item_count, made)));
            };
        spelled = map-inserted (spelled_shelf (bare frame new)) (spelled_shelf (bare frame growing.records)) before entry added after (empty_shelf frame column height)
            is_added.empty (is_added.others ∙ is_ready.same);
        same = λ k stands. subst (λ (s : List LinkedShelf). SameShelf s new.shelves k) is_ready.same_shelves (is_added.same k stands);
      }

-- an empty shelf is put after another one, where those before it in its column end
pub inserts : Inserts
inserts frame old growing before after entry unused_items unused_shelves items shelves column along across height is wide begins ends others = (
  can-insert frame old growing before after entry unused_items unused_shelves items shelves is,
  subst (λ (a : ℕ). HasInserted frame old growing before after entry unused_items unused_shelves items shelves column a across height) (sym begins)
      (inserted frame old growing before after entry unused_items unused_shelves items shelves column across height is wide ends others),
)
