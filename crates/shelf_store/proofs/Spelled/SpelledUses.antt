-- Records that spell lists, after some were put to use: these stand in no list, and all others say the same.
use Rattle.std.proofs.Common.{◌≡◌, ◌≢◌, ℕ, zero, suc, ◌+◌, ◌<◌, ◌≤◌, true, false, Option, None, Some, List, [], ◌∷◌, ◌++◌, length, map, refl, ap, arith, ◌∙◌, sym}
use Rattle.std.specs.Prelude.{slice_get}
use Rattle.etagere_base.proofs.TimesLemmas.{times-append}
use Rattle.std.specs.List.{AllByRecursion}
use Rattle.etagere_base.specs.Lists.{times}
use Rattle.shelf_records.specs.declared.records.LinkedShelf.{LinkedShelf}
use Rattle.etagere_links.specs.Links.{no_link}
use Rattle.shelf_records.specs.RecordLists.{Records, Entry, Lists, shelf_numbers, item_numbers, IsEntry}
use Rattle.etagere_links.specs.Edits.{field_at}
use Rattle.shelf_records.specs.RecordUses.{number_used, new_shelf, shelves_used, item_used, shelf_used}
use Rattle.shelf_records.proofs.AllLists.LinkedUnused.{three-count, IsLoose, loose-of}
use Rattle.shelf_records.proofs.AllLists.LinkedUses.{but_first, uses-item, uses-shelf}
use Rattle.etagere_links.proofs.WalkedLists.{once-part}
use Rattle.shelf_records.specs.AtlasRecords.{AtlasRecords, is_allocated_at, spelled_shelf}
use Rattle.shelf_records.proofs.Spelled.Witnessed.{HasFlag, IsPlaced}
use Rattle.shelf_model.specs.State.{Shelf, is_empty}
use Rattle.shelf_records.proofs.Spelled.RecordValues.{SameItem, SameShelf, item-same, SameShelf-then}
use Rattle.shelf_store.proofs.Spelled.SpelledLists.{with_records, IsSpelledExcept, shelf-same, placed-same}
use Rattle.shelf_store.proofs.Spelled.StackedEdits.{stacked-same}
use Rattle.shelf_store.proofs.Spelled.SpelledMerges.{unmarked-same}

-- shelves that say what they said
pub record SameEntries (atlas : AtlasRecords) (records : Records) (entries : List Entry) : Type 0 where
  pub placed : AllByRecursion (IsPlaced atlas) entries → AllByRecursion (IsPlaced (with_records atlas records)) entries
  pub spelled : map (spelled_shelf (with_records atlas records)) entries ≡ map (spelled_shelf atlas) entries
  pub flags : AllByRecursion (HasFlag atlas) entries → AllByRecursion (HasFlag (with_records atlas records)) entries

-- shelves whose records and items say the same
pub same-entries : (atlas : AtlasRecords) (records : Records) (entries : List Entry) → ((k : ℕ) → 1 ≤ times k (shelf_numbers entries) → SameShelf atlas.records.shelves records.shelves k) → ((k : ℕ) → 1 ≤ times k (item_numbers entries) → SameItem atlas.records.items records.items k) → AllByRecursion (IsEntry atlas.records) entries → SameEntries atlas records entries
same-entries atlas records [] shelf items are = record { placed = λ p. tt; spelled = refl; flags = λ p. tt }
same-entries atlas records (entry ∷ entries) shelf items are =
    let own_shelf : SameShelf atlas.records.shelves records.shelves entry.number = shelf entry.number (grind arith) in
    let own : (k : ℕ) → 1 ≤ times k entry.items → SameItem atlas.records.items records.items k = λ k stands. items k (omega (arith, stands, times-append k entry.items (item_numbers entries))) in
    let rest : SameEntries atlas records entries =
    same-entries atlas records entries (λ k stands. shelf k (omega (arith, stands))) (λ k stands. items k (omega (arith, stands, times-append k entry.items (item_numbers entries)))) are.1 in
    let here : spelled_shelf (with_records atlas records) entry ≡ spelled_shelf atlas entry = shelf-same atlas records entry own_shelf own are.0.members in
    record {
      placed = λ placed. (placed-same atlas records entry own_shelf.along own placed.0, rest.placed placed.1);
      spelled = ap (λ (s : Shelf). s ∷ map (spelled_shelf (with_records atlas records)) entries) here
          ∙ ap (λ (ss : List Shelf). spelled_shelf atlas entry ∷ ss) rest.spelled;
      flags = λ flags. (own_shelf.is_empty ∙ flags.0 ∙ ap is_empty (sym here), rest.flags flags.1);
    }

-- a field of records of which one was made that has there what none has
pub field_at-made : {T X : Type 0} (field : T → X) (other : X) (xs : List T) (x : T) (k : ℕ) → field x ≡ other → field_at field other (xs ++ x ∷ []) k ≡ field_at field other xs k
field_at-made field other [] x zero e = e
field_at-made field other [] x (suc k) e = refl
field_at-made field other (y ∷ ys) x zero e = refl
field_at-made field other (y ∷ ys) x (suc k) e = field_at-made field other ys x k e

-- shelves say what they say
pub same-shelf : (shelves : List LinkedShelf) (k : ℕ) → SameShelf shelves shelves k
same-shelf shelves k = record { along = refl; across = refl; height = refl; is_empty = refl }

-- shelves say the same after one was put to use
pub shelves-used : (unused : Option ℕ) (shelves : List LinkedShelf) (k : ℕ) → SameShelf shelves (shelves_used true unused shelves) k
shelves-used None shelves k =
    record {
      along = field_at-made (λ (s : LinkedShelf). s.x) 0 shelves new_shelf k refl;
      across = field_at-made (λ (s : LinkedShelf). s.y) 0 shelves new_shelf k refl;
      height = field_at-made (λ (s : LinkedShelf). s.height) 0 shelves new_shelf k refl;
      is_empty = field_at-made (λ (s : LinkedShelf). s.is_empty) false shelves new_shelf k refl;
    }
shelves-used (Some number) shelves k = same-shelf shelves k

-- a fact of each is one of each but the first
pub Each-but_first : (P : ℕ → Type 0) (xs : List ℕ) → AllByRecursion P xs → AllByRecursion P (but_first xs)
Each-but_first P [] each = tt
Each-but_first P (x ∷ xs) each = each.1

-- a number stands in a list at least as often as in the list but for its first
times-but_first : (k : ℕ) (xs : List ℕ) → times k (but_first xs) ≤ times k xs
times-but_first k [] = omega arith
times-but_first k (x ∷ xs) = omega arith

-- a number that does not stand in a list is none that does
pub stranger : (n k : ℕ) (xs : List ℕ) → times n xs ≡ 0 → 1 ≤ times k xs → n ≢ k
stranger n k xs absent stands e = let again : 1 ≤ times n xs = rw e stands in omega (arith, absent)

-- records of which some were put to use: the shelves and their items say the same; there are no fewer items, and as
-- many where some are still unused
pub record IsUsed (atlas : AtlasRecords) (new : Records) (lists : Lists) (loose_items loose_shelves : List ℕ) : Type 0 where
  pub spelled : IsSpelledExcept (with_records atlas new) lists loose_items loose_shelves
  pub items : (k : ℕ) → 1 ≤ times k (item_numbers lists.entries) → slice_get new.items k ≡ slice_get atlas.records.items k
  pub shelves : (k : ℕ) → SameShelf atlas.records.shelves new.shelves k
  pub more : length atlas.records.items ≤ length new.items
  pub made : 1 ≤ length lists.unused_items → length new.items ≡ length atlas.records.items
  pub few : length new.shelves ≤ no_link

-- one more item record was put to use
pub record IsItemUsed (atlas : AtlasRecords) (new : Records) (lists : Lists) (loose_items loose_shelves : List ℕ) : Type 0 where
  pub number : ℕ
  pub is : number_used true new.unused_items new.items ≡ Some number
  pub used : IsUsed atlas (item_used true new) (record lists { unused_items = but_first lists.unused_items }) (number ∷ loose_items) loose_shelves

pub used-item : {atlas : AtlasRecords} {new : Records} {lists : Lists} {loose loose_shelves : List ℕ} → IsUsed atlas new lists loose loose_shelves → IsItemUsed atlas new lists loose loose_shelves
used-item {atlas} {new} {lists} {loose} {loose_shelves} used =
    let middle : AtlasRecords = with_records atlas new in
    let last : Records = item_used true new in
    let uses = uses-item used.spelled.linked in
    let free : IsLoose (length last.items) (item_numbers lists.entries) (but_first lists.unused_items) uses.number =
    loose-of (length last.items) (item_numbers lists.entries) (but_first lists.unused_items) loose uses.number uses.linked.items_once in
    let all : List ℕ = item_numbers lists.entries ++ lists.unused_items ++ loose in
    let within : (k part : ℕ) → part ≤ times k all → 1 ≤ part → k < length new.items =
    λ k part less. (once-part (length new.items) all k part used.spelled.linked.items_once less).1 in
    let count : (k : ℕ) → times k all ≡ times k (item_numbers lists.entries) + times k lists.unused_items + times k loose = three-count (item_numbers lists.entries) lists.unused_items loose in
    let kept : (k : ℕ) → 1 ≤ times k (item_numbers lists.entries) → slice_get last.items k ≡ slice_get new.items k =
    λ k stands. uses.others k (within k (times k (item_numbers lists.entries)) (omega (arith, count k)) stands) (stranger uses.number k (item_numbers lists.entries) free.no_used stands) in
    let kept_unused : (k : ℕ) → 1 ≤ times k (but_first lists.unused_items) → slice_get last.items k ≡ slice_get new.items k =
    λ k stands. uses.others k (within k (times k lists.unused_items) (omega (arith, count k)) (omega (arith, stands, times-but_first k lists.unused_items))) (stranger uses.number k (but_first lists.unused_items) free.no_unused stands) in
    let same : SameEntries middle last lists.entries =
    same-entries middle last lists.entries (λ k stands. same-shelf new.shelves k) (λ k stands. item-same new.items last.items k (kept k stands)) used.spelled.linked.entries in
    record {
      number = uses.number;
      is = uses.is;
      used =
          record {
            spelled =
                record {
                  linked = uses.linked;
                  placed = same.placed used.spelled.placed;
                  stacked = used.spelled.stacked;
                  unused = unmarked-same new.items last.items (but_first lists.unused_items) (λ k stands. item-same new.items last.items k (kept_unused k stands))
                      (Each-but_first (λ item. is_allocated_at new.items item ≡ false) lists.unused_items used.spelled.unused);
                };
            items = λ k stands. kept k stands ∙ used.items k stands;
            shelves = used.shelves;
            more = by_count lists.unused_items uses.count;
            made = by_made lists.unused_items uses.count used.made;
            few = used.few;
          };
    }
  where
    by_count : (xs : List ℕ) → length (item_used true new).items + length xs ≡ length new.items + length (but_first xs) + 1 → length atlas.records.items ≤ length (item_used true new).items
    by_count [] count = omega (arith, count, used.more)
    by_count (x ∷ xs) count = omega (arith, count, used.more)

    by_made : (xs : List ℕ) → length (item_used true new).items + length xs ≡ length new.items + length (but_first xs) + 1 → (1 ≤ length xs → length new.items ≡ length atlas.records.items) → 1 ≤ length (but_first xs) → length (item_used true new).items ≡ length atlas.records.items
    by_made [] count made some = absurd (omega (arith, some))
    by_made (x ∷ xs) count made some = omega (arith, count, made (omega arith))

-- one more shelf record was put to use
pub record IsShelfUsed (atlas : AtlasRecords) (new : Records) (lists : Lists) (loose_items loose_shelves : List ℕ) : Type 0 where
  pub number : ℕ
  pub is : number_used true new.unused_shelves new.shelves ≡ Some number
  pub used : IsUsed atlas (shelf_used true new) (record lists { unused_shelves = but_first lists.unused_shelves }) loose_items (number ∷ loose_shelves)

-- the record is new only where none was unused
pub used-shelf : {atlas : AtlasRecords} {new : Records} {lists : Lists} {loose loose_shelves : List ℕ} → IsUsed atlas new lists loose loose_shelves → (lists.unused_shelves ≡ [] → length new.shelves + 1 ≤ no_link) → IsShelfUsed atlas new lists loose loose_shelves
used-shelf {atlas} {new} {lists} used room =
    let middle : AtlasRecords = with_records atlas new in
    let last : Records = shelf_used true new in
    let uses = uses-shelf used.spelled.linked in
    let same_shelf : (k : ℕ) → SameShelf new.shelves last.shelves k = shelves-used new.unused_shelves new.shelves in
    let same : SameEntries middle last lists.entries =
    same-entries middle last lists.entries (λ k stands. same_shelf k) (λ k stands. item-same new.items new.items k refl) used.spelled.linked.entries in
    record {
      number = uses.number;
      is = uses.is;
      used =
          record {
            spelled =
                record {
                  linked = uses.linked;
                  placed = same.placed used.spelled.placed;
                  stacked = stacked-same new.shelves last.shelves atlas.frame.column_width same_shelf (shelf_numbers lists.entries) used.spelled.stacked;
                  unused = used.spelled.unused;
                };
            items = used.items;
            shelves = λ k. SameShelf-then atlas.records.shelves new.shelves last.shelves k (used.shelves k) (same_shelf k);
            more = used.more;
            made = used.made;
            few = by_count lists.unused_shelves uses.count room;
          };
    }
  where
    by_count : (xs : List ℕ) → length (shelf_used true new).shelves + length xs ≡ length new.shelves + length (but_first xs) + 1 → (xs ≡ [] → length new.shelves + 1 ≤ no_link) → length (shelf_used true new).shelves ≤ no_link
    by_count [] count room = omega (arith, count, room refl)
    by_count (x ∷ xs) count room = omega (arith, count, used.few)
