-- Linked records stay linked when a record in no list becomes unused, when one is taken, and when one is made.
use Rattle.std.proofs.Common.{◌≡◌, ◌≢◌, ℕ, ◌+◌, ◌<◌, ◌≤◌, None, Some, List, ◌∷◌, ◌++◌, length, refl, arith, ◌∙◌}
use Rattle.etagere_base.proofs.TimesLemmas.{times-append}
use Rattle.etagere_base.specs.Lists.{times}
use Rattle.shelf_records.specs.declared.records.LinkedItem.{LinkedItem}
use Rattle.shelf_records.specs.declared.records.LinkedShelf.{LinkedShelf}
use Rattle.shelf_records.specs.ListEdits.{made_unused}
use Rattle.shelf_records.specs.RecordEdits.{item_made_unused, item_taken, shelf_made_unused, shelf_taken}
use Rattle.shelf_records.specs.RecordLists.{Records, Entry, Lists, shelf_numbers, item_numbers, IsLinkedExcept}
use Rattle.etagere_links.specs.Lists.{HasEachOnce}
use Rattle.shelf_records.specs.Records.{item_chain, shelf_chain}
use Rattle.shelf_records.proofs.Families.{item_chain-laws, shelf_chain-laws}
use Rattle.etagere_links.proofs.FieldChanges.{field_at-kept}
use Rattle.shelf_records.proofs.AllLists.LinkedFrames.{chain-frame, entries-frame}
use Rattle.etagere_links.proofs.WalkedLists.{once-part}
use Rattle.etagere_links.proofs.ListEnds.{times-here}
use Rattle.shelf_records.proofs.RecordFrames.{length-made_unused, get-made_unused}
use Rattle.shelf_records.proofs.RecordLists.{made_unused-spells}

-- lists of shelves, and of what became unused
abbrev pub lists_of : List Entry → List ℕ → List ℕ → Lists
lists_of entries unused_items unused_shelves =
    record { entries = entries; unused_items = unused_items; unused_shelves = unused_shelves }

-- how often a number stands in three lists
pub three-count : (used unused loose : List ℕ) (k : ℕ) → times k (used ++ unused ++ loose) ≡ times k used + times k unused + times k loose
three-count used unused loose k = omega (arith, times-append k (used ++ unused) loose, times-append k used unused)

-- a number in no list is below the count, and stands in no list
pub record IsLoose (count : ℕ) (used unused : List ℕ) (number : ℕ) : Type 0 where
  pub within : number < count
  pub no_used : times number used ≡ 0
  pub no_unused : times number unused ≡ 0

pub loose-of : (count : ℕ) (used unused loose : List ℕ) (number : ℕ) → HasEachOnce count (used ++ unused ++ number ∷ loose) → IsLoose count used unused number
loose-of count used unused loose number once =
    let all : List ℕ = used ++ unused ++ number ∷ loose in
    let count_is : times number all ≡ times number used + times number unused + times number (number ∷ loose) = three-count used unused (number ∷ loose) number in
    let here : 1 ≤ times number (number ∷ loose) = omega (arith, times-here number loose) in
    let part = once-part count all number (times number all) once (omega arith) in
    record {
      within = part.1 (omega (arith, count_is, here));
      no_used = omega (arith, count_is, here, part.0);
      no_unused = omega (arith, count_is, here, part.0);
    }

-- a number that does not stand in a list is none that does
differs : (n k : ℕ) (xs : List ℕ) → times n xs ≡ 0 → 1 ≤ times k xs → n ≢ k
differs n k xs absent stands e = let again : 1 ≤ times n xs = rw e stands in omega (arith, absent)

-- the item record that became unused last was taken: it stands in no list
pub item_taken-linked : {records : Records} (lists : Lists) (number : ℕ) {loose loose_shelves : List ℕ} → IsLinkedExcept records (record lists { unused_items = number ∷ lists.unused_items }) loose loose_shelves → IsLinkedExcept (item_taken records) lists (number ∷ loose) loose_shelves
item_taken-linked {records} lists number {loose} {loose_shelves} linked =
    let top : records.unused_items ≡ Some number = linked.unused_items.0 in
    record {
      shelves = linked.shelves;
      entries = entries-frame records (item_taken records) lists.entries (λ k stands. refl) (λ k stands. (refl, refl)) linked.entries;
      unused_items = rw top linked.unused_items.1;
      unused_shelves = linked.unused_shelves;
      shelves_once = linked.shelves_once;
      items_once = λ k. omega (arith, linked.items_once k, three-count (item_numbers lists.entries) lists.unused_items (number ∷ loose) k, three-count (item_numbers lists.entries) (number ∷ lists.unused_items) loose k);
    }

-- the shelf record that became unused last was taken: it stands in no list
pub shelf_taken-linked : {records : Records} (lists : Lists) (number : ℕ) {loose loose_shelves : List ℕ} → IsLinkedExcept records (record lists { unused_shelves = number ∷ lists.unused_shelves }) loose loose_shelves → IsLinkedExcept (shelf_taken records) lists loose (number ∷ loose_shelves)
shelf_taken-linked {records} lists number {loose} {loose_shelves} linked =
    let top : records.unused_shelves ≡ Some number = linked.unused_shelves.0 in
    record {
      shelves = linked.shelves;
      entries = entries-frame records (shelf_taken records) lists.entries (λ k stands. refl) (λ k stands. (refl, refl)) linked.entries;
      unused_items = linked.unused_items;
      unused_shelves = rw top linked.unused_shelves.1;
      shelves_once = λ k. omega (arith, linked.shelves_once k, three-count (shelf_numbers lists.entries) lists.unused_shelves (number ∷ loose_shelves) k, three-count (shelf_numbers lists.entries) (number ∷ lists.unused_shelves) loose_shelves k);
      items_once = linked.items_once;
    }

module _ {records : Records} {lists : Lists} {loose loose_shelves : List ℕ} where
  -- an item record in no list became unused
  pub item_made_unused-linked : (number : ℕ) → IsLinkedExcept records lists (number ∷ loose) loose_shelves → IsLinkedExcept (item_made_unused number records) (record lists { unused_items = number ∷ lists.unused_items }) loose loose_shelves
  item_made_unused-linked number linked =
      let items : List LinkedItem = records.items in
      let new : List LinkedItem = made_unused item_chain records.unused_items number items in
      let used : List ℕ = item_numbers lists.entries in
      let is : IsLoose (length items) used lists.unused_items number = loose-of (length items) used lists.unused_items loose number linked.items_once in
      record {
        shelves = linked.shelves;
        entries = entries-frame records (item_made_unused number records) lists.entries
            (λ k stands. get-made_unused item_chain items records.unused_items number k (differs number k used is.no_used stands))
            (λ k stands. (refl, refl)) linked.entries;
        unused_items = made_unused-spells item_chain item_chain-laws items records.unused_items lists.unused_items number is.within is.no_unused linked.unused_items;
        unused_shelves = linked.unused_shelves;
        shelves_once = linked.shelves_once;
        items_once = λ k. rw (length-made_unused item_chain items records.unused_items number) (moved k ∙ linked.items_once k);
      }
    where
      moved : (k : ℕ) → times k (item_numbers lists.entries ++ (number ∷ lists.unused_items) ++ loose) ≡ times k (item_numbers lists.entries ++ lists.unused_items ++ number ∷ loose)
      moved k = omega (arith, three-count (item_numbers lists.entries) (number ∷ lists.unused_items) loose k, three-count (item_numbers lists.entries) lists.unused_items (number ∷ loose) k)

  -- a shelf record in no list became unused
  pub shelf_made_unused-linked : (number : ℕ) → IsLinkedExcept records lists loose (number ∷ loose_shelves) → IsLinkedExcept (shelf_made_unused number records) (record lists { unused_shelves = number ∷ lists.unused_shelves }) loose loose_shelves
  shelf_made_unused-linked number linked =
      let shelves : List LinkedShelf = records.shelves in
      let new : List LinkedShelf = made_unused shelf_chain records.unused_shelves number shelves in
      let used : List ℕ = shelf_numbers lists.entries in
      let is : IsLoose (length shelves) used lists.unused_shelves number = loose-of (length shelves) used lists.unused_shelves loose_shelves number linked.shelves_once in
      record {
        shelves = chain-frame shelf_chain shelves new records.first_shelf used
            (λ k stands. get-made_unused shelf_chain shelves records.unused_shelves number k (differs number k used is.no_used stands)) linked.shelves;
        entries = entries-frame records (shelf_made_unused number records) lists.entries (λ k stands. refl)
            (λ k stands. (
              field_at-kept (λ (x : LinkedShelf). x.first_item) None (shelf_chain.with_next records.unused_shelves) shelves number k (λ x. refl),
              field_at-kept (λ (x : LinkedShelf). x.first_unallocated) None (shelf_chain.with_next records.unused_shelves) shelves number k (λ x. refl),
            ))
            linked.entries;
        unused_items = linked.unused_items;
        unused_shelves = made_unused-spells shelf_chain shelf_chain-laws shelves records.unused_shelves lists.unused_shelves number is.within is.no_unused linked.unused_shelves;
        shelves_once = λ k. rw (length-made_unused shelf_chain shelves records.unused_shelves number) (moved k ∙ linked.shelves_once k);
        items_once = linked.items_once;
      }
    where
      moved : (k : ℕ) → times k (shelf_numbers lists.entries ++ (number ∷ lists.unused_shelves) ++ loose_shelves) ≡ times k (shelf_numbers lists.entries ++ lists.unused_shelves ++ number ∷ loose_shelves)
      moved k = omega (arith, three-count (shelf_numbers lists.entries) (number ∷ lists.unused_shelves) loose_shelves k, three-count (shelf_numbers lists.entries) lists.unused_shelves (number ∷ loose_shelves) k)
