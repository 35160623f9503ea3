-- Linked records stay linked when records are made ahead, which stand in no list.
use Rattle.std.proofs.Common.{◌≡◌, ℕ, zero, suc, List, [], ◌∷◌, ◌++◌, length, length-append, refl, arith}
use Rattle.etagere_base.specs.Lists.{times}
use Rattle.etagere_base.proofs.TimesLemmas.{times-append}
use Rattle.shelf_records.specs.RecordLists.{IsLinkedExcept, Lists, Records, item_numbers, shelf_numbers}
use Rattle.shelf_records.specs.RecordMaking.{records_made, with_new_items, with_new_shelves}
use Rattle.shelf_records.specs.RecordUses.{new_item, new_shelf}
use Rattle.shelf_records.proofs.AllLists.LinkedFields.{item_made-linked, shelf_made-linked}
use Rattle.shelf_records.proofs.AllLists.LinkedUnused.{three-count}
use Rattle.shelf_store.specs.Private.FreshRecords.{numbered}

-- so many numbers from this one on
abbrev pub numbers_from : ℕ → ℕ → List ℕ
numbers_from from count = numbered (λ number. number) from count

-- the order of records in no list doesn't matter
pub loose-counted : {records : Records} {lists : Lists} {loose other loose_shelves other_shelves : List ℕ} → IsLinkedExcept records lists loose loose_shelves
    → ((k : ℕ) → times k other ≡ times k loose) → ((k : ℕ) → times k other_shelves ≡ times k loose_shelves) → IsLinkedExcept records lists other other_shelves
loose-counted {records} {lists} {loose} {other} {loose_shelves} {other_shelves} linked same same_shelves =
    record {
      shelves = linked.shelves;
      entries = linked.entries;
      unused_items = linked.unused_items;
      unused_shelves = linked.unused_shelves;
      shelves_once = λ k. omega (
        arith,
        linked.shelves_once k,
        same_shelves k,
        three-count (shelf_numbers lists.entries) lists.unused_shelves loose_shelves k,
        three-count (shelf_numbers lists.entries) lists.unused_shelves other_shelves k,
      );
      items_once = λ k. omega (
        arith,
        linked.items_once k,
        same k,
        three-count (item_numbers lists.entries) lists.unused_items loose k,
        three-count (item_numbers lists.entries) lists.unused_items other k,
      );
    }

-- the first of some numbers may come last
moved : (from last count : ℕ) (loose : List ℕ) (k : ℕ) → last ≡ suc from
    → times k (numbers_from from (suc count) ++ loose) ≡ times k (numbers_from last count ++ from ∷ loose)
moved from last count loose k is =
    rw is (omega (arith, times-append k (numbers_from (suc from) count) loose, times-append k (numbers_from (suc from) count) (from ∷ loose)))

-- item records were made
items-made : (count : ℕ) {records : Records} {lists : Lists} {loose loose_shelves : List ℕ} → IsLinkedExcept records lists loose loose_shelves
    → IsLinkedExcept (record records { items = with_new_items count records.items }) lists (numbers_from (length records.items) count ++ loose) loose_shelves
items-made zero linked = linked
items-made (suc count) {records} {lists} {loose} linked =
    let last : length (records.items ++ new_item ∷ []) ≡ suc (length records.items) = omega (arith, length-append records.items (new_item ∷ [])) in
    loose-counted (items-made count (item_made-linked new_item linked))
    (λ k. moved (length records.items) (length (records.items ++ new_item ∷ [])) count loose k last) (λ k. refl)

-- shelf records were made
shelves-made : (count : ℕ) {records : Records} {lists : Lists} {loose loose_shelves : List ℕ} → IsLinkedExcept records lists loose loose_shelves
    → IsLinkedExcept (record records { shelves = with_new_shelves count records.shelves }) lists loose (numbers_from (length records.shelves) count ++ loose_shelves)
shelves-made zero linked = linked
shelves-made (suc count) {records} {lists} {loose} {loose_shelves} linked =
    let last : length (records.shelves ++ new_shelf ∷ []) ≡ suc (length records.shelves) = omega (arith, length-append records.shelves (new_shelf ∷ [])) in
    loose-counted (shelves-made count (shelf_made-linked new_shelf linked)) (λ k. refl)
    (λ k. moved (length records.shelves) (length (records.shelves ++ new_shelf ∷ [])) count loose_shelves k last)

-- records of both kinds were made
pub records-made : (items shelves : ℕ) {records : Records} {lists : Lists} → IsLinkedExcept records lists [] []
    → IsLinkedExcept (records_made items shelves records) lists (numbers_from (length records.items) items ++ []) (numbers_from (length records.shelves) shelves ++ [])
records-made items shelves linked = shelves-made shelves (items-made items linked)
