-- Linked records stay linked when a shelf is split.
use Rattle.std.proofs.Common.{◌≡◌, ℕ, ◌<◌, None, Some, List, [], ◌∷◌, ◌++◌, length, refl, arith}
use Rattle.shelf_records.specs.declared.records.LinkedItem.{LinkedItem}
use Rattle.shelf_records.specs.declared.records.LinkedShelf.{LinkedShelf}
use Rattle.shelf_records.specs.RecordEdits.{item_changed, shelf_changed}
use Rattle.shelf_records.specs.RecordLists.{Records, Entry, shelf_numbers, item_numbers, IsEntry, IsLinkedExcept}
use Rattle.shelf_records.specs.RecordMerges.{shelf_split}
use Rattle.shelf_records.specs.Records.{item_chain, free_list}
use Rattle.etagere_links.proofs.FieldChanges.{field_at-changed}
use Rattle.shelf_records.proofs.AllLists.LinkedEdits.{Around, with_entry}
use Rattle.shelf_records.proofs.AllLists.LinkedFields.{item_written-linked, shelf_written-linked, shelf_changed-linked}
use Rattle.shelf_records.proofs.AllLists.LinkedItems.{entry_of}
use Rattle.shelf_records.proofs.AllLists.LinkedMerges.{keeps-height}
use Rattle.shelf_records.proofs.AllLists.LinkedShelves.{shelf_inserted_after-linked}
use Rattle.shelf_records.proofs.AllLists.LinkedUnused.{IsLoose, loose-of}
use Rattle.etagere_links.proofs.RecordChanges.{link_at-changed}

-- records for a shelf of one free item, which stands in no list yet
pub record IsAlone (item : LinkedItem) (shelf : LinkedShelf) (number : ℕ) : Type 0 where
  pub next : item.next ≡ None
  pub prev : item.prev ≡ None
  pub next_unallocated : item.next_unallocated ≡ None
  pub prev_unallocated : item.prev_unallocated ≡ None
  pub first_item : shelf.first_item ≡ Some number
  pub first_unallocated : shelf.first_unallocated ≡ Some number

-- the records of an item and of a shelf were written so that they spell a shelf of one free item
alone-entry : (records : Records) (shelf item : ℕ) (shelf_record : LinkedShelf) (item_record : LinkedItem) → IsAlone item_record shelf_record item → shelf < length records.shelves → item < length records.items → IsEntry (shelf_changed shelf (λ _. shelf_record) (item_changed item (λ _. item_record) records)) (entry_of shelf (item ∷ []) (item ∷ []))
alone-entry records shelf item shelf_record item_record alone shelf_within item_within =
    let items : List LinkedItem = records.items in
    let shelves : List LinkedShelf = records.shelves in
    record {
      items = record {
        forward = (
          field_at-changed (λ (x : LinkedShelf). x.first_item) None (λ _. shelf_record) shelves shelf (Some item) shelf_within (λ x. alone.first_item),
          link_at-changed item_chain.next (λ _. item_record) items (Some item) None item refl item_within (λ x. alone.next),
        );
        backward = (link_at-changed item_chain.previous (λ _. item_record) items (Some item) None item refl item_within (λ x. alone.prev), tt);
      };
      free_list = record {
        forward = (
          field_at-changed (λ (x : LinkedShelf). x.first_unallocated) None (λ _. shelf_record) shelves shelf (Some item) shelf_within (λ x. alone.first_unallocated),
          link_at-changed free_list.next (λ _. item_record) items (Some item) None item refl item_within (λ x. alone.next_unallocated),
        );
        backward = (link_at-changed free_list.previous (λ _. item_record) items (Some item) None item refl item_within (λ x. alone.prev_unallocated), tt);
      };
      members = λ k. omega arith;
    }

-- a shelf was split: the rest stands after it, with one free item
pub shelf_split-linked : {records : Records} (around : Around) (entry : Entry) (rest rest_item height : ℕ) (rest_shelf : LinkedShelf) (item : LinkedItem) {loose loose_shelves : List ℕ} → IsAlone item rest_shelf rest_item → IsLinkedExcept records (with_entry around entry) (rest_item ∷ loose) (rest ∷ loose_shelves) → IsLinkedExcept (shelf_split entry.number rest rest_item height rest_shelf item records) (with_entry (record around { after = entry_of rest (rest_item ∷ []) (rest_item ∷ []) ∷ around.after }) entry) loose loose_shelves
shelf_split-linked {records} around entry rest rest_item height rest_shelf item {loose} {loose_shelves} alone linked =
    let entries : List Entry = around.before ++ entry ∷ around.after in
    let loose_item : IsLoose (length records.items) (item_numbers entries) around.unused_items rest_item = loose-of (length records.items) (item_numbers entries) around.unused_items loose rest_item linked.items_once in
    let loose_shelf : IsLoose (length records.shelves) (shelf_numbers entries) around.unused_shelves rest = loose-of (length records.shelves) (shelf_numbers entries) around.unused_shelves loose_shelves rest linked.shelves_once in
    shelf_changed-linked entry.number (λ (here : LinkedShelf). record here { height = height }) (keeps-height height)
    (shelf_inserted_after-linked around entry (entry_of rest (rest_item ∷ []) (rest_item ∷ []))
    (alone-entry records rest rest_item rest_shelf item alone loose_shelf.within loose_item.within)
    (shelf_written-linked rest (λ _. rest_shelf) (item_written-linked rest_item (λ _. item) linked)))
