-- Linked records stay linked when records are put to use: these then stand in no list.
use Rattle.std.proofs.Common.{◌≡◌, ◌≢◌, ℕ, ◌+◌, ◌<◌, true, Option, None, Some, List, [], ◌∷◌, length, length-append, refl, subst, arith}
use Rattle.std.specs.Prelude.{slice_get}
use Rattle.shelf_records.specs.declared.records.LinkedItem.{LinkedItem}
use Rattle.shelf_records.specs.declared.records.LinkedShelf.{LinkedShelf}
use Rattle.shelf_records.specs.RecordLists.{Records, Entry, Lists, IsLinkedExcept}
use Rattle.shelf_records.specs.RecordUses.{number_used, new_item, new_shelf, used_again, item_used, shelf_used}
use Rattle.shelf_records.proofs.AllLists.LinkedFields.{item_changed-linked, item_made-linked, shelf_made-linked, get-made}
use Rattle.shelf_records.proofs.AllLists.LinkedUnused.{lists_of, item_taken-linked, shelf_taken-linked}
use Rattle.etagere_links.proofs.RecordChanges.{get-changed_by-other, length-changed_by}

-- records of these fields
abbrev records_of : List LinkedShelf → List LinkedItem → Option ℕ → Option ℕ → Option ℕ → Records
records_of shelves items first_shelf top_item top_shelf =
    record { shelves = shelves; items = items; first_shelf = first_shelf; unused_items = top_item; unused_shelves = top_shelf }

-- a list but for its first
abbrev pub but_first : List ℕ → List ℕ
but_first [] = []
but_first (x ∷ xs) = xs

-- an item record was put to use: which one, and that it stands in no list; those of others stay
pub record UsesItem (records : Records) (lists : Lists) (loose loose_shelves : List ℕ) : Type 0 where
  pub number : ℕ
  pub is : number_used true records.unused_items records.items ≡ Some number
  pub linked : IsLinkedExcept (item_used true records) (record lists { unused_items = but_first lists.unused_items }) (number ∷ loose) loose_shelves
  pub others : (k : ℕ) → k < length records.items → number ≢ k → slice_get (item_used true records).items k ≡ slice_get records.items k
  pub count : length (item_used true records).items + length lists.unused_items ≡ length records.items + length (but_first lists.unused_items) + 1

-- a shelf record was put to use
pub record UsesShelf (records : Records) (lists : Lists) (loose loose_shelves : List ℕ) : Type 0 where
  pub number : ℕ
  pub is : number_used true records.unused_shelves records.shelves ≡ Some number
  pub linked : IsLinkedExcept (shelf_used true records) (record lists { unused_shelves = but_first lists.unused_shelves }) loose (number ∷ loose_shelves)
  pub others : (k : ℕ) → k < length records.shelves → slice_get (shelf_used true records).shelves k ≡ slice_get records.shelves k
  pub count : length (shelf_used true records).shelves + length lists.unused_shelves ≡ length records.shelves + length (but_first lists.unused_shelves) + 1

module _ (shelves : List LinkedShelf) (items : List LinkedItem) (first_shelf : Option ℕ) (entries : List Entry) {loose loose_shelves : List ℕ} where
  -- an item record was put to use
  used-item : (top_item top_shelf : Option ℕ) (unused_items unused_shelves : List ℕ) → IsLinkedExcept (records_of shelves items first_shelf top_item top_shelf) (lists_of entries unused_items unused_shelves) loose loose_shelves → UsesItem (records_of shelves items first_shelf top_item top_shelf) (lists_of entries unused_items unused_shelves) loose loose_shelves
  used-item None top_shelf [] unused_shelves linked =
      record {
        number = length items;
        is = refl;
        linked = item_made-linked new_item linked;
        others = λ k within other. get-made items new_item k within;
        count = omega (arith, length-append items (new_item ∷ []));
      }
  used-item (Some n) top_shelf [] unused_shelves linked =
      let none : Some n ≡ None = linked.unused_items in absurd (cc)
  used-item None top_shelf (x ∷ xs) unused_shelves linked =
      let some : None ≡ Some x = linked.unused_items.0 in absurd (cc)
  used-item (Some n) top_shelf (x ∷ xs) unused_shelves linked =
      let records : Records = records_of shelves items first_shelf (Some n) top_shelf in
      let top : Some n ≡ Some x = linked.unused_items.0 in
      let same : x ≡ n = cc in
      let changed : IsLinkedExcept (item_used true records) (lists_of entries xs unused_shelves) (x ∷ loose) loose_shelves =
      item_changed-linked n used_again
      (record { next = λ i. refl; prev = λ i. refl; next_unallocated = λ i. refl; prev_unallocated = λ i. refl })
      (item_taken-linked (lists_of entries xs unused_shelves) x linked) in
      record {
        number = n;
        is = refl;
        linked = subst (λ (m : ℕ). IsLinkedExcept (item_used true records) (lists_of entries xs unused_shelves) (m ∷ loose) loose_shelves) same changed;
        others = λ k within other. get-changed_by-other used_again items (Some n) k (λ e. let eq : n ≡ k = cc in other eq);
        count = omega (arith, length-changed_by used_again items (Some n));
      }

  -- a shelf record was put to use
  used-shelf : (top_item top_shelf : Option ℕ) (unused_items unused_shelves : List ℕ) → IsLinkedExcept (records_of shelves items first_shelf top_item top_shelf) (lists_of entries unused_items unused_shelves) loose loose_shelves → UsesShelf (records_of shelves items first_shelf top_item top_shelf) (lists_of entries unused_items unused_shelves) loose loose_shelves
  used-shelf top_item None unused_items [] linked =
      record {
        number = length shelves;
        is = refl;
        linked = shelf_made-linked new_shelf linked;
        others = λ k within. get-made shelves new_shelf k within;
        count = omega (arith, length-append shelves (new_shelf ∷ []));
      }
  used-shelf top_item (Some n) unused_items [] linked =
      let none : Some n ≡ None = linked.unused_shelves in absurd (cc)
  used-shelf top_item None unused_items (x ∷ xs) linked =
      let some : None ≡ Some x = linked.unused_shelves.0 in absurd (cc)
  used-shelf top_item (Some n) unused_items (x ∷ xs) linked =
      let records : Records = records_of shelves items first_shelf top_item (Some n) in
      let top : Some n ≡ Some x = linked.unused_shelves.0 in
      let same : x ≡ n = cc in
      record {
        number = n;
        is = refl;
        linked = subst (λ (m : ℕ). IsLinkedExcept (shelf_used true records) (lists_of entries unused_items xs) loose (m ∷ loose_shelves)) same (shelf_taken-linked (lists_of entries unused_items xs) x linked);
        others = λ k within. refl;
        count = omega arith;
      }

module _ {records : Records} {lists : Lists} {loose loose_shelves : List ℕ} (linked : IsLinkedExcept records lists loose loose_shelves) where
  -- an item record was put to use, whatever became unused before
  pub uses-item : UsesItem records lists loose loose_shelves
  uses-item = used-item records.shelves records.items records.first_shelf lists.entries records.unused_items records.unused_shelves lists.unused_items lists.unused_shelves linked

  -- a shelf record was put to use, whatever became unused before
  pub uses-shelf : UsesShelf records lists loose loose_shelves
  uses-shelf = used-shelf records.shelves records.items records.first_shelf lists.entries records.unused_items records.unused_shelves lists.unused_items lists.unused_shelves linked
