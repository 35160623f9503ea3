-- Linked records stay linked when a field changes that is no link, when a record in no list is written anew, and when
-- one is made.
use Rattle.std.proofs.Common.{◌≡◌, ◌≢◌, ℕ, zero, suc, ◌+◌, ◌<◌, ◌≤◌, Bool, true, false, None, Some, List, [], ◌∷◌, ◌++◌, length, length-append, refl, ap, arith, ◌∙◌}
use Rattle.std.specs.Prelude.{slice_get, nat_lt, ◌==◌, if◌then◌else◌}
use Rattle.std.specs.Option.{option_map_or}
use Rattle.std.specs.List.{AllByRecursion}
use Rattle.etagere_base.specs.Lists.{times}
use Rattle.shelf_records.specs.declared.records.LinkedItem.{LinkedItem}
use Rattle.shelf_records.specs.declared.records.LinkedShelf.{LinkedShelf}
use Rattle.etagere_links.specs.Edits.{changed_by, link_at}
use Rattle.shelf_records.specs.RecordEdits.{item_changed, shelf_changed, item_made, shelf_made}
use Rattle.shelf_records.specs.RecordLists.{Records, Entry, Lists, first_item_of, first_free_of, shelf_numbers, item_numbers, IsEntry, IsLinkedExcept}
use Rattle.etagere_links.specs.Lists.{HasEachOnce}
use Rattle.shelf_records.specs.Records.{item_chain, free_list, shelf_chain}
use Rattle.etagere_links.proofs.FieldChanges.{field_at-kept, field_at-other}
use Rattle.shelf_records.proofs.AllLists.LinkedFrames.{chain-frame, chain-same, list-frame, list-same, entries-frame}
use Rattle.shelf_records.proofs.AllLists.LinkedUnused.{three-count, IsLoose, loose-of}
use Rattle.etagere_links.proofs.WalkedLists.{once-part}
use Rattle.etagere_links.proofs.ListEnds.{times-here, times-other}
use Rattle.etagere_links.proofs.RecordChanges.{get-changed_by-other, length-changed_by, map-changed_by, link_at-same}

-- a change of an item record that keeps its links
pub record KeepsItemLinks (change : LinkedItem → LinkedItem) : Type 0 where
  pub next : (item : LinkedItem) → (change item).next ≡ item.next
  pub prev : (item : LinkedItem) → (change item).prev ≡ item.prev
  pub next_unallocated : (item : LinkedItem) → (change item).next_unallocated ≡ item.next_unallocated
  pub prev_unallocated : (item : LinkedItem) → (change item).prev_unallocated ≡ item.prev_unallocated

-- a change of a shelf record that keeps its links
pub record KeepsShelfLinks (change : LinkedShelf → LinkedShelf) : Type 0 where
  pub next : (shelf : LinkedShelf) → (change shelf).next ≡ shelf.next
  pub prev : (shelf : LinkedShelf) → (change shelf).prev ≡ shelf.prev
  pub first_item : (shelf : LinkedShelf) → (change shelf).first_item ≡ shelf.first_item
  pub first_unallocated : (shelf : LinkedShelf) → (change shelf).first_unallocated ≡ shelf.first_unallocated

-- the lists of shelves where the links of items are the same everywhere
entries-same : (records : Records) (number : ℕ) (change : LinkedItem → LinkedItem) → KeepsItemLinks change → (entries : List Entry) → AllByRecursion (IsEntry records) entries → AllByRecursion (IsEntry (item_changed number change records)) entries
entries-same records number change keeps [] are = tt
entries-same records number change keeps (entry ∷ entries) are =
    let items : List LinkedItem = records.items in
    let new : List LinkedItem = changed_by (Some number) change items in (
      record {
        items = chain-same item_chain items new (first_item_of records.shelves entry.number) entry.items
            (λ k. link_at-same item_chain.next items new k (map-changed_by item_chain.next change items (Some number) keeps.next))
            (λ k. link_at-same item_chain.previous items new k (map-changed_by item_chain.previous change items (Some number) keeps.prev)) are.0.items;
        free_list = chain-same free_list items new (first_free_of records.shelves entry.number) entry.free_list
            (λ k. link_at-same free_list.next items new k (map-changed_by free_list.next change items (Some number) keeps.next_unallocated))
            (λ k. link_at-same free_list.previous items new k (map-changed_by free_list.previous change items (Some number) keeps.prev_unallocated)) are.0.free_list;
        members = are.0.members;
      },
      entries-same records number change keeps entries are.1,
    )

-- a number that does not stand in a list is none that does
differs : (n k : ℕ) (xs : List ℕ) → times n xs ≡ 0 → 1 ≤ times k xs → Some n ≢ Some k
differs n k xs absent stands e =
    let same : n ≡ k = cc in
    let again : 1 ≤ times n xs = rw same stands in
    omega (arith, absent)

-- the records that were there before one was made
pub get-made : {T : Type 0} (xs : List T) (x : T) (k : ℕ) → k < length xs → slice_get (xs ++ x ∷ []) k ≡ slice_get xs k
get-made [] x k within = absurd (omega arith)
get-made (y ∷ ys) x zero within = refl
get-made (y ∷ ys) x (suc k) within = get-made ys x k (omega arith)

-- each number below the count once, and then also the count
each-more : (count : ℕ) (used unused loose : List ℕ) → HasEachOnce count (used ++ unused ++ loose) → HasEachOnce (count + 1) (used ++ unused ++ (count ∷ loose))
each-more count used unused loose once k =
    let parts : times k (used ++ unused ++ (count ∷ loose)) ≡ times k (count ∷ []) + times k (used ++ unused ++ loose) =
    omega (arith, three-count used unused (count ∷ loose) k, three-count used unused loose k) in
    parts ∙ by_test (count == k) refl
  where
    by_test : (b : Bool) → (count == k) ≡ b → times k (count ∷ []) + times k (used ++ unused ++ loose) ≡ (if nat_lt k (count + 1) then 1 else 0)
    by_test true e = let same : count ≡ k = grind arith in let here : times k (count ∷ []) ≡ 1 = rw same (times-here k []) in grind (arith, here, once k)
    by_test false e = let other : count ≢ k = grind arith in let none : times k (count ∷ []) ≡ 0 = times-other k count [] other in grind (arith, none, once k)

module _ {records : Records} {lists : Lists} {loose loose_shelves : List ℕ} where
  -- a field of an item record was changed that is no link
  pub item_changed-linked : (number : ℕ) (change : LinkedItem → LinkedItem) → KeepsItemLinks change → IsLinkedExcept records lists loose loose_shelves → IsLinkedExcept (item_changed number change records) lists loose loose_shelves
  item_changed-linked number change keeps linked =
      let items : List LinkedItem = records.items in
      let new : List LinkedItem = changed_by (Some number) change items in
      record {
        shelves = linked.shelves;
        entries = entries-same records number change keeps lists.entries linked.entries;
        unused_items = list-same item_chain items new records.unused_items lists.unused_items (λ k. link_at-same item_chain.next items new k (map-changed_by item_chain.next change items (Some number) keeps.next)) linked.unused_items;
        unused_shelves = linked.unused_shelves;
        shelves_once = linked.shelves_once;
        items_once = λ k. rw (length-changed_by change items (Some number)) (linked.items_once k);
      }

  -- a field of a shelf record was changed that is no link
  pub shelf_changed-linked : (number : ℕ) (change : LinkedShelf → LinkedShelf) → KeepsShelfLinks change → IsLinkedExcept records lists loose loose_shelves → IsLinkedExcept (shelf_changed number change records) lists loose loose_shelves
  shelf_changed-linked number change keeps linked =
      let shelves : List LinkedShelf = records.shelves in
      let new : List LinkedShelf = changed_by (Some number) change shelves in
      let next : (k : ℕ) → link_at shelf_chain.next new k ≡ link_at shelf_chain.next shelves k =
      λ k. link_at-same shelf_chain.next shelves new k (map-changed_by shelf_chain.next change shelves (Some number) keeps.next) in
      record {
        shelves = chain-same shelf_chain shelves new records.first_shelf (shelf_numbers lists.entries) next
            (λ k. link_at-same shelf_chain.previous shelves new k (map-changed_by shelf_chain.previous change shelves (Some number) keeps.prev)) linked.shelves;
        entries = entries-frame records (shelf_changed number change records) lists.entries (λ k stands. refl)
            (λ k stands. (
              field_at-kept (λ (x : LinkedShelf). x.first_item) None change shelves number k keeps.first_item,
              field_at-kept (λ (x : LinkedShelf). x.first_unallocated) None change shelves number k keeps.first_unallocated,
            )) linked.entries;
        unused_items = linked.unused_items;
        unused_shelves = list-same shelf_chain shelves new records.unused_shelves lists.unused_shelves next linked.unused_shelves;
        shelves_once = λ k. rw (length-changed_by change shelves (Some number)) (linked.shelves_once k);
        items_once = linked.items_once;
      }

  -- an item record in no list was written anew
  pub item_written-linked : (number : ℕ) (change : LinkedItem → LinkedItem) → IsLinkedExcept records lists (number ∷ loose) loose_shelves → IsLinkedExcept (item_changed number change records) lists (number ∷ loose) loose_shelves
  item_written-linked number change linked =
      let items : List LinkedItem = records.items in
      let new : List LinkedItem = changed_by (Some number) change items in
      let is : IsLoose (length items) (item_numbers lists.entries) lists.unused_items number = loose-of (length items) (item_numbers lists.entries) lists.unused_items loose number linked.items_once in
      record {
        shelves = linked.shelves;
        entries = entries-frame records (item_changed number change records) lists.entries
            (λ k stands. get-changed_by-other change items (Some number) k (differs number k (item_numbers lists.entries) is.no_used stands))
            (λ k stands. (refl, refl)) linked.entries;
        unused_items = list-frame item_chain items new records.unused_items lists.unused_items
            (λ k stands. get-changed_by-other change items (Some number) k (differs number k lists.unused_items is.no_unused stands)) linked.unused_items;
        unused_shelves = linked.unused_shelves;
        shelves_once = linked.shelves_once;
        items_once = λ k. rw (length-changed_by change items (Some number)) (linked.items_once k);
      }

  -- a shelf record in no list was written anew
  pub shelf_written-linked : (number : ℕ) (change : LinkedShelf → LinkedShelf) → IsLinkedExcept records lists loose (number ∷ loose_shelves) → IsLinkedExcept (shelf_changed number change records) lists loose (number ∷ loose_shelves)
  shelf_written-linked number change linked =
      let shelves : List LinkedShelf = records.shelves in
      let new : List LinkedShelf = changed_by (Some number) change shelves in
      let used : List ℕ = shelf_numbers lists.entries in
      let is : IsLoose (length shelves) used lists.unused_shelves number = loose-of (length shelves) used lists.unused_shelves loose_shelves number linked.shelves_once in
      record {
        shelves = chain-frame shelf_chain shelves new records.first_shelf used
            (λ k stands. get-changed_by-other change shelves (Some number) k (differs number k used is.no_used stands)) linked.shelves;
        entries = entries-frame records (shelf_changed number change records) lists.entries (λ k stands. refl)
            (λ k stands. (
              field_at-other (λ (x : LinkedShelf). x.first_item) None change shelves (Some number) k (differs number k used is.no_used stands),
              field_at-other (λ (x : LinkedShelf). x.first_unallocated) None change shelves (Some number) k (differs number k used is.no_used stands),
            )) linked.entries;
        unused_items = linked.unused_items;
        unused_shelves = list-frame shelf_chain shelves new records.unused_shelves lists.unused_shelves
            (λ k stands. get-changed_by-other change shelves (Some number) k (differs number k lists.unused_shelves is.no_unused stands)) linked.unused_shelves;
        shelves_once = λ k. rw (length-changed_by change shelves (Some number)) (linked.shelves_once k);
        items_once = linked.items_once;
      }

  -- an item record was made: it stands in no list
  pub item_made-linked : (item : LinkedItem) → IsLinkedExcept records lists loose loose_shelves → IsLinkedExcept (item_made item records) lists (length records.items ∷ loose) loose_shelves
  item_made-linked item linked =
      let items : List LinkedItem = records.items in
      let new : List LinkedItem = items ++ item ∷ [] in
      let used : List ℕ = item_numbers lists.entries in
      let all : List ℕ = used ++ lists.unused_items ++ loose in
      let within : (k p : ℕ) → p ≤ times k all → 1 ≤ p → k < length items = λ k p less. (once-part (length items) all k p linked.items_once less).1 in
      let longer : length new ≡ length items + 1 = omega (arith, length-append items (item ∷ [])) in
      record {
        shelves = linked.shelves;
        entries = entries-frame records (item_made item records) lists.entries
            (λ k stands. get-made items item k (within k (times k used) (omega (arith, three-count used lists.unused_items loose k)) stands))
            (λ k stands. (refl, refl)) linked.entries;
        unused_items = list-frame item_chain items new records.unused_items lists.unused_items
            (λ k stands. get-made items item k (within k (times k lists.unused_items) (omega (arith, three-count used lists.unused_items loose k)) stands)) linked.unused_items;
        unused_shelves = linked.unused_shelves;
        shelves_once = linked.shelves_once;
        items_once = λ k. rw longer (each-more (length items) used lists.unused_items loose linked.items_once k);
      }

  -- a shelf record was made: it stands in no list
  pub shelf_made-linked : (shelf : LinkedShelf) → IsLinkedExcept records lists loose loose_shelves → IsLinkedExcept (shelf_made shelf records) lists loose (length records.shelves ∷ loose_shelves)
  shelf_made-linked shelf linked =
      let shelves : List LinkedShelf = records.shelves in
      let new : List LinkedShelf = shelves ++ shelf ∷ [] in
      let used : List ℕ = shelf_numbers lists.entries in
      let all : List ℕ = used ++ lists.unused_shelves ++ loose_shelves in
      let within : (k p : ℕ) → p ≤ times k all → 1 ≤ p → k < length shelves = λ k p less. (once-part (length shelves) all k p linked.shelves_once less).1 in
      let same : (k : ℕ) → 1 ≤ times k used → slice_get new k ≡ slice_get shelves k =
      λ k stands. get-made shelves shelf k (within k (times k used) (omega (arith, three-count used lists.unused_shelves loose_shelves k)) stands) in
      let longer : length new ≡ length shelves + 1 = omega (arith, length-append shelves (shelf ∷ [])) in
      record {
        shelves = chain-frame shelf_chain shelves new records.first_shelf used same linked.shelves;
        entries = entries-frame records (shelf_made shelf records) lists.entries (λ k stands. refl)
            (λ k stands. (
              ap (λ r. option_map_or (λ (x : LinkedShelf). x.first_item) r None) (same k stands),
              ap (λ r. option_map_or (λ (x : LinkedShelf). x.first_unallocated) r None) (same k stands),
            )) linked.entries;
        unused_items = linked.unused_items;
        unused_shelves = list-frame shelf_chain shelves new records.unused_shelves lists.unused_shelves
            (λ k stands. get-made shelves shelf k (within k (times k lists.unused_shelves) (omega (arith, three-count used lists.unused_shelves loose_shelves k)) stands)) linked.unused_shelves;
        shelves_once = λ k. rw longer (each-more (length shelves) used lists.unused_shelves loose_shelves linked.shelves_once k);
        items_once = linked.items_once;
      }
