-- Where an allocated item stands in the lists of linked records, and how many items stand there.
use Rattle.std.proofs.Common.{◌≡◌, ℕ, zero, suc, ◌+◌, ◌<◌, ◌≤◌, true, false, List, [], ◌∷◌, ◌++◌, length, map, refl, ap, arith, ◌∙◌}
use Rattle.std.proofs.lemmas.List.{length-append}
use Rattle.std.specs.Prelude.{nat_lt}
use Rattle.std.specs.List.{AllByRecursion}
use Rattle.etagere_base.specs.Lists.{times}
use Rattle.shelf_records.proofs.AllLists.LinkedItems.{entry_of}
use Rattle.shelf_records.specs.RecordLists.{Entry, Lists, IsLinked, item_numbers}
use Rattle.etagere_links.specs.Lists.{HasEachOnce}
use Rattle.shelf_records.proofs.AllLists.LinkedUnused.{three-count}
use Rattle.etagere_links.proofs.WalkedLists.{once-part}
use Rattle.etagere_links.proofs.Tallies.{length-each}
use Rattle.shelf_records.specs.AtlasRecords.{AtlasRecords, is_allocated_at, spelled_shelf}
use Rattle.shelf_model.specs.State.{items_in_use}
use Rattle.shelf_records.proofs.Recorded.Members.{Each-member, StandsIn, stands_in}
use Rattle.shelf_records.proofs.Spelled.SpelledNumbers.{items_in_use-spelled}
use Rattle.shelf_records.proofs.Recorded.RecordsOfIds.{marked-within}

-- an item in the lists of shelves
pub record HasItem (number : ℕ) (entries : List Entry) : Type 0 where
  pub before : List Entry
  pub after : List Entry
  pub shelf : ℕ
  pub front : List ℕ
  pub back : List ℕ
  pub free : List ℕ
  pub whole : entries ≡ before ++ entry_of shelf (front ++ number ∷ back) free ∷ after

-- an item that stands in them
has-item : (number : ℕ) (entries : List Entry) → 1 ≤ times number (item_numbers entries) → HasItem number entries
has-item number entries stands =
    let at : StandsIn number entries = stands_in number entries stands in
    record {
      before = at.before;
      after = at.after;
      shelf = at.entry.number;
      front = at.items.front;
      back = at.items.back;
      free = at.entry.free_list;
      whole = at.whole ∙ ap (λ (ns : List ℕ). at.before ++ entry_of at.entry.number ns at.entry.free_list ∷ at.after) at.items.whole;
    }

-- an allocated item stands in the lists of shelves
pub located : (atlas : AtlasRecords) (lists : Lists) (number : ℕ) → IsLinked atlas.records lists → AllByRecursion (λ item. is_allocated_at atlas.records.items item ≡ false) lists.unused_items → is_allocated_at atlas.records.items number ≡ true → HasItem number lists.entries
located atlas lists number linked unmarked allocated = by_count (times number lists.unused_items) refl
  where
    stands : times number (item_numbers lists.entries) + times number lists.unused_items ≡ 1
    stands =
        let below : nat_lt number (length atlas.records.items) ≡ true = grind (arith, marked-within atlas.records.items number allocated) in
        let once : HasEachOnce (length atlas.records.items) (item_numbers lists.entries ++ lists.unused_items ++ []) = linked.items_once in
        let all : times number (item_numbers lists.entries ++ lists.unused_items ++ []) ≡ 1 = once number ∙ (simp below refl) in
        omega (arith, all, three-count (item_numbers lists.entries) lists.unused_items [] number)

    by_count : (m : ℕ) → times number lists.unused_items ≡ m → HasItem number lists.entries
    by_count zero e = has-item number lists.entries (omega (arith, stands, e))
    by_count (suc m) e =
        let contrary : is_allocated_at atlas.records.items number ≡ false =
        Each-member (λ item. is_allocated_at atlas.records.items item ≡ false) lists.unused_items number unmarked (omega (arith, e)) in
        absurd (cc (contrary, allocated))

-- the items in use, and the unused ones, are all records
pub in-use-counted : (atlas : AtlasRecords) (lists : Lists) → IsLinked atlas.records lists → items_in_use (map (spelled_shelf atlas) lists.entries) + length lists.unused_items ≡ length atlas.records.items
in-use-counted atlas lists linked =
    let all : List ℕ = item_numbers lists.entries ++ lists.unused_items ++ [] in
    let count : ℕ = length atlas.records.items in
    let once : HasEachOnce count all = linked.items_once in
    let each : (k : ℕ) → k < count → times k all ≡ 1 = λ k below.
    let test : nat_lt k count ≡ true = grind (arith, below) in
    once k ∙ (simp test refl) in
    let whole : length all ≡ count = length-each count all each (λ k stands. (once-part count all k (times k all) once (omega arith)).1 stands) in
    omega (arith, whole, items_in_use-spelled atlas lists.entries, length-append (item_numbers lists.entries ++ lists.unused_items) [], length-append (item_numbers lists.entries) lists.unused_items)
