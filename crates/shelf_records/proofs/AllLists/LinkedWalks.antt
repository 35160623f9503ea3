-- The lists that links spell are those that walks meet.
use Rattle.std.proofs.Common.{◌≡◌, ℕ, ◌+◌, ◌≤◌, List, [], ◌∷◌, ◌++◌, length, map, refl, ap, arith, ◌∙◌}
use Rattle.etagere_base.proofs.TimesLemmas.{times-append}
use Rattle.std.specs.List.{AllByRecursion}
use Rattle.etagere_base.specs.Lists.{times}
use Rattle.etagere_links.specs.Links.{no_link}
use Rattle.shelf_records.specs.Records.{item_chain, free_list, shelf_chain}
use Rattle.shelf_records.specs.RecordLists.{Records, Entry, Lists, first_item_of, first_free_of, shelf_walk, unused_shelf_walk, unused_item_walk, item_walk, free_walk, walked_entry, walked_lists, shelf_numbers, item_numbers, IsEntry, IsLinked}
use Rattle.etagere_links.specs.Walks.{Walked}
use Rattle.etagere_links.specs.Lists.{HasEachOnce}
use Rattle.etagere_links.proofs.WalkedLists.{IsPart, part-of, walk_by-part}

-- the walks of a shelf's lists
pub record HasWalks (records : Records) (entry : Entry) : Type 0 where
  pub items : item_walk records entry.number ≡ record { met = entry.items; end = no_link }
  pub free_list : free_walk records entry.number ≡ record { met = entry.free_list; end = no_link }

-- the lists of a shelf are those that its walks meet
entry-walked : (records : Records) (entry : Entry) → HasWalks records entry → walked_entry records entry.number ≡ entry
entry-walked records entry walks =
    ap (λ (w : Walked). record { number = entry.number; items = w.met; free_list = (free_walk records entry.number).met }) walks.items
    ∙ ap (λ (w : Walked). record { number = entry.number; items = entry.items; free_list = w.met }) walks.free_list

-- the walks of each shelf's lists
pub entries-walks : (records : Records) (all : List ℕ) → length records.items ≤ no_link → HasEachOnce (length records.items) all → (entries : List Entry) → ((k : ℕ) → times k (item_numbers entries) ≤ times k all) → AllByRecursion (IsEntry records) entries → AllByRecursion (HasWalks records) entries
entries-walks records all few each [] less are = tt
entries-walks records all few each (entry ∷ entries) less are =
    let count : (k : ℕ) → times k (item_numbers (entry ∷ entries)) ≡ times k entry.items + times k (item_numbers entries) =
    λ k. times-append k entry.items (item_numbers entries) in
    let items : IsPart (length records.items) entry.items = part-of (length records.items) all entry.items each (λ k. omega (arith, count k, less k)) in
    let free : IsPart (length records.items) entry.free_list = part-of (length records.items) all entry.free_list each (λ k. omega (arith, count k, less k, are.0.members k)) in (
      record {
        items = walk_by-part item_chain.next records.items (first_item_of records.shelves entry.number) entry.items few items are.0.items.forward;
        free_list = walk_by-part free_list.next records.items (first_free_of records.shelves entry.number) entry.free_list few free are.0.free_list.forward;
      },
      entries-walks records all few each entries (λ k. omega (arith, count k, less k)) are.1,
    )

-- the entries are those that walks meet
pub entries-walked : (records : Records) (entries : List Entry) → AllByRecursion (HasWalks records) entries → map (walked_entry records) (shelf_numbers entries) ≡ entries
entries-walked records [] walks = refl
entries-walked records (entry ∷ entries) walks =
    ap (λ (e : Entry). e ∷ map (walked_entry records) (shelf_numbers entries)) (entry-walked records entry walks.0)
    ∙ ap (λ es. entry ∷ es) (entries-walked records entries walks.1)

-- what the walks through linked records are
pub record AreWalks (records : Records) (lists : Lists) : Type 0 where
  pub shelves : shelf_walk records ≡ record { met = shelf_numbers lists.entries; end = no_link }
  pub entries : AllByRecursion (HasWalks records) lists.entries
  pub unused_items : unused_item_walk records ≡ record { met = lists.unused_items; end = no_link }
  pub unused_shelves : unused_shelf_walk records ≡ record { met = lists.unused_shelves; end = no_link }

-- the walks through linked records meet their lists
pub linked-walks : (records : Records) (lists : Lists) → length records.shelves ≤ no_link → length records.items ≤ no_link → IsLinked records lists → AreWalks records lists
linked-walks records lists few_shelves few_items linked =
    let numbers : List ℕ = shelf_numbers lists.entries in
    let items : List ℕ = item_numbers lists.entries in
    let all_shelves : List ℕ = numbers ++ lists.unused_shelves ++ [] in
    let all_items : List ℕ = items ++ lists.unused_items ++ [] in
    let shelf_count : (k : ℕ) → times k all_shelves ≡ times k numbers + times k lists.unused_shelves =
    λ k. omega (arith, times-append k (numbers ++ lists.unused_shelves) [], times-append k numbers lists.unused_shelves) in
    let item_count : (k : ℕ) → times k all_items ≡ times k items + times k lists.unused_items =
    λ k. omega (arith, times-append k (items ++ lists.unused_items) [], times-append k items lists.unused_items) in
    record {
      shelves = walk_by-part shelf_chain.next records.shelves records.first_shelf numbers few_shelves
          (part-of (length records.shelves) all_shelves numbers linked.shelves_once (λ k. omega (arith, shelf_count k))) linked.shelves.forward;
      entries = entries-walks records all_items few_items linked.items_once lists.entries (λ k. omega (arith, item_count k)) linked.entries;
      unused_items = walk_by-part item_chain.next records.items records.unused_items lists.unused_items few_items
          (part-of (length records.items) all_items lists.unused_items linked.items_once (λ k. omega (arith, item_count k))) linked.unused_items;
      unused_shelves = walk_by-part shelf_chain.next records.shelves records.unused_shelves lists.unused_shelves few_shelves
          (part-of (length records.shelves) all_shelves lists.unused_shelves linked.shelves_once (λ k. omega (arith, shelf_count k))) linked.unused_shelves;
    }

-- the lists that links spell are those that walks meet
pub linked-lists : (records : Records) (lists : Lists) → AreWalks records lists → walked_lists records ≡ lists
linked-lists records lists walks =
    ap (λ (w : Walked). record { entries = map (walked_entry records) w.met; unused_items = (unused_item_walk records).met; unused_shelves = (unused_shelf_walk records).met }) walks.shelves
    ∙ ap (λ es. record { entries = es; unused_items = (unused_item_walk records).met; unused_shelves = (unused_shelf_walk records).met }) (entries-walked records lists.entries walks.entries)
    ∙ ap (λ (w : Walked). record { entries = lists.entries; unused_items = w.met; unused_shelves = (unused_shelf_walk records).met }) walks.unused_items
    ∙ ap (λ (w : Walked). record { entries = lists.entries; unused_items = lists.unused_items; unused_shelves = w.met }) walks.unused_shelves

-- the numbers of the shelves whose lists walks meet
pub walked-numbers : (records : Records) (numbers : List ℕ) → shelf_numbers (map (walked_entry records) numbers) ≡ numbers
walked-numbers records [] = refl
walked-numbers records (n ∷ ns) = ap (λ ms. n ∷ ms) (walked-numbers records ns)
