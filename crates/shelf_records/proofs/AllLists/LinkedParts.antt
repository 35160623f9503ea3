-- What links spell, list by list, as a search goes along it.
use Rattle.std.proofs.Common.{◌≡◌, ℕ, ◌<◌, ◌≤◌, List, [], ◌∷◌, ◌++◌, length, map, arith}
use Rattle.std.specs.List.{AllByRecursion}
use Rattle.etagere_base.specs.Lists.{times}
use Rattle.etagere_base.proofs.TimesLemmas.{times-append}
use Rattle.etagere_links.specs.Lists.{HasEachOnce}
use Rattle.shelf_records.specs.RecordLists.{IsEntry, IsLinked, Records, first_free_of, first_item_of, free_walk, item_numbers, item_walk, shelf_numbers, shelf_walk, walked_entry, walked_lists}
use Rattle.shelf_records.specs.Records.{free_list, item_chain, shelf_chain}
use Rattle.shelf_records.proofs.AllLists.LinkedUnused.{three-count}
use Rattle.etagere_links.proofs.WalkedLists.{IsPart, part-of}
use Rattle.shelf_records.proofs.AllLists.LinkedWalks.{walked-numbers}
use Rattle.etagere_links.proofs.Tallies.{length-once}
use Rattle.shelf_records.proofs.Recorded.Members.{Each-member}
use Rattle.shelf_records.proofs.AllLists.Following.{IsLeft}

-- the shelves in use are records, each once
pub shelves-part : (records : Records) → IsLinked records (walked_lists records) → IsPart (length records.shelves) (shelf_walk records).met
shelves-part records linked =
    let numbers : shelf_numbers (walked_lists records).entries ≡ (shelf_walk records).met = walked-numbers records (shelf_walk records).met in
    rw (← numbers)
    (part-of (length records.shelves) (shelf_numbers (walked_lists records).entries ++ (walked_lists records).unused_shelves ++ []) (shelf_numbers (walked_lists records).entries) linked.shelves_once
    (λ k. omega (arith, three-count (shelf_numbers (walked_lists records).entries) (walked_lists records).unused_shelves [] k)))

-- a shelf in use is a record
pub shelf-within : (records : Records) (shelf : ℕ) → IsLinked records (walked_lists records) → 1 ≤ times shelf (shelf_walk records).met → shelf < length records.shelves
shelf-within records shelf linked stands = (shelves-part records linked).within shelf stands

-- the walk over the shelves begins with all of them
pub shelves-left : (records : Records) → IsLinked records (walked_lists records) → IsLeft shelf_chain.next records.shelves records.first_shelf 0 (shelf_walk records).met
shelves-left records linked =
    let numbers : shelf_numbers (walked_lists records).entries ≡ (shelf_walk records).met = walked-numbers records (shelf_walk records).met in
    let part : IsPart (length records.shelves) (shelf_walk records).met = shelves-part records linked in
    record {
      leads = rw (← numbers) linked.shelves.forward;
      within = part.within;
      enough = omega (arith, length-once (length records.shelves) (shelf_walk records).met part.once part.within);
    }

-- the free list of each shelf has records, each once
free-parts : (count : ℕ) (records : Records) (all : List ℕ) (numbers : List ℕ) → HasEachOnce count all → ((k : ℕ) → times k (item_numbers (map (walked_entry records) numbers)) ≤ times k all) → AllByRecursion (IsEntry records) (map (walked_entry records) numbers)
    → AllByRecursion (λ shelf. IsPart count (free_walk records shelf).met × IsEntry records (walked_entry records shelf)) numbers
free-parts count records all [] once less entries = tt
free-parts count records all (n ∷ ns) once less entries =
    let own : List ℕ = (walked_entry records n).items in
    let others : List ℕ = item_numbers (map (walked_entry records) ns) in (
      (part-of count all (free_walk records n).met once (λ k. omega (arith, less k, times-append k own others, entries.0.members k)), entries.0),
      free-parts count records all ns once (λ k. omega (arith, less k, times-append k own others)) entries.1,
    )

-- the free list of a shelf in use has records, each once, and links spell it
free-part : (records : Records) (shelf : ℕ) → IsLinked records (walked_lists records) → 1 ≤ times shelf (shelf_walk records).met → IsPart (length records.items) (free_walk records shelf).met × IsEntry records (walked_entry records shelf)
free-part records shelf linked stands =
    Each-member (λ shelf. IsPart (length records.items) (free_walk records shelf).met × IsEntry records (walked_entry records shelf)) (shelf_walk records).met shelf
    (free-parts (length records.items) records (item_numbers (walked_lists records).entries ++ (walked_lists records).unused_items ++ []) (shelf_walk records).met linked.items_once
    (λ k. omega (arith, three-count (item_numbers (walked_lists records).entries) (walked_lists records).unused_items [] k)) linked.entries)
    stands

-- no free item of a shelf in use stands twice
pub free-once : (records : Records) (shelf : ℕ) → IsLinked records (walked_lists records) → 1 ≤ times shelf (shelf_walk records).met → (k : ℕ) → times k (free_walk records shelf).met ≤ 1
free-once records shelf linked stands = (free-part records shelf linked stands).0.once

-- a free item of a shelf in use is a record
pub free-within : (records : Records) (shelf item : ℕ) → IsLinked records (walked_lists records) → 1 ≤ times shelf (shelf_walk records).met → 1 ≤ times item (free_walk records shelf).met → item < length records.items
free-within records shelf item linked stands among = (free-part records shelf linked stands).0.within item among

-- the walk along the free list of a shelf begins with all of it
pub free-left : (records : Records) (shelf : ℕ) → IsLinked records (walked_lists records) → 1 ≤ times shelf (shelf_walk records).met → IsLeft free_list.next records.items (first_free_of records.shelves shelf) 0 (free_walk records shelf).met
free-left records shelf linked stands =
    let part = free-part records shelf linked stands in
    record {
      leads = part.1.free_list.forward;
      within = part.0.within;
      enough = omega (arith, length-once (length records.items) (free_walk records shelf).met part.0.once part.0.within);
    }

-- the items of each shelf are records, each once, and links spell them
item-parts : (count : ℕ) (records : Records) (all : List ℕ) (numbers : List ℕ) → HasEachOnce count all → ((k : ℕ) → times k (item_numbers (map (walked_entry records) numbers)) ≤ times k all) → AllByRecursion (IsEntry records) (map (walked_entry records) numbers)
    → AllByRecursion (λ shelf. IsPart count (item_walk records shelf).met × IsEntry records (walked_entry records shelf)) numbers
item-parts count records all [] once less entries = tt
item-parts count records all (n ∷ ns) once less entries =
    let own : List ℕ = (walked_entry records n).items in
    let others : List ℕ = item_numbers (map (walked_entry records) ns) in (
      (part-of count all own once (λ k. omega (arith, less k, times-append k own others)), entries.0),
      item-parts count records all ns once (λ k. omega (arith, less k, times-append k own others)) entries.1,
    )

-- the walk along the items of a shelf begins with all of them
pub items-left : (records : Records) (shelf : ℕ) → IsLinked records (walked_lists records) → 1 ≤ times shelf (shelf_walk records).met → IsLeft item_chain.next records.items (first_item_of records.shelves shelf) 0 (item_walk records shelf).met
items-left records shelf linked stands =
    let part : IsPart (length records.items) (item_walk records shelf).met × IsEntry records (walked_entry records shelf) =
    Each-member (λ shelf. IsPart (length records.items) (item_walk records shelf).met × IsEntry records (walked_entry records shelf)) (shelf_walk records).met shelf
    (item-parts (length records.items) records (item_numbers (walked_lists records).entries ++ (walked_lists records).unused_items ++ []) (shelf_walk records).met linked.items_once
    (λ k. omega (arith, three-count (item_numbers (walked_lists records).entries) (walked_lists records).unused_items [] k)) linked.entries)
    stands in
    record {
      leads = part.1.items.forward;
      within = part.0.within;
      enough = omega (arith, length-once (length records.items) (item_walk records shelf).met part.0.once part.0.within);
    }
