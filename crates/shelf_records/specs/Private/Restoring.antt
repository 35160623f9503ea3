-- What the walks through a snapshot have met, and what a refused one says.
use Rattle.std.specs.Prelude.{◌≡◌, ℕ, Option, None, List, [], ◌∷◌, ◌++◌, length, map}
use Rattle.etagere_base.specs.declared.faults.RestoreFault.{RestoreFault}
use Rattle.etagere_base.specs.declared.faults.RestoreFault.TheVariants as faults
use Rattle.std.specs.List.{AllByRecursion}
use Rattle.etagere_links.specs.declared.marking.WalkFault.{WalkFault}
use Rattle.etagere_links.specs.declared.marking.WalkFault.TheVariants.{OutOfRange, Marked, Circular, Memory}
use Rattle.etagere_links.specs.Edits.{link_at}
use Rattle.shelf_records.specs.ListEdits.{AreFitting}
use Rattle.shelf_records.specs.Chains.{LeadsBack}
use Rattle.etagere_links.specs.Links.{bits_of, link_of, no_link}
use Rattle.shelf_records.specs.RecordLists.{Records, Entry, first_free_of, first_item_of, free_walk, item_numbers, item_walk, shelf_walk, unused_item_walk, unused_shelf_walk}
use Rattle.etagere_links.specs.Lists.{HasEachOnce}
use Rattle.shelf_records.specs.Records.{item_chain, free_list, shelf_chain}
use Rattle.shelf_records.specs.AtlasRecords.{AtlasRecords, walked_entries}

-- the fault of a snapshot where a walk along a free list is refused
abbrev pub free_fault : WalkFault → RestoreFault
free_fault OutOfRange = faults.Link
free_fault Marked = faults.FreeList
free_fault Circular = faults.FreeList
free_fault Memory = faults.Memory

-- the link fits its bits
abbrev pub Fits : Option ℕ → Type 0
Fits link = link_of (bits_of link) ≡ link

-- these are the shelves in use; each shelf record is one of them or unused, and both lists end at none
pub record HasShelfLists (atlas : AtlasRecords) (numbers : List ℕ) : Type 0 where
  pub met : numbers ≡ (shelf_walk atlas.records).met
  pub end : (shelf_walk atlas.records).end ≡ no_link
  pub unused_end : (unused_shelf_walk atlas.records).end ≡ no_link
  pub once : HasEachOnce (length atlas.records.shelves) ((shelf_walk atlas.records).met ++ (unused_shelf_walk atlas.records).met)
  pub next_fits : AreFitting shelf_chain.next atlas.records.shelves
  pub first_fits : Fits atlas.records.first_shelf
  pub unused_fits : Fits atlas.records.unused_shelves

-- the chain of items of a shelf ends at none
pub record HasChain (records : Records) (number : ℕ) : Type 0 where
  pub end : (item_walk records number).end ≡ no_link
  pub first_fits : Fits (first_item_of records.shelves number)

-- the free list of a shelf ends at none
pub record HasFree (records : Records) (number : ℕ) : Type 0 where
  pub end : (free_walk records number).end ≡ no_link
  pub first_fits : Fits (first_free_of records.shelves number)

-- the items of the shelf of this number that its walk meets
abbrev pub chain_entry : Records → ℕ → Entry
chain_entry records number = record { number = number; items = (item_walk records number).met; free_list = [] }

-- how many items of the shelf of this number its walk meets
abbrev pub items_met : Records → ℕ → ℕ
items_met records number = length (item_walk records number).met

-- how many records the walk along the free list of this shelf meets
abbrev pub frees_met : Records → ℕ → ℕ
frees_met records number = length (free_walk records number).met

-- each item record is an item of a shelf in use or unused, and all lists end at none
pub record HasItemLists (atlas : AtlasRecords) : Type 0 where
  pub chains : AllByRecursion (HasChain atlas.records) (shelf_walk atlas.records).met
  pub unused_end : (unused_item_walk atlas.records).end ≡ no_link
  pub once : HasEachOnce (length atlas.records.items)
      (item_numbers (map (chain_entry atlas.records) (shelf_walk atlas.records).met)
      ++ (unused_item_walk atlas.records).met)
  pub next_fits : AreFitting item_chain.next atlas.records.items
  pub unused_fits : Fits atlas.records.unused_items

-- the free items of all shelves
abbrev pub free_numbers : List Entry → List ℕ
free_numbers [] = []
free_numbers (entry ∷ entries) = entry.free_list ++ free_numbers entries

-- each record is in one list, and each list ends at none, and the shelves link back to the one before
pub record IsWalked (atlas : AtlasRecords) : Type 0 where
  pub shelves : HasShelfLists atlas (shelf_walk atlas.records).met
  pub back : LeadsBack (link_at shelf_chain.previous atlas.records.shelves) None (shelf_walk atlas.records).met
  pub items : HasItemLists atlas
  pub free : AllByRecursion (HasFree atlas.records) (shelf_walk atlas.records).met
  pub free_fits : AreFitting free_list.next atlas.records.items

-- these are the numbers of the shelves in use, their items and how many each has, their free lists and how many each has,
-- and the unused items; the lists stand one behind the other
pub record HasLists (atlas : AtlasRecords) (numbers items item_counts frees free_counts unused : List ℕ) : Type 0 where
  pub in_use : numbers ≡ (shelf_walk atlas.records).met
  pub chains : items ≡ item_numbers (map (chain_entry atlas.records) (shelf_walk atlas.records).met)
  pub chain_counts : item_counts ≡ map (items_met atlas.records) (shelf_walk atlas.records).met
  pub free_lists : frees ≡ free_numbers (walked_entries atlas)
  pub list_counts : free_counts ≡ map (frees_met atlas.records) (shelf_walk atlas.records).met
  pub left_over : unused ≡ (unused_item_walk atlas.records).met
