-- The lists of the records of a shelf atlas: by walks, and by the links that spell them.
use Rattle.std.specs.Prelude.{ℕ, ◌≤◌, Option, None, List, [], ◌∷◌, ◌++◌, length, map}
use Rattle.std.specs.List.{AllByRecursion}
use Rattle.etagere_base.specs.Lists.{times}
use Rattle.shelf_records.specs.declared.records.LinkedItem.{LinkedItem}
use Rattle.shelf_records.specs.declared.records.LinkedShelf.{LinkedShelf}
use Rattle.shelf_records.specs.Chains.{IsChainIn, IsListIn}
use Rattle.shelf_records.specs.Records.{item_chain, free_list, shelf_chain}
use Rattle.etagere_links.specs.Walks.{Walked, walk_by}
use Rattle.etagere_links.specs.Edits.{field_at}
use Rattle.etagere_links.specs.Lists.{HasEachOnce}

-- the records of a shelf atlas, and the links to the first of its lists
pub record Records : Type 0 where
  pub shelves : List LinkedShelf
  pub items : List LinkedItem
  pub first_shelf : Option ℕ
  pub unused_items : Option ℕ
  pub unused_shelves : Option ℕ

-- the link to the first item of the shelf of this number
abbrev pub first_item_of : List LinkedShelf → ℕ → Option ℕ
first_item_of shelves number =
    field_at (λ (shelf : LinkedShelf). shelf.first_item) None shelves number

-- the link to the first of the free list of the shelf of this number
abbrev pub first_free_of : List LinkedShelf → ℕ → Option ℕ
first_free_of shelves number =
    field_at (λ (shelf : LinkedShelf). shelf.first_unallocated) None shelves number

-- the shelves in use
abbrev pub shelf_walk : Records → Walked
shelf_walk records = walk_by shelf_chain.next records.shelves records.first_shelf

-- the unused shelf records
abbrev pub unused_shelf_walk : Records → Walked
unused_shelf_walk records = walk_by shelf_chain.next records.shelves records.unused_shelves

-- the unused item records
abbrev pub unused_item_walk : Records → Walked
unused_item_walk records = walk_by item_chain.next records.items records.unused_items

-- the items of the shelf of this number
abbrev pub item_walk : Records → ℕ → Walked
item_walk records shelf =
    walk_by item_chain.next records.items (first_item_of records.shelves shelf)

-- the free list of the shelf of this number
abbrev pub free_walk : Records → ℕ → Walked
free_walk records shelf = walk_by free_list.next records.items (first_free_of records.shelves shelf)

-- the number of a shelf in use, and those of its items and of its free list
pub record Entry : Type 0 where
  pub number : ℕ
  pub items : List ℕ
  pub free_list : List ℕ

-- all lists of records: the shelves in use with their items, and what became unused
pub record Lists : Type 0 where
  pub entries : List Entry
  pub unused_items : List ℕ
  pub unused_shelves : List ℕ

-- the numbers of the shelves in use
abbrev pub shelf_numbers : List Entry → List ℕ
shelf_numbers [] = []
shelf_numbers (entry ∷ entries) = entry.number ∷ shelf_numbers entries

-- the numbers of the items in use
abbrev pub item_numbers : List Entry → List ℕ
item_numbers [] = []
item_numbers (entry ∷ entries) = entry.items ++ item_numbers entries

-- the lists of the shelf of this number that walks meet
abbrev pub walked_entry : Records → ℕ → Entry
walked_entry records number =
    record {
      number = number;
      items = (item_walk records number).met;
      free_list = (free_walk records number).met;
    }

-- the lists that walks meet
abbrev pub walked_lists : Records → Lists
walked_lists records =
    record {
      entries = map (walked_entry records) (shelf_walk records).met;
      unused_items = (unused_item_walk records).met;
      unused_shelves = (unused_shelf_walk records).met;
    }

-- links spell the items of a shelf and its free list; these are items of it
pub record IsEntry (records : Records) (entry : Entry) : Type 0 where
  pub items : IsChainIn item_chain records.items (first_item_of records.shelves entry.number)
      entry.items
  pub free_list : IsChainIn free_list records.items (first_free_of records.shelves entry.number)
      entry.free_list
  pub members : (number : ℕ) → times number entry.free_list ≤ times number entry.items

-- links spell all lists, and each record stands in one of them, once, or is one of those in no list
pub record IsLinkedExcept (records : Records) (lists : Lists) (loose_items loose_shelves : List ℕ)
    : Type 0 where
  pub shelves : IsChainIn shelf_chain records.shelves records.first_shelf
      (shelf_numbers lists.entries)
  pub entries : AllByRecursion (IsEntry records) lists.entries
  pub unused_items : IsListIn item_chain records.items records.unused_items lists.unused_items
  pub unused_shelves : IsListIn shelf_chain records.shelves records.unused_shelves
      lists.unused_shelves
  pub shelves_once : HasEachOnce (length records.shelves)
      (shelf_numbers lists.entries ++ lists.unused_shelves ++ loose_shelves)
  pub items_once : HasEachOnce (length records.items)
      (item_numbers lists.entries ++ lists.unused_items ++ loose_items)

-- links spell all lists, and each record stands in one of them, once
abbrev pub IsLinked : Records → Lists → Type 0
IsLinked records lists = IsLinkedExcept records lists [] []
