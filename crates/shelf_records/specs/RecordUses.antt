-- What putting records to use does: the one that became unused last, or a new one after all others.
use Rattle.std.specs.Prelude.{ℕ, zero, suc, ◌+◌, ◌%◌, Bool, true, false, Option, None, Some, option_and_then, IfSome, ◌<◌, List, [], ◌∷◌, ◌++◌, length, if◌then◌else◌}
use Rattle.shelf_records.specs.declared.records.LinkedItem.{LinkedItem}
use Rattle.shelf_records.specs.declared.records.LinkedShelf.{LinkedShelf}
use Rattle.shelf_records.specs.declared.uses.Rests.{Rests}
use Rattle.etagere_links.specs.Edits.{changed_by, link_at}
use Rattle.shelf_records.specs.Families.{Family}
use Rattle.etagere_links.specs.Links.{no_link}
use Rattle.shelf_records.specs.RecordLists.{Records}
use Rattle.shelf_records.specs.Records.{item_chain, shelf_chain}

-- so many new records are needed to put so many to use
abbrev pub missing : {T : Type 0} → Family T → ℕ → Option ℕ → List T → ℕ
missing family zero unused records = 0
missing family (suc wanted) None records = suc wanted
missing family (suc wanted) (Some number) records =
    missing family wanted (link_at family.next records number) records

-- the number of the record that is put to use, where one is wanted
abbrev pub number_used : {T : Type 0} → Bool → Option ℕ → List T → Option ℕ
number_used false unused records = None
number_used true None records = Some (length records)
number_used true (Some number) records = Some number

-- the record that became unused last, once one was put to use where one is wanted
abbrev pub unused_after : {T : Type 0} → Family T → Bool → Option ℕ → List T → Option ℕ
unused_after family false unused records = unused
unused_after family true unused records = option_and_then (link_at family.next records) unused

-- a new item record
abbrev pub new_item : LinkedItem
new_item =
    record {
      x = 0;
      width = 0;
      prev = None;
      next = None;
      prev_unallocated = None;
      next_unallocated = None;
      shelf = 0;
      allocated = false;
      generation = 1;
    }

-- a new shelf record
abbrev pub new_shelf : LinkedShelf
new_shelf =
    record {
      x = 0;
      y = 0;
      height = 0;
      prev = None;
      next = None;
      first_item = None;
      first_unallocated = None;
      is_empty = false;
    }

-- generations are counted modulo this
abbrev pub generation_modulus : ℕ
generation_modulus = 65536

-- an item record that is put to use again
abbrev pub used_again : LinkedItem → LinkedItem
used_again item = record item { generation = (item.generation + 1) % generation_modulus }

-- the item records once one was put to use, where one is wanted
abbrev pub items_used : Bool → Option ℕ → List LinkedItem → List LinkedItem
items_used false unused items = items
items_used true None items = items ++ new_item ∷ []
items_used true (Some number) items = changed_by (Some number) used_again items

-- the shelf records once one was put to use, where one is wanted
abbrev pub shelves_used : Bool → Option ℕ → List LinkedShelf → List LinkedShelf
shelves_used false unused shelves = shelves
shelves_used true None shelves = shelves ++ new_shelf ∷ []
shelves_used true (Some number) shelves = shelves

-- the records once an item record was put to use, where one is wanted
abbrev pub item_used : Bool → Records → Records
item_used wanted records =
    record records {
      items = items_used wanted records.unused_items records.items;
      unused_items = unused_after item_chain wanted records.unused_items records.items;
    }

-- the records once a shelf record was put to use, where one is wanted
abbrev pub shelf_used : Bool → Records → Records
shelf_used wanted records =
    record records {
      shelves = shelves_used wanted records.unused_shelves records.shelves;
      unused_shelves = unused_after shelf_chain wanted records.unused_shelves records.shelves;
    }

-- the records once those for the rest of a shelf were put to use, where it is split
abbrev pub shelf_rest_used : Bool → Records → Records
shelf_rest_used of_shelf records = shelf_used of_shelf (item_used of_shelf records)

-- the records once those for all rests were put to use: of a shelf that is split, then of an item
-- that is
abbrev pub rests_used : Bool → Bool → Records → Records
rests_used of_shelf of_item records = item_used of_item (shelf_rest_used of_shelf records)

-- so many new records are needed, of items and of shelves, for the rests of a split
abbrev pub rests_missing : Bool → Bool → Records → ℕ
rests_missing of_shelf of_item records =
    missing item_chain ((if of_shelf then 1 else 0) + (if of_item then 1 else 0)) records.unused_items
    records.items
    + missing shelf_chain (if of_shelf then 1 else 0) records.unused_shelves records.shelves

-- the numbers are those of links
pub record AreSmall (rests : Rests) : Type 0 where
  pub shelf : IfSome rests.shelf (λ number. number < no_link)
  pub shelf_item : IfSome rests.shelf_item (λ number. number < no_link)
  pub item : IfSome rests.item (λ number. number < no_link)

-- the numbers of the records that are put to use for the rests
abbrev pub rests_of : Bool → Bool → Records → Rests
rests_of of_shelf of_item records =
    record {
      shelf = number_used of_shelf records.unused_shelves records.shelves;
      shelf_item = number_used of_shelf records.unused_items records.items;
      item =
          number_used of_item (item_used of_shelf records).unused_items
          (item_used of_shelf records).items;
    }
