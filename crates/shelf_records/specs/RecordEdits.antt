-- What the steps of an allocation and of a return do to the records of a shelf atlas.
use Rattle.std.specs.Prelude.{ℕ, Bool, Option, None, Some, option_and_then, List, [], ◌∷◌, ◌++◌, take}
use Rattle.shelf_records.specs.declared.records.LinkedItem.{LinkedItem}
use Rattle.shelf_records.specs.declared.records.LinkedShelf.{LinkedShelf}
use Rattle.etagere_links.specs.Edits.{changed_by, link_at}
use Rattle.shelf_records.specs.ListEdits.{unlinked, first_without, linked_between, made_unused}
use Rattle.shelf_records.specs.RecordLists.{Records, first_item_of, first_free_of}
use Rattle.shelf_records.specs.Records.{item_chain, free_list, shelf_chain}

-- the shelves with another first item in the one of this number
abbrev pub with_first_item : ℕ → Option ℕ → List LinkedShelf → List LinkedShelf
with_first_item shelf link shelves =
    changed_by (Some shelf) (λ (here : LinkedShelf). record here { first_item = link }) shelves

-- the shelves with another first of the free list in the one of this number
abbrev pub with_first_free : ℕ → Option ℕ → List LinkedShelf → List LinkedShelf
with_first_free shelf link shelves =
    changed_by (Some shelf) (λ (here : LinkedShelf). record here { first_unallocated = link })
    shelves

-- the shelves with another height of the one of this number
abbrev pub with_height : ℕ → ℕ → List LinkedShelf → List LinkedShelf
with_height shelf height shelves =
    changed_by (Some shelf) (λ (here : LinkedShelf). record here { height = height }) shelves

-- the shelves where the one of this number says whether it is empty
abbrev pub with_empty : ℕ → Bool → List LinkedShelf → List LinkedShelf
with_empty shelf is_empty shelves =
    changed_by (Some shelf) (λ (here : LinkedShelf). record here { is_empty = is_empty }) shelves

-- the items with another width of the one of this number
abbrev pub with_width : ℕ → ℕ → List LinkedItem → List LinkedItem
with_width number width items =
    changed_by (Some number) (λ (here : LinkedItem). record here { width = width }) items

-- the items where the one of this number says whether it is allocated
abbrev pub with_allocated : ℕ → Bool → List LinkedItem → List LinkedItem
with_allocated number allocated items =
    changed_by (Some number) (λ (here : LinkedItem). record here { allocated = allocated }) items

-- an item taken out of its shelf
abbrev pub item_unlinked : ℕ → ℕ → Records → Records
item_unlinked shelf number records =
    record records {
      items = unlinked item_chain number records.items;
      shelves =
          with_first_item shelf
          (first_without (link_at item_chain.previous records.items number)
          (link_at item_chain.next records.items number) (first_item_of records.shelves shelf))
          records.shelves;
    }

-- an item put after another one of a shelf
abbrev pub item_inserted_after : ℕ → ℕ → Records → Records
item_inserted_after previous number records =
    record records {
      items =
          linked_between item_chain (Some previous) (link_at item_chain.next records.items previous)
          number records.items;
    }

-- an item taken out of the free list of its shelf
abbrev pub free_unlinked : ℕ → ℕ → Records → Records
free_unlinked shelf number records =
    record records {
      items = unlinked free_list number records.items;
      shelves =
          with_first_free shelf
          (first_without (link_at free_list.previous records.items number)
          (link_at free_list.next records.items number) (first_free_of records.shelves shelf))
          records.shelves;
    }

-- an item put in front of the free list of its shelf
abbrev pub free_inserted_front : ℕ → ℕ → Records → Records
free_inserted_front shelf number records =
    record records {
      items =
          linked_between free_list None (first_free_of records.shelves shelf) number records.items;
      shelves = with_first_free shelf (Some number) records.shelves;
    }

-- an item put after another one in the free list of its shelf
abbrev pub free_inserted_after : ℕ → ℕ → Records → Records
free_inserted_after previous number records =
    record records {
      items =
          linked_between free_list (Some previous) (link_at free_list.next records.items previous)
          number records.items;
    }

-- an unused item record
abbrev pub item_made_unused : ℕ → Records → Records
item_made_unused number records =
    record records {
      items = made_unused item_chain records.unused_items number records.items;
      unused_items = Some number;
    }

-- the item record taken that became unused last
abbrev pub item_taken : Records → Records
item_taken records =
    record records {
      unused_items = option_and_then (link_at item_chain.next records.items)
          records.unused_items;
    }

-- a shelf taken out of the chain of shelves
abbrev pub shelf_unlinked : ℕ → Records → Records
shelf_unlinked number records =
    record records {
      shelves = unlinked shelf_chain number records.shelves;
      first_shelf =
          first_without (link_at shelf_chain.previous records.shelves number)
          (link_at shelf_chain.next records.shelves number) records.first_shelf;
    }

-- a shelf put after another one
abbrev pub shelf_inserted_after : ℕ → ℕ → Records → Records
shelf_inserted_after previous number records =
    record records {
      shelves =
          linked_between shelf_chain (Some previous)
          (link_at shelf_chain.next records.shelves previous) number records.shelves;
    }

-- an unused shelf record
abbrev pub shelf_made_unused : ℕ → Records → Records
shelf_made_unused number records =
    record records {
      shelves = made_unused shelf_chain records.unused_shelves number records.shelves;
      unused_shelves = Some number;
    }

-- the shelf record taken that became unused last
abbrev pub shelf_taken : Records → Records
shelf_taken records =
    record records {
      unused_shelves = option_and_then (link_at shelf_chain.next records.shelves)
          records.unused_shelves;
    }

-- an item record changed
abbrev pub item_changed : ℕ → (LinkedItem → LinkedItem) → Records → Records
item_changed number change records =
    record records { items = changed_by (Some number) change records.items }

-- a shelf record changed
abbrev pub shelf_changed : ℕ → (LinkedShelf → LinkedShelf) → Records → Records
shelf_changed number change records =
    record records { shelves = changed_by (Some number) change records.shelves }

-- an item record made
abbrev pub item_made : LinkedItem → Records → Records
item_made item records = record records { items = records.items ++ item ∷ [] }

-- a shelf record made
abbrev pub shelf_made : LinkedShelf → Records → Records
shelf_made shelf records = record records { shelves = records.shelves ++ shelf ∷ [] }

-- so many records of each kind
abbrev pub truncated : ℕ → Records → Records
truncated count records =
    record records { shelves = take count records.shelves; items = take count records.items }

-- records that begin with the shelf of number 0, and none of which is unused
abbrev pub restarted : Records → Records
restarted records = record records { first_shelf = Some 0; unused_items = None; unused_shelves = None }
