-- A return on linked records, step by step: what merges keeps the record of the earlier place, and
-- makes the other unused.
use Rattle.std.specs.Prelude.{◌≡◌, ℕ, ◌+◌, ◌<◌, ◌==◌, Bool, false, ◌&&◌, not, Option, None, Some, is_none, List, length, if◌then◌else◌}
use Rattle.shelf_records.specs.declared.records.LinkedItem.{LinkedItem}
use Rattle.shelf_records.specs.declared.records.LinkedShelf.{LinkedShelf}
use Rattle.etagere_links.specs.Edits.{link_at}
use Rattle.shelf_records.specs.Neighbours.{HasNeighbours, NamesOneOf}
use Rattle.shelf_records.specs.RecordEdits.{shelf_changed}
use Rattle.shelf_records.specs.RecordLists.{Records, first_free_of, first_item_of}
use Rattle.shelf_records.specs.RecordMerges.{free_absorbed, allocated_absorbed, item_freed, shelf_absorbed}
use Rattle.shelf_records.specs.Records.{free_list, item_chain, shelf_chain}
use Rattle.shelf_records.specs.AtlasRecords.{along_of, height_of, is_allocated_at, is_empty_at, shelf_of, width_of}

-- records after a step, and how many item records became unused
pub record Step : Type 0 where
  pub records : Records
  pub made_unused : ℕ

-- the item that a link names, where that is free
abbrev pub free_named : List LinkedItem → Option ℕ → Option ℕ
free_named items None = None
free_named items (Some number) = if is_allocated_at items number then None else Some number

-- the item after one, where that is free
abbrev pub free_next : List LinkedItem → ℕ → Option ℕ
free_next items number = free_named items (link_at item_chain.next items number)

-- the item before one, where that is free
abbrev pub free_previous : List LinkedItem → ℕ → Option ℕ
free_previous items number = free_named items (link_at item_chain.previous items number)

-- an allocated item takes the place of the next one, if any
abbrev pub next_absorbed : ℕ → ℕ → Option ℕ → Records → Step
next_absorbed shelf number None records = record { records = records; made_unused = 0 }
next_absorbed shelf number (Some next) records =
    record {
      records =
          free_absorbed shelf number next
          (width_of records.items number + width_of records.items next) records;
      made_unused = 1;
    }

-- the previous item, if any, takes the place of an allocated one, which becomes free otherwise
abbrev pub freed_after : ℕ → ℕ → Option ℕ → Records → Step
freed_after shelf number None records =
    record { records = item_freed shelf number records; made_unused = 0 }
freed_after shelf number (Some previous) records =
    record {
      records =
          allocated_absorbed shelf previous number
          (width_of records.items previous + width_of records.items number) records;
      made_unused = 1;
    }

-- what remains of a freed item: the free one before it, if there is one, or else itself
abbrev pub remaining_item : ℕ → Option ℕ → ℕ
remaining_item number None = number
remaining_item number (Some previous) = previous

-- a link names the one item of a list, and that is free
abbrev pub names_one_free : List LinkedItem → Option ℕ → Bool
names_one_free items None = false
names_one_free items (Some number) =
    not (is_allocated_at items number) && is_none (link_at item_chain.next items number)

-- a shelf has one item, and that is free
abbrev pub has_one_free : ℕ → Records → Bool
has_one_free shelf records = names_one_free records.items (first_item_of records.shelves shelf)

-- a shelf says whether it is empty
abbrev pub emptiness_said : ℕ → Records → Records
emptiness_said shelf records =
    shelf_changed shelf
    (λ (here : LinkedShelf).
    record here { is_empty = has_one_free shelf records })
    records

-- two shelves say that they are empty, and stand in one column
abbrev pub are_both_empty : List LinkedShelf → ℕ → ℕ → Bool
are_both_empty shelves shelf next =
    along_of shelves shelf == along_of shelves next
    && (is_empty_at shelves shelf && is_empty_at shelves next)

-- the shelf that a link names, where it and the one before it are empty and stand in one column
abbrev pub empty_named : List LinkedShelf → ℕ → Option ℕ → Option ℕ
empty_named shelves shelf None = None
empty_named shelves shelf (Some next) =
    if are_both_empty shelves shelf next then Some next else None

-- the shelf after one, where both are empty and stand in one column
abbrev pub empty_next : List LinkedShelf → ℕ → Option ℕ
empty_next shelves shelf = empty_named shelves shelf (link_at shelf_chain.next shelves shelf)

-- the shelf that a link names, where it and the one after it are empty and stand in one column
abbrev pub empty_named_before : List LinkedShelf → ℕ → Option ℕ → Option ℕ
empty_named_before shelves shelf None = None
empty_named_before shelves shelf (Some previous) =
    if are_both_empty shelves previous shelf then Some previous else None

-- the shelf before one, where both are empty and stand in one column
abbrev pub empty_previous : List LinkedShelf → ℕ → Option ℕ
empty_previous shelves shelf =
    empty_named_before shelves shelf (link_at shelf_chain.previous shelves shelf)

-- an empty shelf takes the place of the next one, if any, whose item is the one named
abbrev pub shelf_of_item_absorbed : ℕ → ℕ → Option ℕ → Records → Step
shelf_of_item_absorbed shelf next None records = record { records = records; made_unused = 0 }
shelf_of_item_absorbed shelf next (Some item) records =
    record {
      records =
          shelf_absorbed shelf next item
          (height_of records.shelves shelf + height_of records.shelves next) records;
      made_unused = 1;
    }

-- an empty shelf takes the place of the next one, if any
abbrev pub shelf_next_absorbed : ℕ → Option ℕ → Records → Step
shelf_next_absorbed shelf None records = record { records = records; made_unused = 0 }
shelf_next_absorbed shelf (Some next) records =
    shelf_of_item_absorbed shelf next (first_item_of records.shelves next) records

-- a shelf takes the place of the next one, where both are empty and stand in one column
abbrev pub shelf_merged : ℕ → Records → Step
shelf_merged shelf records = shelf_next_absorbed shelf (empty_next records.shelves shelf) records

-- a shelf that a link names takes the place of the next one, where both are empty and stand in one
-- column
abbrev pub named_shelf_merged : Option ℕ → Records → Step
named_shelf_merged None records = record { records = records; made_unused = 0 }
named_shelf_merged (Some shelf) records = shelf_merged shelf records

-- the item becomes free, and it and its free neighbours become one
abbrev pub item_merged : ℕ → ℕ → Records → Step
item_merged shelf number records =
    let one = next_absorbed shelf number (free_next records.items number) records in
    let two = freed_after shelf number (free_previous one.records.items number) one.records in
    record { records = two.records; made_unused = one.made_unused + two.made_unused }

-- the item that remains where one was freed and merged
abbrev pub remaining_in : ℕ → ℕ → Records → ℕ
remaining_in shelf number records =
    let one = next_absorbed shelf number (free_next records.items number) records in
    remaining_item number (free_previous one.records.items number)

-- how wide the item is that remains
abbrev pub merged_width : ℕ → ℕ → Records → ℕ
merged_width shelf number records =
    width_of (item_merged shelf number records).records.items (remaining_in shelf number records)

-- an item stands alone in its shelf
abbrev pub is_alone : List LinkedItem → ℕ → Bool
is_alone items number =
    is_none (link_at item_chain.previous items number)
    && is_none (link_at item_chain.next items number)

-- the shelf and its empty neighbours in its column become one, where it is empty
abbrev pub shelves_merged : ℕ → Records → Step
shelves_merged shelf records =
    let one = shelf_merged shelf records in
    let two =
    named_shelf_merged (link_at shelf_chain.previous one.records.shelves shelf) one.records in
    record { records = two.records; made_unused = one.made_unused + two.made_unused }

-- a return: the item is freed and merged, and then its shelf is
abbrev pub after_return : ℕ → Records → Step
after_return number records =
    let shelf = shelf_of records.items number in
    let one = item_merged shelf number records in
    let two = shelves_merged shelf (emptiness_said shelf one.records) in
    record { records = two.records; made_unused = one.made_unused + two.made_unused }

-- the records after the item of a number was returned
abbrev pub item_returned : ℕ → Records → Records
item_returned number records = (after_return number records).records

-- how many item records a return makes unused
abbrev pub unused_by : ℕ → Records → ℕ
unused_by number records = (after_return number records).made_unused

-- the width of an item and of another one, if any, fit 16 bits together
abbrev pub WidthsFit : ℕ → Option ℕ → List LinkedItem → Type 0
WidthsFit number other items =
    (n : ℕ) → other ≡ Some n → width_of items number + width_of items n < 65536

-- the heights of a shelf and of the next one, if both are empty, fit 16 bits together
abbrev pub HeightsFit : ℕ → List LinkedShelf → Type 0
HeightsFit shelf shelves =
    (n : ℕ) → empty_next shelves shelf ≡ Some n
    → height_of shelves shelf + height_of shelves n < 65536

-- a shelf and an item are there, and the item's neighbours, and the first of the shelf's free list
pub record AreThere (shelf number : ℕ) (records : Records) : Type 0 where
  pub in_range : shelf < length records.shelves
  pub item : HasNeighbours item_chain records.items number
  pub first_free : NamesOneOf records.items (first_free_of records.shelves shelf)

-- where the item after one is free, it is there, and so are its neighbours in the shelf and in the
-- free list
pub record FreeNextIsThere (number : ℕ) (items : List LinkedItem) : Type 0 where
  pub in_shelf : (n : ℕ) → free_next items number ≡ Some n → HasNeighbours item_chain items n
  pub in_free_list : (n : ℕ) → free_next items number ≡ Some n → HasNeighbours free_list items n

-- a shelf and its neighbours are there, and where the next one is empty too, its neighbours and its first item
pub record IsShelfThere (shelf : ℕ) (records : Records) : Type 0 where
  pub here : HasNeighbours shelf_chain records.shelves shelf
  pub next :
      (n : ℕ) → empty_next records.shelves shelf ≡ Some n → HasNeighbours shelf_chain records.shelves n
  pub item :
      (n : ℕ) → empty_next records.shelves shelf ≡ Some n
      → NamesOneOf records.items (first_item_of records.shelves n)

-- what freeing and merging an item adds up fits 16 bits, and all that it reads is there
pub record CanMergeItem (shelf number : ℕ) (records : Records) : Type 0 where
  pub here : AreThere shelf number records
  pub after : FreeNextIsThere number records.items
  pub next : WidthsFit number (free_next records.items number) records.items
  pub absorbed :
      (let one = next_absorbed shelf number (free_next records.items number) records in
      AreThere shelf number one.records)
  pub previous :
      (let one = next_absorbed shelf number (free_next records.items number) records in
      WidthsFit number (free_previous one.records.items number) one.records.items)

-- the item that remains is there, and stands alone in its shelf just where this is one free item; so
-- far the shelf says that it isn't
pub record IsRemaining (shelf number : ℕ) (records : Records) : Type 0 where
  pub there :
      remaining_in shelf number records < length (item_merged shelf number records).records.items
  pub alone :
      has_one_free shelf (item_merged shelf number records).records
      ≡ is_alone (item_merged shelf number records).records.items (remaining_in shelf number records)
  pub in_use : is_empty_at (item_merged shelf number records).records.shelves shelf ≡ false

-- the shelf before one links to it
abbrev pub IsLinkedBack : ℕ → List LinkedShelf → Type 0
IsLinkedBack shelf shelves =
    (n : ℕ) → link_at shelf_chain.previous shelves shelf ≡ Some n
    → link_at shelf_chain.next shelves n ≡ Some shelf

-- what merging a shelf with its neighbours adds up fits 16 bits, and once the next one is merged the one before links to it
pub record CanMergeShelves (shelf : ℕ) (records : Records) : Type 0 where
  pub next : HeightsFit shelf records.shelves
  pub previous :
      (let one = shelf_merged shelf records in
      (n : ℕ) → link_at shelf_chain.previous one.records.shelves shelf ≡ Some n
      → HeightsFit n one.records.shelves)
  pub linked : (let one = shelf_merged shelf records in IsLinkedBack shelf one.records.shelves)

-- what a return adds up fits 16 bits, and all that it reads is there
pub record CanReturn (number : ℕ) (records : Records) : Type 0 where
  pub item : CanMergeItem (shelf_of records.items number) number records
  pub remaining : IsRemaining (shelf_of records.items number) number records
  pub shelves :
      CanMergeShelves (shelf_of records.items number)
      (emptiness_said (shelf_of records.items number)
      (item_merged (shelf_of records.items number) number records).records)
  pub linked :
      IsLinkedBack (shelf_of records.items number)
      (emptiness_said (shelf_of records.items number)
      (item_merged (shelf_of records.items number) number records).records).shelves
