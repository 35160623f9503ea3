-- What taking a placement does to linked records, which it names by their numbers.
use Rattle.std.specs.Prelude.{ℕ, ◌+◌, ◌-◌, ◌*◌, ◌<◌, ◌≤◌, true, false, Option, None, Some, IfSome, List, length}
use Rattle.etagere_base.specs.Frames.{longest_side}
use Rattle.etagere_base.specs.Ids.{index_modulus}
use Rattle.shelf_records.specs.declared.records.LinkedItem.{LinkedItem}
use Rattle.shelf_records.specs.declared.records.LinkedShelf.{LinkedShelf}
use Rattle.etagere_links.specs.Links.{no_link}
use Rattle.shelf_records.specs.RecordEdits.{item_changed, shelf_changed}
use Rattle.shelf_records.specs.RecordLists.{Records}
use Rattle.etagere_links.specs.Edits.{field_at}
use Rattle.shelf_records.specs.Neighbours.{HasNeighbours}
use Rattle.shelf_records.specs.Records.{free_list, item_chain, shelf_chain}
use Rattle.shelf_records.specs.RecordMerges.{item_given, front_given, shelf_split}
use Rattle.shelf_records.specs.RecordUses.{new_item, new_shelf, rests_of, rests_used}
use Rattle.shelf_model.specs.Choice.{Placement}
use Rattle.shelf_notes.specs.Private.Pending.{Notes, noted_as, with_entry}

-- the item record of this number
abbrev pub item_record : List LinkedItem → ℕ → LinkedItem
item_record items number = field_at (λ (item : LinkedItem). item) new_item items number

-- the shelf record of this number
abbrev pub shelf_record : List LinkedShelf → ℕ → LinkedShelf
shelf_record shelves number = field_at (λ (shelf : LinkedShelf). shelf) new_shelf shelves number

-- the record of a free item that begins there, of this width, in the shelf of this number, in no
-- list
abbrev pub free_item : ℕ → ℕ → ℕ → ℕ → LinkedItem
free_item x width shelf generation =
    record {
      x = x;
      width = width;
      prev = None;
      next = None;
      prev_unallocated = None;
      next_unallocated = None;
      shelf = shelf;
      allocated = false;
      generation = generation;
    }

-- the record of the rest of a shelf above this height, with this item
abbrev pub rest_shelf : LinkedShelf → ℕ → ℕ → LinkedShelf
rest_shelf whole height item =
    record {
      x = whole.x;
      y = whole.y + height;
      height = whole.height - height;
      prev = None;
      next = None;
      first_item = Some item;
      first_unallocated = Some item;
      is_empty = true;
    }

-- the records once the shelf of a placement was split, where these are those of the rest; the width
-- is its column's
abbrev pub with_shelf_rest : ℕ → Placement → Option ℕ → Option ℕ → Records → Records
with_shelf_rest column_width found None item records = records
with_shelf_rest column_width found (Some shelf) None records = records
with_shelf_rest column_width found (Some shelf) (Some item) records =
    shelf_split found.shelf shelf item found.height
    (rest_shelf (shelf_record records.shelves found.shelf) found.height item)
    (free_item (shelf_record records.shelves found.shelf).x column_width shelf
    (item_record records.items item).generation)
    records

-- the record of the rest of an item beyond this width, in the shelf of this number
abbrev pub rest_item : LinkedItem → ℕ → ℕ → ℕ → LinkedItem
rest_item whole width shelf generation =
    free_item (whole.x + width) (whole.width - width) shelf generation

-- the records once that of the rest of the item of a placement was written
abbrev pub with_rest_written : Placement → ℕ → Records → Records
with_rest_written found rest records =
    item_changed rest
    (λ _. rest_item (item_record records.items found.item) found.width found.shelf
    (item_record records.items rest).generation)
    records

-- the records once the item of a placement was given: its front, where this is the record of the
-- rest, else all of it
abbrev pub with_item_given : Placement → Option ℕ → Records → Records
with_item_given found None records = item_given found.shelf found.item records
with_item_given found (Some rest) records =
    front_given found.shelf found.item rest found.width (with_rest_written found rest records)

-- the records once those for the rests of a placement were put to use
abbrev pub rests_used_for : Placement → Records → Records
rests_used_for found records = rests_used found.splits_shelf found.splits_item records

-- the records once its shelf was split, where that is due
abbrev pub shelf_split_for : ℕ → Placement → Records → Records
shelf_split_for column_width found records =
    let rests = rests_of found.splits_shelf found.splits_item records in
    with_shelf_rest column_width found rests.shelf rests.shelf_item (rests_used_for found records)

-- the records after a placement was taken
abbrev pub placement_taken : ℕ → Placement → Records → Records
placement_taken column_width found records =
    shelf_changed found.shelf (λ (here : LinkedShelf). record here { is_empty = false })
    (with_item_given found (rests_of found.splits_shelf found.splits_item records).item
    (shelf_split_for column_width found records))

-- what is noted once a shelf was split, where these are the numbers of the rest and of its item: that both have changed,
-- the rest with an entry, in which any record stands for the one that is kept of it
abbrev pub with_rest_notes : ℕ → Option ℕ → Option ℕ → LinkedShelf → Notes → Notes
with_rest_notes shelf None item any notes = notes
with_rest_notes shelf (Some rest) None any notes = notes
with_rest_notes shelf (Some rest) (Some item) any notes =
    noted_as rest true (with_entry rest any (noted_as shelf true notes))

-- what is noted after a placement was taken
abbrev pub taken_notes : Placement → Records → Notes → Notes
taken_notes found records notes =
    let rests = rests_of found.splits_shelf found.splits_item records in
    with_rest_notes found.shelf rests.shelf rests.shelf_item
    (shelf_record (rests_used_for found records).shelves found.shelf) notes

-- the id under which the item of this number is given
abbrev pub id_of : List LinkedItem → ℕ → ℕ
id_of items number = number + index_modulus * (item_record items number).generation

-- what splitting its shelf needs
pub record IsShelfSplittable (found : Placement) (records : Records) : Type 0 where
  pub shelf : HasNeighbours shelf_chain records.shelves found.shelf
  pub few : length records.shelves ≤ no_link
  pub bottom : (shelf_record records.shelves found.shelf).y + found.height ≤ longest_side
  pub shorter : found.height ≤ (shelf_record records.shelves found.shelf).height

-- the records of the rest of a shelf and of its item are there
pub record AreRestsThere (rest rest_item : Option ℕ) (records : Records) : Type 0 where
  pub shelf : IfSome rest (λ number. number < length records.shelves)
  pub item : IfSome rest_item (λ number. number < length records.items)

-- what splitting its item needs
pub record IsItemSplittable (found : Placement) (records : Records) : Type 0 where
  pub item : found.item < length records.items
  pub few : length records.items ≤ no_link
  pub right : (item_record records.items found.item).x + found.width ≤ longest_side
  pub narrower : found.width ≤ (item_record records.items found.item).width

-- its shelf and its item are there, what the item's links name, and the record of the rest
pub record IsItemThere (found : Placement) (rest : Option ℕ) (records : Records) : Type 0 where
  pub shelf : found.shelf < length records.shelves
  pub in_shelf : HasNeighbours item_chain records.items found.item
  pub in_free_list : HasNeighbours free_list records.items found.item
  pub for_rest : IfSome rest (λ number. number < length records.items)

-- what taking a placement needs of records
pub record CanTakeFrom (column_width : ℕ) (found : Placement) (records : Records) : Type 0 where
  pub item : found.item < length records.items
  pub small : found.shelf < no_link
  pub items : length (rests_used_for found records).items ≤ no_link
  pub shelves : length (rests_used_for found records).shelves ≤ no_link
  pub splits_shelf : IsShelfSplittable found (rests_used_for found records)
  pub rests :
      (let rests = rests_of found.splits_shelf found.splits_item records in
      AreRestsThere rests.shelf rests.shelf_item (rests_used_for found records))
  pub splits_item : IsItemSplittable found (shelf_split_for column_width found records)
  pub there :
      IsItemThere found (rests_of found.splits_shelf found.splits_item records).item
      (shelf_split_for column_width found records)
