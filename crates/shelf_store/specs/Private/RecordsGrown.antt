-- A grow on linked records, step by step: what it needs, what it adds at the end of each shelf and of
-- each column, and which records it puts to use for that.
use Rattle.std.specs.Prelude.{◌≡◌, ℕ, zero, suc, ◌+◌, ◌-◌, ◌*◌, ◌<◌, Bool, true, false, ◌&&◌, not, Option, None, Some, option_map, List, length, nat_lt, ◌==◌, if◌then◌else◌}
use Rattle.std.specs.Option.{option_map_or}
use Rattle.etagere_base.specs.declared.frames.Frame.{Frame}
use Rattle.etagere_base.specs.Frames.{across_side}
use Rattle.shelf_records.specs.declared.records.LinkedItem.{LinkedItem}
use Rattle.shelf_records.specs.declared.records.LinkedShelf.{LinkedShelf}
use Rattle.etagere_links.specs.Edits.{link_at}
use Rattle.etagere_links.specs.Links.{no_link}
use Rattle.shelf_records.specs.RecordEdits.{free_inserted_front, item_changed, item_inserted_after, shelf_changed, shelf_inserted_after}
use Rattle.shelf_records.specs.RecordLists.{Records, first_item_of}
use Rattle.shelf_records.specs.RecordMaking.{item_used_again, records_made, shelf_used_again, started}
use Rattle.shelf_records.specs.RecordUses.{missing}
use Rattle.shelf_records.specs.Records.{item_chain, shelf_chain}
use Rattle.shelf_records.specs.AtlasRecords.{across_of, along_of, height_of, is_allocated_at, is_empty_at, width_of}
use Rattle.shelf_store.specs.declared.growing.Made.{Made}
use Rattle.shelf_store.specs.declared.growing.Needed.{Needed}

-- the number that links lead to from this one on, after at most so many steps
abbrev pub last_from : {T : Type 0} → (T → Option ℕ) → List T → ℕ → ℕ → ℕ
last_from next records zero number = number
last_from next records (suc steps) number =
    option_map_or (last_from next records steps) (link_at next records number) number

-- the last item of the shelf of this number
abbrev pub last_item : Records → ℕ → Option ℕ
last_item records shelf =
    option_map (last_from item_chain.next records.items (length records.items))
    (first_item_of records.shelves shelf)

-- the last shelf of all
abbrev pub last_shelf : Records → Option ℕ
last_shelf records =
    option_map (last_from shelf_chain.next records.shelves (length records.shelves))
    records.first_shelf

-- the last item of the shelf of this number is free
abbrev pub ends_free_at : Records → ℕ → Bool
ends_free_at records shelf =
    option_map_or (λ last. not (is_allocated_at records.items last)) (last_item records shelf) false

-- the shelf of this number is the last of its column, where this one comes after it
abbrev pub ends_column_at : List LinkedShelf → ℕ → Option ℕ → Bool
ends_column_at shelves shelf None = true
ends_column_at shelves shelf (Some next) = not (along_of shelves shelf == along_of shelves next)

-- a column ends with the shelf of this number, and that isn't empty
abbrev pub is_filled_end : List LinkedShelf → ℕ → Option ℕ → Bool
is_filled_end shelves shelf next =
    ends_column_at shelves shelf next && not (is_empty_at shelves shelf)

-- a count over the shelves that links lead to, each with the link to the one after it
abbrev pub counted_from : (ℕ → Option ℕ → Bool) → List LinkedShelf → ℕ → Option ℕ → ℕ
counted_from counts shelves zero at = 0
counted_from counts shelves (suc steps) None = 0
counted_from counts shelves (suc steps) (Some shelf) =
    let next = link_at shelf_chain.next shelves shelf in
    (if counts shelf next then 1 else 0) + counted_from counts shelves steps next

-- how many shelves end with an allocated item
abbrev pub allocated_ends : Records → ℕ
allocated_ends records =
    counted_from (λ shelf next. not (ends_free_at records shelf)) records.shelves
    (length records.shelves) records.first_shelf

-- how many columns end with a shelf that isn't empty
abbrev pub filled_ends_of : Records → ℕ
filled_ends_of records =
    counted_from (is_filled_end records.shelves) records.shelves (length records.shelves) records.first_shelf

-- how many item and shelf records a grow from one frame to another needs
abbrev pub needed_of : Frame → Frame → Records → Needed
needed_of frame grown records =
    let shelves =
    (if nat_lt (across_side frame) (across_side grown) then filled_ends_of records else 0)
    + (grown.columns - frame.columns) in
    record {
      items =
          (if nat_lt frame.column_width grown.column_width then allocated_ends records else 0)
          + shelves;
      shelves = shelves;
    }

-- records that grow, and the numbers of those that were made for it and are put to use next
pub record Growing : Type 0 where
  pub records : Records
  pub made : Made

-- the records with those that are missing to put so many to use
abbrev pub with_missing : Needed → Records → Growing
with_missing needed records =
    record {
      records =
          records_made (missing item_chain needed.items records.unused_items records.items)
          (missing shelf_chain needed.shelves records.unused_shelves records.shelves) records;
      made = record { item = length records.items; shelf = length records.shelves };
    }

-- the number of the item record that is put to use next
abbrev pub next_item : Growing → ℕ
next_item growing = option_map_or (λ number. number) growing.records.unused_items growing.made.item

-- the number of the shelf record that is put to use next
abbrev pub next_shelf : Growing → ℕ
next_shelf growing = option_map_or (λ number. number) growing.records.unused_shelves growing.made.shelf

-- what was made once an item record was put to use
abbrev pub made_after_item : Option ℕ → Made → Made
made_after_item None made = record made { item = made.item + 1 }
made_after_item (Some number) made = made

-- what was made once a shelf record was put to use
abbrev pub made_after_shelf : Option ℕ → Made → Made
made_after_shelf None made = record made { shelf = made.shelf + 1 }
made_after_shelf (Some number) made = made

-- an item record was put to use
abbrev pub after_item : Growing → Growing
after_item growing =
    record {
      records = item_used_again growing.records;
      made = made_after_item growing.records.unused_items growing.made;
    }

-- a shelf record was put to use
abbrev pub after_shelf : Growing → Growing
after_shelf growing =
    record {
      records = shelf_used_again growing.records;
      made = made_after_shelf growing.records.unused_shelves growing.made;
    }

-- an item of this number, free, at the end of a shelf after its last one
abbrev pub end_inserted : ℕ → ℕ → ℕ → ℕ → ℕ → Records → Records
end_inserted shelf last item place width records =
    free_inserted_front shelf item
    (item_inserted_after last item (item_changed item (started place width shelf) records))

-- the shelf with a width added after its last item, at this place
abbrev pub widened_after : ℕ → ℕ → ℕ → Option ℕ → Growing → Growing
widened_after shelf place width None growing = growing
widened_after shelf place width (Some last) growing =
    if is_allocated_at growing.records.items last
    then record {
      records =
          end_inserted shelf last (next_item growing) place width (after_item growing).records;
      made = (after_item growing).made;
    }
    else record {
      records =
          item_changed last
          (λ (item : LinkedItem).
          record item { width = width_of growing.records.items last + width })
          growing.records;
      made = growing.made;
    }

-- the shelf of this number with a width added at its end, which is at this place
abbrev pub shelf_widened : ℕ → ℕ → ℕ → Growing → Growing
shelf_widened shelf place width growing =
    widened_after shelf place width (last_item growing.records shelf) growing

-- so many shelves with a width added at their ends, as links lead to them
abbrev pub shelves_widened : ℕ → ℕ → ℕ → Option ℕ → Growing → Growing
shelves_widened place width zero at growing = growing
shelves_widened place width (suc steps) None growing = growing
shelves_widened place width (suc steps) (Some shelf) growing =
    let widened = shelf_widened shelf place width growing in
    shelves_widened place width steps (link_at shelf_chain.next widened.records.shelves shelf)
    widened

-- the record of an empty shelf that begins there, this tall, with this item
abbrev pub empty_shelf_record : ℕ → ℕ → ℕ → ℕ → LinkedShelf
empty_shelf_record along across height item =
    record {
      x = along;
      y = across;
      height = height;
      prev = None;
      next = None;
      first_item = Some item;
      first_unallocated = Some item;
      is_empty = true;
    }

-- an empty shelf after another one, that begins there, this tall and this wide
abbrev pub shelf_inserted : ℕ → ℕ → ℕ → ℕ → ℕ → Growing → Growing
shelf_inserted width previous along across height growing =
    let item = next_item growing in
    let shelf = next_shelf (after_item growing) in
    let used = after_shelf (after_item growing) in
    record {
      records =
          shelf_inserted_after previous shelf
          (shelf_changed shelf (λ _. empty_shelf_record along across height item)
          (item_changed item (started along width shelf) used.records));
      made = used.made;
    }

-- a height added after the shelf of this number, in columns of this width
abbrev pub shelf_heightened : ℕ → ℕ → ℕ → Growing → Growing
shelf_heightened width shelf height growing =
    let shelves = growing.records.shelves in
    if is_empty_at shelves shelf
    then record {
      records =
          shelf_changed shelf
          (λ (here : LinkedShelf). record here { height = height_of shelves shelf + height })
          growing.records;
      made = growing.made;
    }
    else shelf_inserted width shelf (along_of shelves shelf)
    (across_of shelves shelf + height_of shelves shelf) height growing

-- a height added after the shelf of this number, where it is the last of its column
abbrev pub end_heightened : ℕ → ℕ → ℕ → Option ℕ → Growing → Growing
end_heightened width shelf height next growing =
    if ends_column_at growing.records.shelves shelf next
    then shelf_heightened width shelf height growing else growing

-- a height added at the end of each column of so many shelves, as links lead to them
abbrev pub columns_heightened : ℕ → ℕ → ℕ → Option ℕ → Growing → Growing
columns_heightened width height zero at growing = growing
columns_heightened width height (suc steps) None growing = growing
columns_heightened width height (suc steps) (Some shelf) growing =
    let next = link_at shelf_chain.next growing.records.shelves shelf in
    columns_heightened width height steps next (end_heightened width shelf height next growing)

-- so many columns after the last shelf, from this one on
abbrev pub columns_appended : Frame → ℕ → ℕ → ℕ → Growing → Growing
columns_appended frame zero previous column growing = growing
columns_appended frame (suc count) previous column growing =
    columns_appended frame count (next_shelf (after_item growing)) (column + 1)
    (shelf_inserted frame.column_width previous (column * frame.column_width) 0
    (across_side frame) growing)

-- the columns that a frame has more, after the last shelf
abbrev pub columns_added : Frame → ℕ → Option ℕ → Growing → Growing
columns_added frame first None growing = growing
columns_added frame first (Some last) growing =
    columns_appended frame (frame.columns - first) last first growing

-- the shelves widened, where a frame has wider columns
abbrev pub with_width : Frame → Frame → Growing → Growing
with_width frame grown growing =
    if nat_lt frame.column_width grown.column_width
    then shelves_widened frame.column_width (grown.column_width - frame.column_width)
    (length growing.records.shelves) growing.records.first_shelf growing
    else growing

-- the columns heightened, where a frame is taller
abbrev pub with_height : Frame → Frame → Growing → Growing
with_height frame grown growing =
    if nat_lt (across_side frame) (across_side grown)
    then columns_heightened grown.column_width (across_side grown - across_side frame)
    (length growing.records.shelves) growing.records.first_shelf growing
    else growing

-- columns added, where a frame has more
abbrev pub with_columns : Frame → Frame → Growing → Growing
with_columns frame grown growing =
    if nat_lt frame.columns grown.columns
    then columns_added grown frame.columns (last_shelf growing.records) growing
    else growing

-- the records after a grow from one frame to another, for which they need so many
abbrev pub records_grown : Frame → Frame → Needed → Records → Growing
records_grown frame grown needed records =
    with_columns frame grown
    (with_height frame grown (with_width frame grown (with_missing needed records)))

-- what widening a shelf needs
pub record CanWiden (shelf width : ℕ) (growing : Growing) : Type 0 where
  pub small : shelf < no_link
  pub item : (last : ℕ) → last_item growing.records shelf ≡ Some last
      → is_allocated_at growing.records.items last ≡ true → next_item growing < no_link
  pub fits : (last : ℕ) → last_item growing.records shelf ≡ Some last
      → is_allocated_at growing.records.items last ≡ false
      → width_of growing.records.items last + width < 65536

-- what widening so many shelves needs
abbrev pub CanWidenAll : ℕ → ℕ → ℕ → Option ℕ → Growing → Type 0
CanWidenAll place width zero at growing = Unit {0}
CanWidenAll place width (suc steps) None growing = Unit {0}
CanWidenAll place width (suc steps) (Some shelf) growing =
    CanWiden shelf width growing
    × CanWidenAll place width steps
    (link_at shelf_chain.next (shelf_widened shelf place width growing).records.shelves shelf)
    (shelf_widened shelf place width growing)

-- what an empty shelf after another one needs
pub record CanInsert (previous : ℕ) (growing : Growing) : Type 0 where
  pub small : previous < no_link
  pub item : next_item growing < no_link
  pub shelf : next_shelf (after_item growing) < no_link

-- what adding a height after a shelf needs
pub record CanHeighten (shelf height : ℕ) (growing : Growing) : Type 0 where
  pub taller : height_of growing.records.shelves shelf + height < 65536
  pub bottom : across_of growing.records.shelves shelf + height_of growing.records.shelves shelf
      < 65536
  pub insert : is_empty_at growing.records.shelves shelf ≡ false → CanInsert shelf growing

-- what adding a height at the end of each column needs
abbrev pub CanHeightenAll : ℕ → ℕ → ℕ → Option ℕ → Growing → Type 0
CanHeightenAll width height zero at growing = Unit {0}
CanHeightenAll width height (suc steps) None growing = Unit {0}
CanHeightenAll width height (suc steps) (Some shelf) growing =
    (ends_column_at growing.records.shelves shelf
    (link_at shelf_chain.next growing.records.shelves shelf)
    ≡ true → CanHeighten shelf height growing)
    × CanHeightenAll width height steps (link_at shelf_chain.next growing.records.shelves shelf)
    (end_heightened width shelf height (link_at shelf_chain.next growing.records.shelves shelf)
    growing)

-- what appending columns needs
abbrev pub CanAppend : Frame → ℕ → ℕ → ℕ → Growing → Type 0
CanAppend frame zero previous column growing = Unit {0}
CanAppend frame (suc count) previous column growing =
    CanInsert previous growing
    × CanAppend frame count (next_shelf (after_item growing)) (column + 1)
    (shelf_inserted frame.column_width previous (column * frame.column_width) 0
    (across_side frame) growing)

-- what a grow needs of records
pub record CanGrow (frame grown : Frame) (needed : Needed) (records : Records) : Type 0 where
  pub width : nat_lt frame.column_width grown.column_width ≡ true
      → CanWidenAll frame.column_width (grown.column_width - frame.column_width)
      (length (with_missing needed records).records.shelves)
      (with_missing needed records).records.first_shelf (with_missing needed records)
  pub height :
      (let growing = with_width frame grown (with_missing needed records) in
      nat_lt (across_side frame) (across_side grown) ≡ true
      → CanHeightenAll grown.column_width (across_side grown - across_side frame)
      (length growing.records.shelves) growing.records.first_shelf growing)
  pub columns :
      (let growing =
      with_height frame grown (with_width frame grown (with_missing needed records)) in
      (last : ℕ) → last_shelf growing.records ≡ Some last
      → CanAppend grown (grown.columns - frame.columns) last frame.columns growing)
