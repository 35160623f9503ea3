-- What the steps of a return note beside the list of shelves by height: of two shelves that merge the later goes out of use,
-- and the other changes. The bound of the item's shelf rises to what became free, unless that is to be put in anew.
use Rattle.std.specs.Prelude.{◌≡◌, ℕ, ◌+◌, ◌<◌, ◌≤◌, ◌⊎◌, Bool, true, false, Option, None, Some, List, length, if◌then◌else◌}
use Rattle.etagere_base.specs.Lists.{times}
use Rattle.shelf_records.specs.declared.records.LinkedItem.{LinkedItem}
use Rattle.etagere_links.specs.Edits.{link_at}
use Rattle.etagere_links.specs.Links.{no_link}
use Rattle.shelf_records.specs.RecordLists.{Records, first_item_of}
use Rattle.shelf_records.specs.Records.{shelf_chain}
use Rattle.shelf_records.specs.AtlasRecords.{shelf_of, width_of}
use Rattle.shelf_heights.specs.Private.ByHeight.{AreInOrder, numbers_by_height, raised}
use Rattle.shelf_notes.specs.Private.Pending.{Notes, is_noted, noted_as}
use Rattle.shelf_store.specs.Private.ItemReturned.{IsShelfThere, emptiness_said, empty_next, free_next, free_previous, item_merged, merged_width, shelf_merged}
use Rattle.shelf_heights.specs.declared.by_height.BoundedShelf.{BoundedShelf}

-- the width of an item, where there is one
abbrev pub named_width : List LinkedItem → Option ℕ → ℕ
named_width items None = 0
named_width items (Some number) = width_of items number

-- how wide an item is with its free neighbours
abbrev pub freed_width : List LinkedItem → ℕ → ℕ
freed_width items number =
    width_of items number
    + named_width items (free_next items number)
    + named_width items (free_previous items number)

-- the list with the bound of a shelf raised, unless it has changed since the list followed it
abbrev pub raised_unless : Bool → ℕ → ℕ → List BoundedShelf → List BoundedShelf
raised_unless changed shelf width by_height = if changed then by_height else raised shelf width by_height

-- a shelf took the place of the next one, whose item is the one named
abbrev pub shelf_of_item_absorbed_notes : ℕ → ℕ → Option ℕ → Notes → Notes
shelf_of_item_absorbed_notes shelf next None notes = notes
shelf_of_item_absorbed_notes shelf next (Some item) notes = noted_as shelf true (noted_as next false notes)

-- an empty shelf takes the place of the next one, if any
abbrev pub next_absorbed_notes : ℕ → Option ℕ → Records → Notes → Notes
next_absorbed_notes shelf None records notes = notes
next_absorbed_notes shelf (Some next) records notes =
    shelf_of_item_absorbed_notes shelf next (first_item_of records.shelves next) notes

-- a shelf takes the place of the next one, where both are empty and stand in one column
abbrev pub shelf_merged_notes : ℕ → Records → Notes → Notes
shelf_merged_notes shelf records notes =
    next_absorbed_notes shelf (empty_next records.shelves shelf) records notes

-- a shelf that a link names takes the place of the next one
abbrev pub named_shelf_merged_notes : Option ℕ → Records → Notes → Notes
named_shelf_merged_notes None records notes = notes
named_shelf_merged_notes (Some shelf) records notes = shelf_merged_notes shelf records notes

-- the shelf and its empty neighbours in its column become one, where it is empty
abbrev pub shelves_merged_notes : ℕ → Records → Notes → Notes
shelves_merged_notes shelf records notes =
    let one = (shelf_merged shelf records).records in
    named_shelf_merged_notes (link_at shelf_chain.previous one.shelves shelf) one
    (shelf_merged_notes shelf records notes)

-- what is noted after the item of a number was returned
abbrev pub returned_notes : ℕ → Records → Notes → Notes
returned_notes number records notes =
    let shelf = shelf_of records.items number in
    shelves_merged_notes shelf (emptiness_said shelf (item_merged shelf number records).records) notes

-- a shelf that hasn't changed may be noted
abbrev pub IsNotedLate : ℕ → Notes → Notes → Type 0
IsNotedLate shelf notes new =
    (new ≡ notes) ⊎ ((is_noted notes shelf ≡ false) × (new ≡ noted_as shelf true notes))

-- what may be noted after the item of a number was returned: its shelf too
abbrev pub AreReturnedNotes : ℕ → Records → Notes → Notes → Type 0
AreReturnedNotes number records notes new =
    IsNotedLate (shelf_of records.items number) (returned_notes number records notes) new

-- the list after the item of a number was returned: the bound of its shelf is raised, unless that is noted then
abbrev pub list_returned : ℕ → Records → Notes → List BoundedShelf → List BoundedShelf
list_returned number records new by_height =
    let shelf = shelf_of records.items number in
    raised_unless (is_noted new shelf) shelf (freed_width records.items number) by_height

-- all that merging a shelf with the next one reads is there, and an entry for each shelf
pub record CanMergeNotes (shelf : ℕ) (records : Records) (notes : Notes) : Type 0 where
  pub there : IsShelfThere shelf records
  pub few : length records.shelves ≤ no_link
  pub known : length records.shelves ≤ length notes.standing

-- the same of the shelf that a link names, if any
abbrev pub CanMergeNamedNotes : Option ℕ → Records → Notes → Type 0
CanMergeNamedNotes link records notes = (n : ℕ) → link ≡ Some n → CanMergeNotes n records notes

-- the same of a shelf, and then of the one before it
pub record CanMergeAllNotes (shelf : ℕ) (records : Records) (notes : Notes) : Type 0 where
  pub next : CanMergeNotes shelf records notes
  pub previous :
      (let one = (shelf_merged shelf records).records in
      CanMergeNamedNotes (link_at shelf_chain.previous one.shelves shelf) one
      (shelf_merged_notes shelf records notes))

-- the item that remains is as wide as what becomes free; its shelf has an entry, and stands in the list if it hasn't changed;
-- what merges is there
pub record CanReturnByHeight (shelf number : ℕ) (records : Records) (notes : Notes) (by_height : List BoundedShelf)
    : Type 0 where
  pub width : merged_width shelf number records ≡ freed_width records.items number
  pub known : shelf < length notes.standing
  pub stands : is_noted notes shelf ≡ false → 1 ≤ times shelf (numbers_by_height by_height)
  pub order : AreInOrder notes.kept by_height
  pub shelves :
      CanMergeAllNotes shelf (emptiness_said shelf (item_merged shelf number records).records) notes
