-- When the records of an atlas stand for a state: the rules that a snapshot has to keep, each said once, of the lists
-- that walks meet.
use Rattle.std.specs.Prelude.{◌≡◌, ℕ, ◌+◌, ◌/◌, ◌%◌, ◌<◌, ◌≤◌, pos, false, ◌||◌, None, List, [], ◌∷◌, ◌++◌, IsTrue, length, filter, map, not, nat_lt, ◌==◌, if◌then◌else◌}
use Rattle.etagere_base.specs.declared.faults.RestoreFault.{RestoreFault}
use Rattle.etagere_base.specs.declared.faults.RestoreFault.TheVariants as faults
use Rattle.etagere_base.specs.declared.frames.Frame.{Frame}
use Rattle.etagere_base.specs.Frames.{HasAllColumns, IsFrame, across_side, longest_side}
use Rattle.std.specs.List.{AllByRecursion}
use Rattle.etagere_base.specs.Lists.{NoNeighbours, times}
use Rattle.shelf_records.specs.declared.records.LinkedItem.{LinkedItem}
use Rattle.shelf_records.specs.declared.records.LinkedShelf.{LinkedShelf}
use Rattle.shelf_records.specs.Chains.{LeadsBack}
use Rattle.etagere_links.specs.Edits.{link_at}
use Rattle.etagere_links.specs.Links.{no_link}
use Rattle.shelf_records.specs.RecordLists.{Entry, item_numbers, shelf_numbers, shelf_walk, unused_shelf_walk, unused_item_walk, item_walk, free_walk}
use Rattle.etagere_links.specs.Lists.{HasEachOnce}
use Rattle.shelf_records.specs.Records.{item_chain, free_list, shelf_chain}
use Rattle.etagere_links.specs.Walks.{Walked}
use Rattle.shelf_records.specs.AtlasRecords.{AtlasRecords, is_allocated_at, item_place_of, shelf_of, along_of, across_of, height_of, is_empty_at, item_at, state_spelled, walked_entries}
use Rattle.shelf_model.specs.Merging.{both_free, both_empty}
use Rattle.shelf_model.specs.Places.{column_height}
use Rattle.shelf_model.specs.Space.{space_in}
use Rattle.shelf_model.specs.State.{Shelf, AtlasState, is_one_free, total_width}
use Rattle.shelf_model.specs.Valid.{IsItem, is_out_of_order}

-- the records are at least one and at most 65535
pub record HasCounts (atlas : AtlasRecords) : Type 0 where
  pub shelves : (1 ≤ length atlas.records.shelves) × (length atlas.records.shelves ≤ no_link)
  pub items : (1 ≤ length atlas.records.items) × (length atlas.records.items ≤ no_link)

-- a walk stops at none or before a record
abbrev pub StopsInRange : ℕ → Walked → Type 0
StopsInRange count walked = IsTrue (walked.end == no_link || nat_lt walked.end count)

-- the items of a shelf link back to the one before, and name the shelf
pub record LinkBack (items : List LinkedItem) (entry : Entry) : Type 0 where
  pub back : LeadsBack (link_at item_chain.previous items) None entry.items
  pub owners : AllByRecursion (λ item. shelf_of items item ≡ entry.number) entry.items

-- they do, and the walks of the shelf stop in range
pub record HasItemLinks (atlas : AtlasRecords) (entry : Entry) : Type 0 where
  pub items : StopsInRange (length atlas.records.items) (item_walk atlas.records entry.number)
  pub free_list : StopsInRange (length atlas.records.items) (free_walk atlas.records entry.number)
  pub links : LinkBack atlas.records.items entry

-- no walk stops out of range, and the shelves link back to the one before
pub record HasLinks (atlas : AtlasRecords) : Type 0 where
  pub shelves : StopsInRange (length atlas.records.shelves) (shelf_walk atlas.records)
  pub unused_shelves : StopsInRange (length atlas.records.shelves) (unused_shelf_walk atlas.records)
  pub unused_items : StopsInRange (length atlas.records.items) (unused_item_walk atlas.records)
  pub back : LeadsBack (link_at shelf_chain.previous atlas.records.shelves) None
      (shelf_walk atlas.records).met
  pub each_shelf : AllByRecursion (HasItemLinks atlas) (walked_entries atlas)

-- the heights of the shelves of these numbers that stand in a column, added up
abbrev pub height_before : List LinkedShelf → ℕ → ℕ → List ℕ → ℕ
height_before shelves column_width column [] = 0
height_before shelves column_width column (number ∷ numbers) =
    (if along_of shelves number / column_width == column then height_of shelves number else 0)
    + height_before shelves column_width column numbers

-- each shelf begins across where those before it in its column end
abbrev pub AreStacked : List LinkedShelf → ℕ → List ℕ → List ℕ → Type 0
AreStacked shelves column_width before [] = Unit {0}
AreStacked shelves column_width before (number ∷ numbers) =
    (across_of shelves number
    ≡ height_before shelves column_width (along_of shelves number / column_width) before)
    × AreStacked shelves column_width (before ++ number ∷ []) numbers

-- the shelves fill each column, column after column; each record says where its shelf begins
pub record HasShelves (shelves : List LinkedShelf) (entries : List Entry) (state : AtlasState)
    : Type 0 where
  pub columns : AllByRecursion (λ (shelf : Shelf). shelf.column < state.frame.columns) state.shelves
  pub ordered : NoNeighbours is_out_of_order state.shelves
  pub along :
      AllByRecursion
      (λ (entry : Entry). along_of shelves entry.number % state.frame.column_width ≡ 0) entries
  pub across : AreStacked shelves state.frame.column_width [] (shelf_numbers entries)
  pub heights : AllByRecursion (λ (shelf : Shelf). 1 ≤ shelf.height) state.shelves
  pub filled : (column : ℕ) → column < state.frame.columns
      → column_height column state.shelves ≡ across_side state.frame

-- items lie side by side from a place on
abbrev pub LieFrom : List LinkedItem → ℕ → List ℕ → Type 0
LieFrom items here [] = Unit {0}
LieFrom items here (number ∷ numbers) =
    (item_place_of items number ≡ here) × LieFrom items (here + (item_at items number).width) numbers

-- the items of a shelf fill its column, and its record says whether it is empty
pub record HasItems (frame : Frame) (shelves : List LinkedShelf) (records : List LinkedItem)
    (entry : Entry) : Type 0 where
  pub places : LieFrom records (along_of shelves entry.number) entry.items
  pub items : AllByRecursion (IsItem frame) (map (item_at records) entry.items)
  pub width : total_width (map (item_at records) entry.items) ≡ frame.column_width
  pub is_empty : is_empty_at shelves entry.number ≡ is_one_free (map (item_at records) entry.items)

-- no two free items stand side by side, and no two empty shelves of a column
pub record HasNeighbours (state : AtlasState) : Type 0 where
  pub items : AllByRecursion (λ (shelf : Shelf). NoNeighbours both_free shelf.items) state.shelves
  pub shelves : NoNeighbours both_empty state.shelves

-- the free ones of these items
abbrev pub free_present : List LinkedItem → List ℕ → List ℕ
free_present items numbers = filter (λ member. not (is_allocated_at items member)) numbers

-- the free list of a shelf has each of its free items once, and no other
abbrev pub ListsFree : List LinkedItem → Entry → Type 0
ListsFree items entry =
    (item : ℕ) → times item entry.free_list ≡ times item (free_present items entry.items)

-- it does, and links back to the one before
pub record FreeBack (records : List LinkedItem) (entry : Entry) : Type 0 where
  pub items : ListsFree records entry
  pub back : LeadsBack (link_at free_list.previous records) None entry.free_list

-- it does so, and ends at none
pub record HasFreeList (atlas : AtlasRecords) (entry : Entry) : Type 0 where
  pub list : FreeBack atlas.records.items entry
  pub ends : (free_walk atlas.records entry.number).end ≡ no_link

-- each record is in use in one place or unused, and each walk through them ends at none
pub record IsShared (atlas : AtlasRecords) : Type 0 where
  pub shelves : HasEachOnce (length atlas.records.shelves)
      ((shelf_walk atlas.records).met ++ (unused_shelf_walk atlas.records).met)
  pub items : HasEachOnce (length atlas.records.items)
      (item_numbers (walked_entries atlas) ++ (unused_item_walk atlas.records).met)
  pub shelf_end : (shelf_walk atlas.records).end ≡ no_link
  pub unused_shelf_end : (unused_shelf_walk atlas.records).end ≡ no_link
  pub item_ends : AllByRecursion (λ (entry : Entry). (item_walk atlas.records entry.number).end ≡ no_link)
      (walked_entries atlas)
  pub unused_item_end : (unused_item_walk atlas.records).end ≡ no_link

-- records keep the rule whose breach is this fault; that memory ran out breaks none
abbrev pub Keeps : AtlasRecords → RestoreFault → Type 0
Keeps atlas faults.Frame = IsFrame longest_side atlas.frame
Keeps atlas faults.Counts = HasCounts atlas
Keeps atlas faults.Link = HasLinks atlas
Keeps atlas faults.Shelves = HasShelves atlas.records.shelves (walked_entries atlas) (state_spelled atlas)
Keeps atlas faults.Runs =
    AllByRecursion (HasItems atlas.frame atlas.records.shelves atlas.records.items) (walked_entries atlas)
Keeps atlas faults.Neighbours = HasNeighbours (state_spelled atlas)
Keeps atlas faults.FreeList = AllByRecursion (HasFreeList atlas) (walked_entries atlas)
Keeps atlas faults.Sharing = IsShared atlas
Keeps atlas faults.Unused =
    AllByRecursion (λ item. is_allocated_at atlas.records.items item ≡ false) (unused_item_walk atlas.records).met
Keeps atlas faults.Space = atlas.allocated_space ≡ pos (space_in (state_spelled atlas).shelves)
Keeps atlas faults.Memory = Unit {0}

-- the records keep each rule, and spell the state
pub record StandsFor (atlas : AtlasRecords) (state : AtlasState) : Type 0 where
  pub spelled : state ≡ state_spelled atlas
  pub columns : HasAllColumns atlas.frame
  pub keeps : (fault : RestoreFault) → Keeps atlas fault
