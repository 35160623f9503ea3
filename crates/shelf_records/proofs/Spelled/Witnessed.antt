-- Records whose links spell lists, and what they say beside their links: that they stand for a state, in the form in
-- which edits change it.
use Rattle.std.specs.Prelude.{◌≡◌, ◌%◌, pos, false, []}
use Rattle.std.specs.List.{AllByRecursion}
use Rattle.shelf_records.specs.RecordLists.{Entry, Lists, IsLinked, shelf_numbers}
use Rattle.shelf_records.specs.AtlasRecords.{AtlasRecords, along_of, is_allocated_at, is_empty_at, shelf_of, spelled_shelf, spelled_state}
use Rattle.shelf_model.specs.Space.{space_in}
use Rattle.shelf_records.specs.StandsFor.{AreStacked, HasCounts, LieFrom, ListsFree}
use Rattle.shelf_model.specs.State.{AtlasState, is_empty}
use Rattle.shelf_model.specs.Valid.{IsValid}

-- what the records of a shelf and of its items say beside their links
pub record IsPlaced (atlas : AtlasRecords) (entry : Entry) : Type 0 where
  pub owners : AllByRecursion (λ item. shelf_of atlas.records.items item ≡ entry.number) entry.items
  pub along : along_of atlas.records.shelves entry.number % atlas.frame.column_width ≡ 0
  pub places : LieFrom atlas.records.items (along_of atlas.records.shelves entry.number) entry.items
  pub free_list : ListsFree atlas.records.items entry

-- the record of a shelf says whether it is empty
abbrev pub HasFlag : AtlasRecords → Entry → Type 0
HasFlag atlas entry =
    is_empty_at atlas.records.shelves entry.number ≡ is_empty (spelled_shelf atlas entry)

-- the records spell these lists, and these the state
pub record Witnessed (atlas : AtlasRecords) (lists : Lists) (state : AtlasState) : Type 0 where
  pub spelled : state ≡ spelled_state atlas lists.entries
  pub counts : HasCounts atlas
  pub linked : IsLinked atlas.records lists
  pub placed : AllByRecursion (IsPlaced atlas) lists.entries
  pub flags : AllByRecursion (HasFlag atlas) lists.entries
  pub stacked : AreStacked atlas.records.shelves atlas.frame.column_width []
      (shelf_numbers lists.entries)
  pub valid : IsValid state
  pub unused : AllByRecursion (λ item. is_allocated_at atlas.records.items item ≡ false) lists.unused_items
  pub space : atlas.allocated_space ≡ pos (space_in state.shelves)
