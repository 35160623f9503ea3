-- What is left of the rules of a snapshot, behind what a pass has seen of a list.
use Rattle.std.specs.Prelude.{◌≡◌, ℕ, ◌+◌, ◌%◌, ◌≤◌, ◌&&◌, ◌||◌, ◌==◌, Bool, true, false, not, Option, None, Some, List, [], ◌∷◌, length}
use Rattle.etagere_base.specs.declared.frames.Frame.{Frame}
use Rattle.etagere_base.specs.Frames.{across_side}
use Rattle.std.specs.List.{AllByRecursion}
use Rattle.shelf_records.specs.declared.records.LinkedItem.{LinkedItem}
use Rattle.shelf_records.specs.declared.records.LinkedShelf.{LinkedShelf}
use Rattle.shelf_records.specs.RecordLists.{Entry}
use Rattle.shelf_records.specs.Chains.{LeadsBack}
use Rattle.etagere_links.specs.Edits.{link_at}
use Rattle.shelf_records.specs.Records.{free_list, item_chain}
use Rattle.shelf_records.specs.AtlasRecords.{across_of, along_of, height_of, is_allocated_at, is_empty_at, item_at, item_place_of, shelf_of, width_of}
use Rattle.shelf_records.specs.Private.Judging.{column_at, height_below, is_own_free}
use Rattle.shelf_model.specs.Valid.{IsItem}
use Rattle.shelf_records.specs.StandsFor.{free_present}

-- what the record of the shelf of this number says
pub record SaysOf (shelves : List LinkedShelf) (number : ℕ) (shelf : LinkedShelf) : Type 0 where
  pub along : shelf.x ≡ along_of shelves number
  pub across : shelf.y ≡ across_of shelves number
  pub height : shelf.height ≡ height_of shelves number
  pub is_empty : shelf.is_empty ≡ is_empty_at shelves number

-- a shelf stands where so much of this column is filled: it is of this column, or the first of the next one after this
-- one was filled, and it begins where its column and the one before it say
pub record IsNext (frame : Frame) (shelves : List LinkedShelf) (column height : ℕ) (entry : Entry) : Type 0 where
  pub goes :
      (column_at frame shelves entry == column
      || (height == across_side frame && column_at frame shelves entry == column + 1)) ≡ true
  pub along : along_of shelves entry.number % frame.column_width ≡ 0
  pub across : across_of shelves entry.number ≡ height_below frame shelves column height entry
  pub tall : 1 ≤ height_of shelves entry.number

-- shelves follow where so much of this column is filled, and fill all columns that are left
abbrev pub FollowFrom : Frame → List LinkedShelf → ℕ → ℕ → List Entry → Type 0
FollowFrom frame shelves column height [] = (height ≡ across_side frame) × (column + 1 ≡ frame.columns)
FollowFrom frame shelves column height (entry ∷ entries) =
    IsNext frame shelves column height entry
    × FollowFrom frame shelves (column_at frame shelves entry)
    (height_below frame shelves column height entry + height_of shelves entry.number) entries

-- items link back, the first of them to this one, and name their shelf
abbrev pub LinkedFrom : List LinkedItem → ℕ → Option ℕ → List ℕ → Type 0
LinkedFrom items shelf before [] = Unit {0}
LinkedFrom items shelf before (number ∷ numbers) =
    ((link_at item_chain.previous items number ≡ before) × (shelf_of items number ≡ shelf))
    × LinkedFrom items shelf (Some number) numbers

-- items lie side by side from a place on, each at least a pixel wide and aligned
abbrev pub RowFrom : Frame → List LinkedItem → ℕ → List ℕ → Type 0
RowFrom frame items here [] = Unit {0}
RowFrom frame items here (number ∷ numbers) =
    ((item_place_of items number ≡ here) × IsItem frame (item_at items number))
    × RowFrom frame items (here + width_of items number) numbers

-- no free one of these items stands beside a free one, where the one before them is free or not
abbrev pub ApartFrom : List LinkedItem → Bool → List ℕ → Type 0
ApartFrom items was_free [] = Unit {0}
ApartFrom items was_free (number ∷ numbers) =
    ((was_free && not (is_allocated_at items number)) ≡ false)
    × ApartFrom items (not (is_allocated_at items number)) numbers

-- the free list has free items of the shelf alone, as many as there are, and links back to the one before
pub record FreeOwn (items : List LinkedItem) (marks : List Bool) (entry : Entry) : Type 0 where
  pub own : AllByRecursion (λ item. is_own_free items marks entry.number item ≡ true) entry.free_list
  pub long : length entry.free_list ≡ length (free_present items entry.items)
  pub back : LeadsBack (link_at free_list.previous items) None entry.free_list
