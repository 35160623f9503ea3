-- Linked records that keep every rule, as the private functions see them, apart from the space that an atlas says is
-- allocated; and what was found in them.
use Rattle.std.specs.Prelude.{◌≡◌, ℕ, ◌≤◌, Option, Some, List, pos, slice_get}
use Rattle.etagere_base.specs.Lists.{times}
use Rattle.etagere_base.specs.declared.frames.Frame.{Frame}
use Rattle.etagere_base.specs.declared.geometry.Size.{Size}
use Rattle.std.specs.List.{AllByRecursion}
use Rattle.etagere_links.specs.Edits.{link_at}
use Rattle.etagere_links.specs.Walks.{walk_by}
use Rattle.shelf_records.specs.RecordLists.{Records, Entry, first_free_of, first_item_of, shelf_walk, walked_lists}
use Rattle.shelf_records.specs.Records.{free_list, item_chain, shelf_chain}
use Rattle.shelf_records.specs.AtlasRecords.{AtlasRecords, spelled_state}
use Rattle.shelf_records.specs.Private.Restoring.{Fits}
use Rattle.shelf_records.specs.StandsFor.{StandsFor}
use Rattle.shelf_model.specs.Choice.{Placement, placement_of}
use Rattle.shelf_model.specs.Space.{space_in}
use Rattle.shelf_model.specs.State.{AtlasState}

-- the links that a walk follows fit their bits: none names the number whose bits stand for none
abbrev pub FollowsFit : {T : Type 0} → (T → Option ℕ) → List T → Option ℕ → Type 0
FollowsFit next records start =
    Fits start
    × ((number : ℕ) → 1 ≤ times number (walk_by next records start).met → Fits (link_at next records number))

-- so do those that each walk through these records follows
pub record AreFit (records : Records) : Type 0 where
  pub shelves : FollowsFit shelf_chain.next records.shelves records.first_shelf
  pub unused_shelves : FollowsFit shelf_chain.next records.shelves records.unused_shelves
  pub unused_items : FollowsFit item_chain.next records.items records.unused_items
  pub items : AllByRecursion
      (λ number. FollowsFit item_chain.next records.items (first_item_of records.shelves number))
      (shelf_walk records).met
  pub free_lists : AllByRecursion
      (λ number. FollowsFit free_list.next records.items (first_free_of records.shelves number))
      (shelf_walk records).met

-- an atlas of these records that says that nothing is allocated
abbrev pub bare : Frame → Records → AtlasRecords
bare frame records = record { frame = frame; records = records; allocated_space = pos 0 }

-- the state that records spell in a frame
abbrev pub state_of : Frame → Records → AtlasState
state_of frame records = spelled_state (bare frame records) (walked_lists records).entries

-- an atlas of these records that says what is allocated
abbrev pub atlas_of : Frame → Records → AtlasRecords
atlas_of frame records =
    record {
      frame = frame;
      records = records;
      allocated_space = pos (space_in (state_of frame records).shelves);
    }

-- records are kept: they stand for the state that they spell
pub record AreKept (frame : Frame) (records : Records) : Type 0 where
  pub stands : StandsFor (atlas_of frame records) (state_of frame records)
  pub fit : AreFit records

-- what was found in records is a placement, but that it names the shelf and the item by the numbers
-- of their records
pub record Locates (records : Records) (found placement : Placement) : Type 0 where
  pub entry : Entry
  pub at : slice_get (walked_lists records).entries placement.shelf ≡ Some entry
  pub shelf : found.shelf ≡ entry.number
  pub item : slice_get entry.items placement.item ≡ Some found.item
  pub same : found ≡ record placement { shelf = found.shelf; item = found.item }

-- what was found for a size is its placement, by the numbers of records
pub record Finds (frame : Frame) (records : Records) (size : Size) (found : Placement)
    : Type 0 where
  pub placement : Placement
  pub placed : placement_of (state_of frame records) size ≡ Some placement
  pub located : Locates records found placement
