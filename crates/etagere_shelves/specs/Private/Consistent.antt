-- What the fields of an atlas keep, and the state that they stand for.
use Rattle.std.specs.Prelude.{◌≡◌, ◌≤◌, length}
use Rattle.etagere_shelves.specs.declared.atlas.AtlasAllocator.TheInside.{Inside}
use Rattle.shelf_store.specs.Private.SecondWidths.{AreSeconds}
use Rattle.shelf_store.specs.Private.Settling.{AreByHeightExceptNoted}
use Rattle.shelf_records.specs.Private.Kept.{AreKept, state_of}
use Rattle.shelf_model.specs.Space.{allocated_space}
use Rattle.shelf_model.specs.State.{AtlasState, items_in_use}

-- what the fields of an atlas stand for: the state that its records spell
abbrev pub state_in : Inside → AtlasState
state_in atlas = state_of atlas.frame atlas.records

-- what they keep: each rule of the records, the shelves in use by height but for those that have changed or are parked, room
-- among these and for a note for each shelf record, of each shelf a width that no more than one of its free items passes, the
-- count of items and the space that is allocated
pub record IsConsistent (atlas : Inside) : Type 0 where
  pub kept : AreKept atlas.frame atlas.records
  pub by_height : AreByHeightExceptNoted atlas.frame atlas.records atlas.pending.notes atlas.by_height.items
  pub room : length atlas.records.shelves ≤ atlas.by_height.capacity
  pub room_to_note : length atlas.records.shelves ≤ atlas.pending.room
  pub seconds : AreSeconds atlas.records atlas.seconds
  pub counted : atlas.items_in_use ≡ items_in_use (state_in atlas).shelves
  pub space : atlas.allocated_space ≡ allocated_space (state_in atlas)
