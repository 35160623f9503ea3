-- What is noted once what a search found was taken: of the shelf too, where it is to be parked.
use Rattle.std.specs.Prelude.{◌-◌, ℕ, Bool, false, true, Option, None, Some, ◌&&◌, not, nat_lt, List, if◌then◌else◌}
use Rattle.shelf_model.specs.Choice.{Placement}
use Rattle.shelf_notes.specs.Private.Pending.{Notes, is_noted, noted_as}
use Rattle.shelf_records.specs.AtlasRecords.{item_at}
use Rattle.shelf_records.specs.RecordLists.{Records}
use Rattle.shelf_records.specs.declared.records.LinkedItem.{LinkedItem}
use Rattle.shelf_store.specs.Private.PlacementTaken.{taken_notes}
use Rattle.shelf_store.specs.declared.taking.Following.{Following}
use Rattle.shelf_store.specs.declared.taking.Following.TheVariants.{Bound, Note, Nothing}
use Rattle.shelf_store.specs.Private.SecondWidths.{is_only_free}

-- whether the shelf of a placement, which has not changed, has no free item left as wide as what is to be parked, where some
-- are parked
abbrev pub leaves_narrow : List LinkedItem → Notes → Placement → Bool
leaves_narrow items notes found =
    nat_lt 0 notes.parked_below
    && (not found.splits_shelf
    && (not (is_noted notes found.shelf)
    && (is_only_free items found.item
    && nat_lt ((item_at items found.item).width - found.width) notes.narrow_below)))

-- the bound to which that of a placement's shelf falls, and whether the shelf is noted
abbrev pub bound_of : Following → Option ℕ
bound_of Nothing = None
bound_of (Bound bound) = Some bound
bound_of Note = None

abbrev pub notes_shelf : Following → Bool
notes_shelf Nothing = false
notes_shelf (Bound bound) = false
notes_shelf Note = true

-- what is noted then
abbrev pub found_notes : Placement → Records → Notes → Notes
found_notes found records notes =
    if leaves_narrow records.items notes found
    then noted_as found.shelf true (taken_notes found records notes)
    else taken_notes found records notes
