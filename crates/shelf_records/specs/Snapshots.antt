-- What a snapshot says, and the rules that it has to keep.
use Rattle.std.specs.Prelude.{◌/◌, map}
use Rattle.etagere_base.specs.declared.faults.RestoreFault.{RestoreFault}
use Rattle.etagere_base.specs.declared.faults.RestoreFault.TheVariants.{Memory}
use Rattle.etagere_base.specs.declared.frames.Frame as frames
use Rattle.etagere_base.specs.Sides.{side, swapped_axes}
use Rattle.shelf_records.specs.declared.records.LinkedItem.{LinkedItem}
use Rattle.shelf_records.specs.declared.records.LinkedShelf.{LinkedShelf}
use Rattle.etagere_links.specs.Links.{link_of}
use Rattle.snapshot_records.specs.declared.shelves.AtlasSnapshot.{AtlasSnapshot}
use Rattle.snapshot_records.specs.declared.shelves.ItemRecord.{ItemRecord}
use Rattle.snapshot_records.specs.declared.shelves.ShelfRecord.{ShelfRecord}
use Rattle.shelf_records.specs.AtlasRecords.{AtlasRecords}
use Rattle.shelf_records.specs.StandsFor.{Keeps}

-- the frame that a snapshot says, which has as many columns as fit
abbrev pub snapshot_frame : AtlasSnapshot → frames.Frame
snapshot_frame snapshot =
    record {
      width = side snapshot.width;
      height = side snapshot.height;
      alignment_width = side snapshot.alignment_width;
      alignment_height = side snapshot.alignment_height;
      vertical = snapshot.vertical_shelves;
      column_width = snapshot.shelf_width;
      columns =
          (swapped_axes snapshot.vertical_shelves
          (record { along = side snapshot.width; across = side snapshot.height })).along
          / snapshot.shelf_width;
    }

-- the item that a saved one stands for
abbrev pub linked_item : ItemRecord → LinkedItem
linked_item item =
    record {
      x = item.x;
      width = item.width;
      prev = link_of item.prev;
      next = link_of item.next;
      prev_unallocated = link_of item.prev_unallocated;
      next_unallocated = link_of item.next_unallocated;
      shelf = item.shelf;
      allocated = item.allocated;
      generation = item.generation;
    }

-- the shelf that a saved one stands for
abbrev pub linked_shelf : ShelfRecord → LinkedShelf
linked_shelf shelf =
    record {
      x = shelf.x;
      y = shelf.y;
      height = shelf.height;
      prev = link_of shelf.prev;
      next = link_of shelf.next;
      first_item = link_of shelf.first_item;
      first_unallocated = link_of shelf.first_unallocated;
      is_empty = shelf.is_empty;
    }

-- the records that a snapshot says
abbrev pub snapshot_records : AtlasSnapshot → AtlasRecords
snapshot_records snapshot =
    record {
      frame = snapshot_frame snapshot;
      records =
          record {
            shelves = map linked_shelf snapshot.shelves.items;
            items = map linked_item snapshot.items.items;
            first_shelf = link_of snapshot.first_shelf;
            unused_items = link_of snapshot.free_items;
            unused_shelves = link_of snapshot.free_shelves;
          };
      allocated_space = snapshot.allocated_space;
    }

-- the rule whose breach is this fault is broken; that memory ran out breaks none
abbrev pub IsBroken : AtlasRecords → RestoreFault → Type 0
IsBroken atlas Memory = Unit {0}
IsBroken atlas fault = Keeps atlas fault → ⊥
