-- What a snapshot of a bucketed atlas stands for, and which of its rules a refusal names.
use Rattle.std.specs.Prelude.{map}
use Rattle.etagere_base.specs.declared.faults.RestoreFault.{RestoreFault}
use Rattle.etagere_base.specs.declared.faults.RestoreFault.TheVariants.{Memory}
use Rattle.etagere_base.specs.Sides.{side}
use Rattle.etagere_links.specs.Links.{link_of}
use Rattle.bucketed_records.specs.declared.records.LinkedBucket.{LinkedBucket}
use Rattle.bucketed_records.specs.declared.records.LinkedBucketShelf.{LinkedBucketShelf}
use Rattle.snapshot_records.specs.declared.buckets.BucketRecord.{BucketRecord}
use Rattle.snapshot_records.specs.declared.buckets.BucketShelfRecord.{BucketShelfRecord}
use Rattle.snapshot_records.specs.declared.buckets.BucketedSnapshot.{BucketedSnapshot}
use Rattle.bucketed_records.specs.BucketRecords.{BucketRecords}
use Rattle.bucketed_records.specs.StandsFor.{Keeps}

-- the linked shelf for which a saved one stands
abbrev pub linked_shelf : BucketShelfRecord → LinkedBucketShelf
linked_shelf shelf =
    record {
      x = shelf.x;
      y = shelf.y;
      height = shelf.height;
      bucket_width = shelf.bucket_width;
      first_bucket = link_of shelf.first_bucket;
    }

-- the linked bucket for which a saved one stands
abbrev pub linked_bucket : BucketRecord → LinkedBucket
linked_bucket bucket =
    record {
      x = bucket.x;
      free_space = bucket.free_space;
      next = link_of bucket.next;
      refcount = bucket.refcount;
      item_count = bucket.item_count;
      shelf = bucket.shelf;
      generation = bucket.generation;
    }

-- the records of a snapshot
abbrev pub snapshot_records : BucketedSnapshot → BucketRecords
snapshot_records snapshot =
    record {
      frame = record {
        width = side snapshot.width;
        height = side snapshot.height;
        alignment_width = side snapshot.alignment_width;
        alignment_height = side snapshot.alignment_height;
        vertical = snapshot.vertical_shelves;
        column_width = snapshot.column_width;
        columns = snapshot.num_columns;
      };
      shelves = map linked_shelf snapshot.shelves.items;
      buckets = map linked_bucket snapshot.buckets.items;
      unused = link_of snapshot.first_unallocated_bucket;
      current_column = snapshot.current_column;
      available_height = snapshot.available_height;
      allocated_space = snapshot.allocated_space;
    }

-- the rule that a fault names is broken, or memory was wanting
abbrev pub Breaks : BucketRecords → RestoreFault → Type 0
Breaks atlas Memory = Unit {0}
Breaks atlas fault = Keeps atlas fault → ⊥
