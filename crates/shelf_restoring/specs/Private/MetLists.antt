-- Lists that the walks of an atlas have met, whichever atlas that is.
use Rattle.std.specs.Prelude.{ℕ, List}
use Rattle.shelf_records.specs.AtlasRecords.{AtlasRecords}
use Rattle.shelf_records.specs.RecordLists.{unused_item_walk}
use Rattle.shelf_records.specs.Private.Restoring.{HasLists}

-- these are the numbers of its shelves, and their items and free lists
pub record AreLists (numbers items item_counts frees free_counts : List ℕ) : Type 0 where
  pub atlas : AtlasRecords
  pub has : HasLists atlas numbers items item_counts frees free_counts (unused_item_walk atlas.records).met
