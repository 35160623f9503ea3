use Rattle.std.proofs.Common.{◌≡◌, ◌≤◌, drop, length, map, take, vec_capacity}
use Rattle.shelf_records.specs.AtlasRecords.{AtlasRecords}
use Rattle.shelf_records.specs.RecordLists.{item_numbers, unused_item_walk, walked_entry}
use Rattle.shelf_records.specs.Private.Restoring.{HasLists, chain_entry, free_numbers}
use Rattle.shelf_restoring.proofs.walked_lists.walked_shelves.Given as goal

-- the shelves so far are made, and the lists of the others are left, of each atlas that has these
abbrev pub invariant-loop-at : goal.invariant-loop-at
invariant-loop-at l = record {
  start : l.start ≤ length l.items.met.items;
  free_start : l.free_start ≤ length l.free_lists.met.items;
  long : length l.shelves.items ≡ l.at;
  capacity : vec_capacity l.shelves ≡ length l.numbers;
  made : (atlas : AtlasRecords) → HasLists atlas l.numbers l.items.met.items l.items.counts.items l.free_lists.met.items l.free_lists.counts.items (unused_item_walk atlas.records).met
      → l.shelves.items ≡ map (walked_entry atlas.records) (take l.at l.numbers);
  items : (atlas : AtlasRecords) → HasLists atlas l.numbers l.items.met.items l.items.counts.items l.free_lists.met.items l.free_lists.counts.items (unused_item_walk atlas.records).met
      → drop l.start l.items.met.items ≡ item_numbers (map (chain_entry atlas.records) (drop l.at l.numbers));
  free : (atlas : AtlasRecords) → HasLists atlas l.numbers l.items.met.items l.items.counts.items l.free_lists.met.items l.free_lists.counts.items (unused_item_walk atlas.records).met
      → drop l.free_start l.free_lists.met.items ≡ free_numbers (map (walked_entry atlas.records) (drop l.at l.numbers));
}
