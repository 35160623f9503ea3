use Rattle.std.proofs.Common.{◌≡◌, ◌+◌, length, map, take, vec_capacity}
use Rattle.std.specs.List.{AllByRecursion}
use Rattle.etagere_links.specs.Marks.{IsMarkedBy}
use Rattle.shelf_records.specs.RecordLists.{walked_entry}
use Rattle.shelf_records.specs.Private.Restoring.{HasFree, free_numbers, frees_met}
use Rattle.shelf_restoring.proofs.free_lists.follow_free_lists.Given as goal

abbrev pub invariant-loop-number : goal.invariant-loop-number
invariant-loop-number l = record {
  met : l.met.items ≡ free_numbers (map (walked_entry l.atlas.records) (take l.number-index l.numbers));
  counts : l.counts.items ≡ map (frees_met l.atlas.records) (take l.number-index l.numbers);
  long : length l.counts.items ≡ l.number-index;
  capacity : vec_capacity l.counts ≡ length l.numbers;
  marked : IsMarkedBy l.marks (free_numbers (map (walked_entry l.atlas.records) (take l.number-index l.numbers)));
  free : AllByRecursion (HasFree l.atlas.records) (take l.number-index l.numbers);
  room : l.room ≡ l.fn.room;
  steps : l.steps ≡ l.fn.steps + length (free_numbers (map (walked_entry l.atlas.records) (take l.number-index l.numbers)));
}
