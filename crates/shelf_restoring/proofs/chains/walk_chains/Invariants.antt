use Rattle.std.proofs.Common.{◌≡◌, ◌+◌, ◌++◌, length, map, take, vec_capacity}
use Rattle.std.specs.List.{AllByRecursion}
use Rattle.etagere_links.specs.Marks.{IsMarkedBy}
use Rattle.shelf_records.specs.RecordLists.{item_numbers, unused_item_walk}
use Rattle.shelf_records.specs.Private.Restoring.{HasChain, chain_entry, items_met}
use Rattle.shelf_restoring.proofs.chains.walk_chains.Given as goal

abbrev pub invariant-loop-number : goal.invariant-loop-number
invariant-loop-number l = record {
  met : l.met.items ≡ item_numbers (map (chain_entry l.atlas.records) (take l.number-index l.numbers));
  counts : l.counts.items ≡ map (items_met l.atlas.records) (take l.number-index l.numbers);
  long : length l.counts.items ≡ l.number-index;
  capacity : vec_capacity l.counts ≡ length l.numbers;
  marked : IsMarkedBy l.marks ((unused_item_walk l.atlas.records).met ++ item_numbers (map (chain_entry l.atlas.records) (take l.number-index l.numbers)));
  chains : AllByRecursion (HasChain l.atlas.records) (take l.number-index l.numbers);
  room : l.room ≡ l.fn.room;
  steps : l.steps ≡ l.fn.steps + length (item_numbers (map (chain_entry l.atlas.records) (take l.number-index l.numbers)));
}
