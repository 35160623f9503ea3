use Rattle.std.proofs.Common.{◌≡◌, ◌+◌, ◌*◌, ◌≤◌, length, map}
use Rattle.etagere_links.specs.Links.{link_of}
use Rattle.shelf_records.specs.RecordLists.{shelf_walk}
use Rattle.shelf_records.specs.Records.{shelf_chain}
use Rattle.shelf_records.proofs.AllLists.Following.{count_from}
use Rattle.shelf_search.specs.Private.Searching.{limit_of, lowest, offered}
use Rattle.shelf_search.proofs.Searched.PassedWalks.{Walks}
use Rattle.shelf_search.proofs.by_place.walk_shelves.Given as goal

-- the best so far is the first of least rank of the shelves that were passed, the limit is its rank, and of
-- each no more items were passed than there are
abbrev pub invariant-loop-shelf : goal.invariant-loop-shelf
invariant-loop-shelf l = record {
  walks : Walks shelf_chain.next l.records.shelves (shelf_walk l.records).met (λ shelves. lowest (map (offered l.records l.width l.height) shelves)) l.best (link_of l.shelf);
  limit : limit_of l.best ≡ l.limit;
  left : l.most ≤ l.left + walks.steps * length l.records.items;
  small : l.shelf ≤ 65535;
}

abbrev pub decreases-loop-shelf : goal.decreases-loop-shelf
decreases-loop-shelf l = count_from (link_of l.shelf) (shelf_walk l.records).met
