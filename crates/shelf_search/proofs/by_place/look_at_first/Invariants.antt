use Rattle.std.proofs.Common.{◌≡◌, ◌+◌, ◌<◌, ◌≤◌, Option, map}
use Rattle.etagere_links.specs.Links.{link_of}
use Rattle.shelf_records.specs.RecordLists.{shelf_walk}
use Rattle.shelf_records.specs.Records.{shelf_chain}
use Rattle.shelf_search.specs.Private.Searching.{limit_of, lowest, offered}
use Rattle.shelf_search.specs.declared.choosing.Candidate.{Candidate}
use Rattle.shelf_search.proofs.Searched.PassedWalks.{Walks}
use Rattle.shelf_search.proofs.by_place.look_at_first.Given as goal

-- the best of the shelves that were passed ranks above the height
abbrev pub invariant-loop-step : goal.invariant-loop-step
invariant-loop-step l = record {
  best : Option Candidate;
  walks : Walks shelf_chain.next l.records.shelves (shelf_walk l.records).met (λ shelves. lowest (map (offered l.records l.width l.height) shelves)) best (link_of l.shelf);
  high : l.height < limit_of best;
  limit : l.limit ≡ l.height + 1;
  small : l.shelf ≤ 65535;
}
