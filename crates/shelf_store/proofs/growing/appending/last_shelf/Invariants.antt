use Rattle.std.proofs.Common.{◌≡◌, ◌-◌, ◌<◌, Some, length}
use Rattle.etagere_links.specs.Links.{no_link}
use Rattle.shelf_records.specs.Records.{shelf_chain}
use Rattle.shelf_store.specs.Private.RecordsGrown as spec
use Rattle.shelf_store.proofs.growing.appending.last_shelf.Given as goal

-- the last one from here on is the last of all
abbrev pub invariant-loop-step : goal.invariant-loop-step
invariant-loop-step l = record {
  last : Some (spec.last_from shelf_chain.next l.records.shelves (length l.records.shelves - l._step) l.last) ≡ spec.last_shelf l.records;
  small : l.last < no_link;
}
