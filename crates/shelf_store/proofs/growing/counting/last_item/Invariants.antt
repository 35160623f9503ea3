use Rattle.std.proofs.Common.{◌≡◌, ◌-◌, ◌<◌, Some, length}
use Rattle.etagere_links.specs.Links.{no_link}
use Rattle.shelf_records.specs.Records.{item_chain}
use Rattle.shelf_store.specs.Private.RecordsGrown as spec
use Rattle.shelf_store.proofs.growing.counting.last_item.Given as goal

-- the last one from here on is the last of all
abbrev pub invariant-loop-step : goal.invariant-loop-step
invariant-loop-step l = record {
  last : Some (spec.last_from item_chain.next l.records.items (length l.records.items - l._step) l.last) ≡ spec.last_item l.records l.shelf;
  small : l.last < no_link;
}
