use Rattle.std.proofs.Common.{◌≤◌, ◌-◌, length}
use Rattle.shelf_records.specs.Private.Reading.{recorded_from}
use Rattle.shelf_store.proofs.Recorded.RecordedListing.{few-recorded}
use Rattle.etagere_shelves.proofs.listing.IterIterator.size_hint.Goals as goal

pub returns-clause-upper : goal.returns-clause-upper
returns-clause-upper c =
    let records = c.self.inside.records.now in
    let number = c.self.inside.number in
    let few : length (recorded_from c.self.inside.frame.now records number) ≤ length records.items - number =
    few-recorded c.self.inside.frame.now records number (length records.items - number) in
    (tt, rw (← c.self.view_is) (rw c.items.ensures few))
