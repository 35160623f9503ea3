use Rattle.shelf_store.proofs.Recorded.RecordedListing.{kept-listed}
use Rattle.etagere_shelves.proofs.listing.Iter.new.Goals as goal

pub returns : goal.returns
returns c = kept-listed c.args.frame.now c.args.records.now c.requires
