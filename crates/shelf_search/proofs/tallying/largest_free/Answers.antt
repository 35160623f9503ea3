use Rattle.std.proofs.Common.{◌∙◌}
use Rattle.shelf_search.proofs.Searched.CountedStates.{kept-free, largest-is}
use Rattle.shelf_records.proofs.Spelled.StandsKept.{witnesses}
use Rattle.shelf_search.proofs.tallying.largest_free.Goals as goal

pub tallied-tally-requires-clause-free : goal.tallied-tally-requires-clause-free
tallied-tally-requires-clause-free c = kept-free c.args.frame.now c.args.records.now c.requires

pub returns : goal.returns
returns c = c.largest_free.ensures ∙ largest-is c.args.frame.now c.args.records.now c.tallied-tally.result c.requires c.tallied-tally.ensures

pub tallied-tally-requires-clause-linked : goal.tallied-tally-requires-clause-linked
tallied-tally-requires-clause-linked c = (witnesses c.requires).linked

pub tallied-tally-requires-clause-shelves : goal.tallied-tally-requires-clause-shelves
tallied-tally-requires-clause-shelves c = (witnesses c.requires).counts.shelves.1

pub tallied-tally-requires-clause-items : goal.tallied-tally-requires-clause-items
tallied-tally-requires-clause-items c = (witnesses c.requires).counts.items.1
