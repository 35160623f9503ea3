use Rattle.std.proofs.Common.{ap, arith}
use Rattle.shelf_model.proofs.Counted.{items-counted}
use Rattle.shelf_records.specs.Private.Kept.{state_of}
use Rattle.shelf_search.specs.declared.tallying.Tally.{Tally}
use Rattle.shelf_search.proofs.Searched.CountedStates.{kept-counted, kept-free, usage-is}
use Rattle.shelf_records.proofs.Spelled.StandsKept.{witnesses}
use Rattle.shelf_search.proofs.tallying.usage.Goals as goal

pub tallied-tally-requires-clause-free : goal.tallied-tally-requires-clause-free
tallied-tally-requires-clause-free c = kept-free c.args.frame.now c.args.records.now c.requires.kept

pub overflow_sub-result : goal.overflow_sub-result
overflow_sub-result c =
    let counted = kept-counted c.args.frame.now c.args.records.now c.requires.kept in
    omega (arith, ap (λ (t : Tally). t.free_items) c.tallied-tally.ensures, counted.free_items, items-counted (state_of c.args.frame.now c.args.records.now), c.requires.counted)

pub returns : goal.returns
returns c = usage-is c.args.frame.now c.args.records.now c.args.items_in_use c.tallied-tally.result c.largest_free.result c.requires.kept c.requires.counted c.tallied-tally.ensures c.largest_free.ensures

pub tallied-tally-requires-clause-linked : goal.tallied-tally-requires-clause-linked
tallied-tally-requires-clause-linked c = (witnesses c.requires.kept).linked

pub tallied-tally-requires-clause-shelves : goal.tallied-tally-requires-clause-shelves
tallied-tally-requires-clause-shelves c = (witnesses c.requires.kept).counts.shelves.1

pub tallied-tally-requires-clause-items : goal.tallied-tally-requires-clause-items
tallied-tally-requires-clause-items c = (witnesses c.requires.kept).counts.items.1

pub overflow_sub-result-2 : goal.overflow_sub-result-2
overflow_sub-result-2 c = omega (arith, c.requires.counted, (witnesses c.requires.kept).valid.peak_items)
