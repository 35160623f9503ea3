use Rattle.std.proofs.Common.{length, sym, ◌∙◌, arith}
use Rattle.bucket_index.specs.Private.Searching.{kept_waste}
use Rattle.bucket_index.proofs.FoundShelves.{all-within, before-end}
use Rattle.bucket_index.proofs.MissedShelves.{all-without, none-is}
use Rattle.bucket_index.proofs.searching.least_in_tail.Goals as goal

pub learn-requires-clause-without : goal.learn-requires-clause-without
learn-requires-clause-without c =
    let best = c.least_in-best.result in
    let shelves = c.args.shelves.now in
    all-without c.args.adds c.args.sides.now shelves 65535
    (sym (none-is best c.if-is_none.ensures) ∙ before-end (kept_waste c.args.adds c.args.sides.now) shelves best (length shelves) (omega arith) c.least_in-best.ensures)

pub returns-else-is_none-clause-within : goal.returns-else-is_none-clause-within
returns-else-is_none-clause-within c =
    let rank = kept_waste c.args.adds c.args.sides.now in
    let shelves = c.args.shelves.now in
    all-within rank shelves c.least_in-best.result (before-end rank shelves c.least_in-best.result (length shelves) (omega arith) c.least_in-best.ensures)
