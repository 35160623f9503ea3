use Rattle.bucket_index.specs.Private.Searching.{kept_waste}
use Rattle.bucket_index.proofs.FoundShelves.{all-within, before-end}
use Rattle.bucket_index.proofs.searching.least_where_missed.Goals as goal

pub returns-then-tail-shelves-clause-within : goal.returns-then-tail-shelves-clause-within
returns-then-tail-shelves-clause-within c =
    let rank = kept_waste c.args.adds c.args.sides.now in
    let best = c.found_alone-best.result in
    all-within rank c.args.shelves.now best (before-end rank c.args.shelves.now best c.min-tail.result c.if-tail-shelves.true c.found_alone-best.ensures)
