use Rattle.std.proofs.Common.{length, arith}
use Rattle.bucket_index.specs.Private.Searching.{kept_waste}
use Rattle.bucket_index.proofs.FoundShelves.{all-within, before-end}
use Rattle.bucket_index.proofs.searching.least_waste.Goals as goal

pub least_in-requires-clause-step : goal.least_in-requires-clause-step
least_in-requires-clause-step c = c.step.ensures c.args.shelves.now c.requires.known

pub returns : goal.returns
returns c =
    let rank = kept_waste c.args.adds c.args.sides.now in
    let is = before-end rank c.args.shelves.now c.least_in.result (length c.args.shelves.now) (omega arith) c.least_in.ensures in
    record { least = is; within = all-within rank c.args.shelves.now c.least_in.result is; missed = c.requires.missed }
