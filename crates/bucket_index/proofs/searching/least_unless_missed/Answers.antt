use Rattle.std.proofs.Common.{refl, sym, ◌∙◌}
use Rattle.bucket_index.specs.Private.Searching.{kept_waste}
use Rattle.bucket_index.proofs.FoundShelves.{all-within}
use Rattle.bucket_index.proofs.MissedShelves.{all-without, none-is}
use Rattle.bucket_index.proofs.searching.least_unless_missed.Goals as goal

pub learn-requires-clause-without : goal.learn-requires-clause-without
learn-requires-clause-without c =
    all-without c.args.adds c.args.sides.now c.args.shelves.now 65535
    (sym (none-is c.least_by_blocks-best.result c.if-is_none.ensures) ∙ c.least_by_blocks-best.ensures.least refl)

pub returns-then-leaves_out-clause-within : goal.returns-then-leaves_out-clause-within
returns-then-leaves_out-clause-within c =
    all-within (kept_waste c.args.adds c.args.sides.now) c.args.shelves.now c.least_by_blocks-best.result (c.least_by_blocks-best.ensures.least refl)

pub returns-else-leaves_out-clause-within : goal.returns-else-leaves_out-clause-within
returns-else-leaves_out-clause-within c =
    all-within (kept_waste c.args.adds c.args.sides.now) c.args.shelves.now c.least_by_blocks-best.result (c.least_by_blocks-best.ensures.least refl)
