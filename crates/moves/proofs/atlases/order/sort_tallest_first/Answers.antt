use Rattle.std.proofs.Common.{rules}
use Rattle.moves.proofs.MovedAtlases.Sorting.{sorted-tallest_first}
use Rattle.moves.proofs.atlases.order.sort_tallest_first.Goals as goal

pub returns-clause-ordered : goal.returns-clause-ordered
returns-clause-ordered c =
    sorted-tallest_first c.args.vertical _ c.sort_unstable_by_key.ensures.sorted (λ a r q k. search rules)
