use Rattle.std.proofs.Common.{sym}
use Rattle.bucket_index.proofs.MissedShelves.{none-is}
use Rattle.bucket_index.proofs.searching.learn_before_tail.Goals as goal

pub learn-requires-clause-without : goal.learn-requires-clause-without
learn-requires-clause-without c = c.least_by_blocks-best.ensures.without (sym (none-is c.least_by_blocks-best.result c.if-is_none.ensures))
