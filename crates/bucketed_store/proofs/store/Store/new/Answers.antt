use Rattle.std.proofs.Common.{rules}
use Rattle.bucketed_store.proofs.store.Store.new.Goals as goal

pub invariant_of-result : goal.invariant_of-result
invariant_of-result c = (search rules, c.new-4.ensures _, c.none-2.ensures _, c.uncounted.ensures _, search rules, c.none-3.ensures _)
