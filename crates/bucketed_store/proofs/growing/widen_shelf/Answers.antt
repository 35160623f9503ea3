use Rattle.bucketed_store.proofs.growing.widen_shelf.Goals as goal

pub returns-clause-capacity : goal.returns-clause-capacity
returns-clause-capacity c = c.make_buckets-first.ensures.capacity
