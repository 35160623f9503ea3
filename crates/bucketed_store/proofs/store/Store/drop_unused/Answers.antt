use Rattle.bucketed_store.proofs.store.Store.drop_unused.Goals as goal

pub invariant_of-self-2 : goal.invariant_of-self-2
invariant_of-self-2 c = (c.self.invariant.0, c.forget_all.ensures _, c.forget.ensures _, c.forget-2.ensures _, c.self.invariant.4, c.self.invariant.5)
