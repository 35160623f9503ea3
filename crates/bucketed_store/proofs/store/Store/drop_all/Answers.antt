use Rattle.std.proofs.Common.{subst, sym}
use Rattle.bucket_index.specs.Private.Blocks.{AreKnown}
use Rattle.bucketed_store.proofs.store.Store.drop_all.Goals as goal

pub invariant_of-self : goal.invariant_of-self
invariant_of-self c = (subst (AreKnown c.forget.new.self) (sym c.clear.ensures.items) c.forget.ensures, c.forget_all.ensures _, c.forget-2.ensures _, c.forget-3.ensures _, λ known. absurd (cc), c.forget-5.ensures _)
