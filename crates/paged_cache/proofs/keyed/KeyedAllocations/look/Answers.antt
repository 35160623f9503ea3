use Rattle.paged_cache.proofs.Keeping.{keeps-used, keyed}
use Rattle.paged_cache.proofs.keyed.KeyedAllocations.look.Goals as goal

pub invariant_of-self : goal.invariant_of-self
invariant_of-self g c =
    rw c.found.ensures.entries
    (keeps-used g.A.Allocates.keeps g.A.Allocates.are_held g.met.A.Allocates.to_front
    (keyed c.self.inside.entries.entries c.self.inside.entries.cap c.self.inside.allocator) c.args.key c.self.invariant)

pub returns-clause-promises : goal.returns-clause-promises
returns-clause-promises g c = invariant_of-self g c
