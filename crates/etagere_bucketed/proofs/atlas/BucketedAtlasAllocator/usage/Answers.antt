use Rattle.std.proofs.Common.{ap, arith, ◌∙◌}
use Rattle.bucketed_model.specs.Usage.{usage}
use Rattle.bucketed_store.proofs.Emptying.EndTotals.{tells-end}
use Rattle.bucketed_store.proofs.Refused.{items-few, usage-kept}
use Rattle.etagere_bucketed.specs.Private.Consistent.{state_in}
use Rattle.etagere_bucketed.proofs.atlas.BucketedAtlasAllocator.usage.Goals as goal

pub usage-requires-clause-shelves : goal.usage-requires-clause-shelves
usage-requires-clause-shelves c = (tells-end c.self.inside.store c.self.invariant.unused (state_in c.self.inside) c.self.invariant.witnessed).few

pub usage-requires-clause-items : goal.usage-requires-clause-items
usage-requires-clause-items c =
    omega (arith, items-few (state_in c.self.inside) c.self.inside.store c.self.invariant.unused c.self.invariant.witnessed.valid c.self.invariant.witnessed.spells)

pub usage-requires-clause-in_use : goal.usage-requires-clause-in_use
usage-requires-clause-in_use c = omega (arith, c.self.invariant.totals.in_use, c.self.invariant.witnessed.valid.shelves.few)

pub returns : goal.returns
returns c =
    let inside = c.self.inside in
    let is = c.self.invariant in
    c.usage.ensures
    ∙ usage-kept (state_in inside) inside.buckets_in_use inside.store is.unused is.witnessed.valid is.totals.in_use is.witnessed.spells
    ∙ ap usage c.self.view_is
