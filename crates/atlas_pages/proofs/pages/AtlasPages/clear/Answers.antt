use Rattle.atlas_pages.specs.Private.Kept.{state_in}
use Rattle.atlas_pages.proofs.Keeping.{keeps-cleared}
use Rattle.atlas_pages.proofs.pages.AtlasPages.clear.Goals as goal

pub invariant_of-self : goal.invariant_of-self
invariant_of-self c = rw c.clear_each.ensures (keeps-cleared (state_in c.self.inside) c.self.invariant)

pub returns-clause-promises : goal.returns-clause-promises
returns-clause-promises c = invariant_of-self c
