use Rattle.atlas_pages.specs.Private.Kept.{state_in}
use Rattle.atlas_pages.proofs.Keeping.{keeps-answered}
use Rattle.atlas_pages.proofs.pages.AtlasPages.deallocate.Goals as goal

pub invariant_of-self : goal.invariant_of-self
invariant_of-self c =
    keeps-answered c.return_on.result (state_in c.self.inside) c.args.page c.args.id c.return_on.new.pages.items c.self.invariant
    c.return_on.ensures.ok c.return_on.ensures.err

pub returns-clause-promises : goal.returns-clause-promises
returns-clause-promises c = invariant_of-self c
