use Rattle.atlas_pages.specs.Private.Kept.{state_in}
use Rattle.atlas_pages.proofs.Keeping.{keeps-most}
use Rattle.atlas_pages.proofs.pages.AtlasPages.grow.Goals as goal

pub invariant_of-self : goal.invariant_of-self
invariant_of-self c = keeps-most (state_in c.self.inside) c.args.most_pages c.self.invariant c.if-most_pages-self.false c.ranges.most_pages.fits

pub returns-clause-promises : goal.returns-clause-promises
returns-clause-promises c = invariant_of-self c
