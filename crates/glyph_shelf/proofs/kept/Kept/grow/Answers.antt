use Rattle.glyph_shelf.specs.Private.Kept.{kept_state}
use Rattle.glyph_shelf.proofs.Keeping.{keeps-grown}
use Rattle.glyph_shelf.proofs.kept.Kept.grow.Goals as goal

pub invariant_of-self : goal.invariant_of-self
invariant_of-self c =
    keeps-grown (kept_state c.self.inside) c.grow.new.self c.grow.result c.self.invariant c.grow.ensures.promises c.grow.ensures.allocated
    c.grow.ensures.err

pub returns-clause-promises : goal.returns-clause-promises
returns-clause-promises c = invariant_of-self c
