use Rattle.glyph_shelf.specs.Private.Kept.{kept_state}
use Rattle.glyph_shelf.proofs.Keeping.{keeps-used}
use Rattle.glyph_shelf.proofs.kept.Kept.look.Goals as goal

pub invariant_of-self : goal.invariant_of-self
invariant_of-self c = rw c.look.ensures.looked (keeps-used (kept_state c.self.inside) c.args.key c.self.invariant)

pub returns-clause-promises : goal.returns-clause-promises
returns-clause-promises c = invariant_of-self c
