use Rattle.std.proofs.Common.{ap, ◌∙◌}
use Rattle.std.specs.Map.{keys_of}
use Rattle.glyph_map.proofs.Joined.{keeps}
use Rattle.glyph_map.proofs.Calling.{same-grown}
use Rattle.glyph_map.proofs.map.GlyphMap.grow.Goals as goal

pub returns-clause-promises : goal.returns-clause-promises
returns-clause-promises g c =
    keeps g.K.PartialEq.eq c.self.inside.entries.entries c.grow.new.self
    (ap keys_of (same-grown c.self.inside.cache c.grow.new.self c.args.size c.grow.result c.grow.ensures.ok c.grow.ensures.err)
    ∙ c.self.invariant.tickets)
    c.grow.ensures.promises c.self.invariant.keys
