use Rattle.std.proofs.Common.{ap, ◌∙◌}
use Rattle.std.specs.Map.{keys_of}
use Rattle.glyph_shelf.specs.Cache.{CacheState}
use Rattle.glyph_map.proofs.Joined.{keeps}
use Rattle.glyph_map.proofs.map.GlyphMap.begin_frame.Goals as goal

pub returns-clause-promises : goal.returns-clause-promises
returns-clause-promises g c =
    keeps g.K.PartialEq.eq c.self.inside.entries.entries c.begin_frame.new.self
    (ap (λ (s : CacheState). keys_of s.entries) c.begin_frame.ensures.begun ∙ c.self.invariant.tickets)
    c.begin_frame.ensures.promises c.self.invariant.keys
