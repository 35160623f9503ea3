use Rattle.std.proofs.Common.{length, ap, sym, subst, ◌∙◌}
use Rattle.glyph_map.specs.Promises.{KeepsMapPromises}
use Rattle.glyph_map.specs.State.{MapState}
use Rattle.glyph_map.proofs.Joined.{joined-length, keeps}
use Rattle.glyph_map.proofs.map.GlyphMap.len.Goals as goal

pub returns-clause-promises : goal.returns-clause-promises
returns-clause-promises g c =
    subst (KeepsMapPromises g.K.PartialEq.eq) c.self.view_is
    (keeps g.K.PartialEq.eq c.self.inside.entries.entries c.self.inside.cache c.self.invariant.tickets c.self.invariant.promises c.self.invariant.keys)

pub returns-clause-len : goal.returns-clause-len
returns-clause-len g c =
    c.len.ensures.len
    ∙ sym (joined-length c.self.inside.entries.entries c.self.inside.cache.entries c.self.invariant.tickets)
    ∙ ap (λ (s : MapState g.row.K.Denot g.row.V.Denot). length s.entries) c.self.view_is
