use Rattle.std.proofs.Common.{refl, ap, ◌∙◌}
use Rattle.glyph_map.specs.Calls.{seen_at}
use Rattle.glyph_map.specs.State.{MapState}
use Rattle.glyph_map.proofs.Found.{seen-used}
use Rattle.glyph_map.proofs.map.GlyphMap.get.Goals as goal

pub returns : goal.returns
returns g c =
    let value = c.peek.ensures.value
    ∙ ap (λ (s : MapState g.row.K.Denot g.row.V.Denot). seen_at (g.K.PartialEq.eq c.args.key.now) s) c.use_key.ensures.used
    ∙ seen-used (g.K.PartialEq.eq c.args.key.now) c.args.self.now in
    ((refl, λ w. tt, c.use_key.ensures.used), record { used = tt; value = value })
