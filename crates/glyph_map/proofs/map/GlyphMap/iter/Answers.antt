use Rattle.std.proofs.Common.{List, ap, subst, ◌∙◌}
use Rattle.glyph_map.specs.Calls.{listed}
use Rattle.glyph_map.specs.Private.Listed.{seen_both}
use Rattle.glyph_map.specs.Promises.{KeepsMapPromises}
use Rattle.glyph_map.specs.State.{MapState}
use Rattle.glyph_map.specs.declared.ticketed.Ticketed.{Ticketed}
use Rattle.glyph_map.proofs.Joined.{keeps}
use Rattle.glyph_map.proofs.Seen.{both-listed}
use Rattle.glyph_map.proofs.map.GlyphMap.iter.Goals as goal

pub returns-clause-listed : goal.returns-clause-listed
returns-clause-listed g c =
    c.new.ensures
    ∙ ap (λ (es : List (g.row.K.Denot × Ticketed g.row.V.Denot)). seen_both es c.iter-2.result) c.iter.ensures.rest
    ∙ ap (seen_both c.self.inside.entries.entries) c.iter-2.ensures.listed
    ∙ both-listed c.self.inside.entries.entries c.self.inside.cache
    ∙ ap (λ (s : MapState g.row.K.Denot g.row.V.Denot). listed s) c.self.view_is

pub returns-clause-promises : goal.returns-clause-promises
returns-clause-promises g c =
    subst (KeepsMapPromises g.K.PartialEq.eq) c.self.view_is
    (keeps g.K.PartialEq.eq c.self.inside.entries.entries c.self.inside.cache c.self.invariant.tickets c.self.invariant.promises c.self.invariant.keys)
