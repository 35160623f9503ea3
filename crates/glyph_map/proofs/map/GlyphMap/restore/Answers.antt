use Rattle.glyph_map.proofs.Joined.{keeps}
use Rattle.glyph_map.proofs.Saved.{restored-map}
use Rattle.glyph_map.proofs.map.GlyphMap.restore.Goals as goal

pub returns-clause-ok : goal.returns-clause-ok
returns-clause-ok g c =
    restored-map c.in_ok-entries.entries.entries c.in-Ok.cache c.args.snapshot c.args.pairs.items c.in_ok-entries.ensures.entered.tickets
    c.in-Ok.ensures.ok c.in_ok-entries.ensures.entered.pairs_are

pub returns-clause-promises : goal.returns-clause-promises
returns-clause-promises g c =
    keeps g.K.PartialEq.eq c.in_ok-entries.entries.entries c.in-Ok.cache c.in_ok-entries.ensures.entered.tickets c.in-Ok.ensures.promises
    c.in_ok-entries.ensures.entered.keys
