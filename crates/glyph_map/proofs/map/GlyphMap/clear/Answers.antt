use Rattle.std.proofs.Common.{ap, ◌∙◌}
use Rattle.lru.specs.LruCache.{LruCache}
use Rattle.glyph_shelf.specs.Cache.{CacheState}
use Rattle.glyph_map.specs.declared.ticketed.Ticketed.{Ticketed}
use Rattle.glyph_map.proofs.Joined.{keeps, nothing-in_step, nothing-twice}
use Rattle.glyph_map.proofs.map.GlyphMap.clear.Goals as goal

pub returns-clause-promises : goal.returns-clause-promises
returns-clause-promises g c =
    let none = ap (λ (l : LruCache g.row.K.Denot (Ticketed g.row.V.Denot)). l.entries) c.clear.ensures in
    let nothing = ap (λ (s : CacheState). s.entries) c.clear-2.ensures.cleared in
    keeps g.K.PartialEq.eq c.clear.new.self.entries c.clear-2.new.self
    (nothing-in_step c.clear.new.self.entries c.clear-2.new.self.entries none nothing)
    c.clear-2.ensures.promises (nothing-twice g.K.PartialEq.eq c.clear.new.self.entries none)

pub invariant_of-self : goal.invariant_of-self
invariant_of-self g c =
    let none = ap (λ (l : LruCache g.row.K.Denot (Ticketed g.row.V.Denot)). l.entries) c.clear.ensures in
    let nothing = ap (λ (s : CacheState). s.entries) c.clear-2.ensures.cleared in
    record {
      tickets = nothing-in_step c.clear.new.self.entries c.clear-2.new.self.entries none nothing;
      promises = c.clear-2.ensures.promises;
      keys = nothing-twice g.K.PartialEq.eq c.clear.new.self.entries none;
      unbounded = ap (λ (l : LruCache g.row.K.Denot (Ticketed g.row.V.Denot)). l.cap) c.clear.ensures ∙ c.self.invariant.unbounded;
    }
