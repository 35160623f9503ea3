use Rattle.std.proofs.Common.{ap}
use Rattle.lru.specs.LruCache.{LruCache}
use Rattle.glyph_shelf.specs.Cache.{CacheState}
use Rattle.glyph_map.specs.declared.ticketed.Ticketed.{Ticketed}
use Rattle.glyph_map.proofs.Joined.{keeps, nothing-in_step, nothing-twice}
use Rattle.glyph_map.proofs.map.GlyphMap.new.Goals as goal

pub returns-clause-promises : goal.returns-clause-promises
returns-clause-promises g c =
    let none = ap (λ (l : LruCache g.row.K.Denot (Ticketed g.row.V.Denot)). l.entries) c.in-Ok.ensures in
    let nothing = ap (λ (s : CacheState). s.entries) c.in_ok-cache.ensures.ok in
    keeps g.K.PartialEq.eq c.in-Ok.entries.entries c.in_ok-cache.cache
    (nothing-in_step c.in-Ok.entries.entries c.in_ok-cache.cache.entries none nothing)
    c.in_ok-cache.ensures.promises (nothing-twice g.K.PartialEq.eq c.in-Ok.entries.entries none)

pub invariant_of-result : goal.invariant_of-result
invariant_of-result g c =
    let none = ap (λ (l : LruCache g.row.K.Denot (Ticketed g.row.V.Denot)). l.entries) c.in-Ok.ensures in
    let nothing = ap (λ (s : CacheState). s.entries) c.in_ok-cache.ensures.ok in
    record {
      tickets = nothing-in_step c.in-Ok.entries.entries c.in_ok-cache.cache.entries none nothing;
      promises = c.in_ok-cache.ensures.promises;
      keys = nothing-twice g.K.PartialEq.eq c.in-Ok.entries.entries none;
      unbounded = ap (λ (l : LruCache g.row.K.Denot (Ticketed g.row.V.Denot)). l.cap) c.in-Ok.ensures;
    }
