use Rattle.std.proofs.Common.{length, ap, arith}
use Rattle.glyph_shelf.specs.Cache.{CacheState}
use Rattle.glyph_shelf.specs.Sizing.{surplus}
use Rattle.glyph_shelf.proofs.Callers.{length-after_dropping}
use Rattle.glyph_shelf.proofs.cache.GlyphCache.set_capacity.Goals as goal

pub set_capacity-requires : goal.set_capacity-requires
set_capacity-requires c =
    let left = ap (λ (s : CacheState). length s.entries) c.in_ok-drop_surplus.ensures.ok in
    let dropped = length-after_dropping c.self.inside.kept (surplus c.self.inside.kept c.get.result) in
    let same = c.get.ensures.value in
    omega arith
