use Rattle.std.proofs.Common.{◌≤◌, length, ap, sym, ◌∙◌, rules, arith}
use Rattle.lru.specs.LruCache.{LruCache}
use Rattle.glyph_map.specs.declared.ticketed.Ticketed.{Ticketed}
use Rattle.glyph_map.proofs.Taken.{last-some, left-length, taken-next}
use Rattle.glyph_map.proofs.ticketed.take_last.Goals as goal

pub unreachable-requires : goal.unreachable-requires
unreachable-requires g c =
    let more : 1 ≤ length c.loop-gone.entries.entries =
    let long = left-length c.args.entries.now.entries c.loop-gone.gone c.loop-gone.taken.items c.loop-gone.entries.entries c.loop-gone.invariant.taken in
    omega arith in
    last-some c.loop-gone.entries.entries more (sym c.pop_lru.ensures.value ∙ c.in_default.is)

pub loop-gone-preserved : goal.loop-gone-preserved
loop-gone-preserved g c =
    let after = ap (λ (l : LruCache g.row.K.Denot (Ticketed g.row.V.Denot)). l.entries) c.pop_lru.ensures.entries in
    let longer = c.push_reserved.ensures.len in
    let kept = c.push_reserved.ensures.capacity in
    let room = c.loop-gone.invariant.room in
    record {
      taken = taken-next c.args.entries.now.entries c.loop-gone.gone c.loop-gone.taken.items c.push_reserved.new.self.items
          c.loop-gone.entries.entries c.pop_lru.new.self.entries c.in-Some.key c.in-Some.field-0-1 c.loop-gone.invariant.taken
          (sym c.pop_lru.ensures.value ∙ c.in-Some.is) (search rules) after;
      cap = ap (λ (l : LruCache g.row.K.Denot (Ticketed g.row.V.Denot)). l.cap) c.pop_lru.ensures.entries ∙ c.loop-gone.invariant.cap;
      room = omega arith;
    }
