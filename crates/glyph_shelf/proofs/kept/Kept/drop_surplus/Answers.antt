use Rattle.std.proofs.Common.{◌≡◌, ◌+◌, ◌++◌, [], ◌∷◌, arith}
use Rattle.std.specs.Vec.{vec_len}
use Rattle.glyph_shelf.proofs.Shrinking.{shrinking-more}
use Rattle.glyph_shelf.proofs.kept.Kept.drop_surplus.Goals as goal

pub loop-gone-preserved : goal.loop-gone-preserved
loop-gone-preserved c =
    let longer : c.push.new.self.items ≡ c.loop-gone.evicted.items ++ c.in-Some.key ∷ [] = rw c.unwrap.ensures at c.push.ensures.items in
    let long : vec_len c.push.new.self ≡ vec_len c.loop-gone.evicted + 1 = rw c.unwrap.ensures at c.push.ensures.len in
    let room = c.loop-gone.invariant.room in
    let kept = c.push.ensures.capacity in
    record {
      shrinking = shrinking-more c.args.self.now c.loop-gone.invariant.shrinking c.in-Some.ensures.key longer c.drop_last.ensures.dropped;
      room = omega arith;
      promises = c.drop_last.ensures.promises;
    }
