use Rattle.std.proofs.Common.{ℕ, ◌<◌, length, ap, ◌∙◌, arith}
use Rattle.lru.specs.LruCache.{LruCache}
use Rattle.glyph_shelf.specs.declared.used_keys.stamps.Entry.{Entry}
use Rattle.glyph_shelf.proofs.UsedKeys.Turning.{turned-more, turned-some}
use Rattle.glyph_shelf.proofs.used_keys.stamps.forget_frames.Goals as goal

pub turn_one-requires : goal.turn_one-requires
turn_one-requires c =
    let less : c.loop-turn.turn < length c.args.entries.now.entries = let all = c.loop-turn.invariant.all in omega arith in
    turned-some c.args.entries.now.entries c.loop-turn.entries.entries c.loop-turn.turn less c.loop-turn.invariant.turned

pub loop-turn-preserved : goal.loop-turn-preserved
loop-turn-preserved c =
    let before = c.args.entries.now.entries in
    let less : c.loop-turn.turn < length before = let all = c.loop-turn.invariant.all in omega arith in
    record {
      turned = rw c.turn_one.ensures (turned-more before c.loop-turn.entries.entries c.loop-turn.turn less c.loop-turn.invariant.turned);
      cap = ap (λ (l : LruCache ℕ Entry). l.cap) c.turn_one.ensures ∙ c.loop-turn.invariant.cap;
      all = c.loop-turn.invariant.all;
    }
