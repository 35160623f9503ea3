use Rattle.std.specs.Prelude.{◌≡◌, length}
use Rattle.glyph_shelf.proofs.UsedKeys.Turning.{IsTurned}
use Rattle.glyph_shelf.proofs.used_keys.stamps.forget_frames.Given as goal

abbrev pub invariant-loop-turn : goal.invariant-loop-turn
invariant-loop-turn l =
    record {
      turned : IsTurned l.fn.entries.entries l.turn l.entries.entries;
      cap : l.entries.cap ≡ l.fn.entries.cap;
      all : l.turn-end ≡ length l.fn.entries.entries;
    }
