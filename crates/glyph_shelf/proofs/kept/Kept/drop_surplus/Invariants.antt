use Rattle.std.specs.Prelude.{◌+◌, ◌-◌, ◌≤◌, vec_capacity, vec_len}
use Rattle.glyph_shelf.specs.Promises.{KeepsCachePromises}
use Rattle.glyph_shelf.proofs.Shrinking.{IsShrinking}
use Rattle.glyph_shelf.proofs.kept.Kept.drop_surplus.Given as goal

abbrev pub invariant-loop-gone : goal.invariant-loop-gone
invariant-loop-gone l =
    record {
      shrinking : IsShrinking l.fn.self l.gone l.evicted.items l.self;
      room : vec_len l.evicted + (l.surplus - l.gone) ≤ vec_capacity l.evicted;
      promises : KeepsCachePromises l.self;
    }
