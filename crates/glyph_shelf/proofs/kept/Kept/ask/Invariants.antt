use Rattle.std.specs.Prelude.{◌-◌, ◌≤◌, length}
use Rattle.glyph_shelf.specs.Private.Asking.{Asks}
use Rattle.glyph_shelf.specs.Promises.{KeepsCachePromises}
use Rattle.glyph_shelf.proofs.kept.Kept.ask.Given as goal

abbrev pub invariant-loop-turn : goal.invariant-loop-turn
invariant-loop-turn g l =
    record {
      callable : goal.F-IsAlwaysCallable g l.keeps;
      asked : Asks (goal.F-step g) l.turn l.fn.keeps l.fn.self l.keeps l.self;
      left : l.count - l.turn ≤ length l.self.entries;
      promises : KeepsCachePromises l.self;
    }
