use Rattle.std.proofs.Common.{◌≡◌, ◌+◌, ◌*◌, ◌≤◌, length}
use Rattle.glyph_shelf.specs.Promises.{KeepsCachePromises}
use Rattle.uses.proofs.glyph_frames.draw_frames.Given as goal

abbrev pub invariant-loop-frame : goal.invariant-loop-frame
invariant-loop-frame l =
    (length l.cache.entries + l.drawn.evicted ≡ l.drawn.rendered)
    × (l.drawn.rendered ≤ 5 * l.frame)
    × KeepsCachePromises l.cache

abbrev pub invariant-loop-shown : goal.invariant-loop-shown
invariant-loop-shown l =
    (length l.cache.entries + l.drawn.evicted ≡ l.drawn.rendered)
    × (l.drawn.rendered ≤ 5 * l.frame + l.shown)
    × KeepsCachePromises l.cache
