use Rattle.std.specs.Prelude.{length}
use Rattle.std.specs.NonZero.{non_zero_usize_get}
use Rattle.glyph_shelf.proofs.Restoring.{AreRestoring}
use Rattle.glyph_shelf.proofs.saving.restored_keys.Given as goal

abbrev pub invariant-loop-last : goal.invariant-loop-last
invariant-loop-last l = AreRestoring l.fn.saved l.rest (non_zero_usize_get l.fn.capacity) l.atlas l.keys l.left

abbrev pub decreases-loop-last : goal.decreases-loop-last
decreases-loop-last l = length l.rest
