use Rattle.std.specs.Prelude.{◌≡◌, ◌++◌, length, map}
use Rattle.glyph_shelf.specs.UsedKeys.Private.Stamps.{unstamped}
use Rattle.glyph_shelf.specs.Saved.{saved_key}
use Rattle.glyph_shelf.proofs.saving.saved_keys.Given as goal

abbrev pub invariant-loop-key : goal.invariant-loop-key
invariant-loop-key l = map saved_key l.keys.entries ≡ l.saved.items ++ map saved_key (unstamped l.rest)

abbrev pub decreases-loop-key : goal.decreases-loop-key
decreases-loop-key l = length l.rest
