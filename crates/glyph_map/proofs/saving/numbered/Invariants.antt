use Rattle.std.specs.Prelude.{◌≡◌, ◌++◌, length}
use Rattle.glyph_map.specs.Private.Numbering.{numbered_from}
use Rattle.glyph_map.proofs.saving.numbered.Given as goal

abbrev pub invariant-loop-first : goal.invariant-loop-first
invariant-loop-first l = numbered_from 0 l.fn.saved ≡ l.keys.items ++ numbered_from (length l.keys.items) l.rest

abbrev pub decreases-loop-first : goal.decreases-loop-first
decreases-loop-first l = length l.rest
