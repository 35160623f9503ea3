use Rattle.std.specs.Prelude.{◌≡◌, ◌+◌, ◌-◌, ◌≤◌, vec_capacity, vec_len}
use Rattle.glyph_map.proofs.Taken.{AreTaken}
use Rattle.glyph_map.proofs.ticketed.take_last.Given as goal

abbrev pub invariant-loop-gone : goal.invariant-loop-gone
invariant-loop-gone g l =
    record {
      taken : AreTaken l.fn.entries.entries l.gone l.taken.items l.entries.entries;
      cap : l.entries.cap ≡ l.fn.entries.cap;
      room : vec_len l.taken + (l.count - l.gone) ≤ vec_capacity l.taken;
    }
