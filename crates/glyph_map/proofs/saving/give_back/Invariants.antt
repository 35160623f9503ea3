use Rattle.std.specs.Prelude.{◌≡◌, ◌+◌, ◌≤◌, ◌++◌, length, vec_capacity, vec_len}
use Rattle.glyph_map.specs.Private.Evicting.{unticketed}
use Rattle.glyph_map.proofs.saving.give_back.Given as goal

abbrev pub invariant-loop-key : goal.invariant-loop-key
invariant-loop-key g l =
    record {
      given : l.fn.pairs.items ++ unticketed l.fn.entries.entries ≡ l.pairs.items ++ unticketed l.entries.entries;
      room : vec_len l.pairs + length l.entries.entries ≤ vec_capacity l.pairs;
    }

abbrev pub decreases-loop-key : goal.decreases-loop-key
decreases-loop-key g l = length l.entries.entries
