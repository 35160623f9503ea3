use Rattle.std.specs.Prelude.{◌≡◌, ◌+◌, drop, length}
use Rattle.glyph_shelf.specs.UsedKeys.Private.Stamps.{stamped_first}
use Rattle.glyph_shelf.proofs.used_keys.stamps.stamped_first.Given as goal

abbrev pub invariant-loop-count : goal.invariant-loop-count
invariant-loop-count l =
    record {
      rest : l.rest ≡ drop l.count l.entries.entries;
      counted : stamped_first l.frame l.entries.entries ≡ l.count + stamped_first l.frame (drop l.count l.entries.entries);
      all : l.count-end ≡ length l.entries.entries;
    }
