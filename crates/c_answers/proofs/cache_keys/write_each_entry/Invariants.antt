use Rattle.std.proofs.Common.{◌≡◌, ◌+◌, ◌++◌, length, map, take, drop}
use Rattle.glyph_shelf.specs.Cache.{listed}
use Rattle.c_answers.specs.Crossing.{entry_in}
use Rattle.c_answers.proofs.cache_keys.write_each_entry.Given as goal

-- what is written and what is left are all, and the rest of the buffer is as it was
abbrev pub invariant-loop-entry : goal.invariant-loop-entry
invariant-loop-entry l =
    (goal.iterator-loop-entry).can_next l.entry-iterator
    × (goal.iterator-loop-entry).is_finite l.entry-iterator
    × (map entry_in (take l.written l.entries) ++ l.entry-iterator ≡ listed l.cache)
    × (drop l.written l.entries ≡ drop l.written l.fn.entries)
    × (l.written + length l.entry-iterator ≡ length (listed l.cache))
    × (length l.entries ≡ length l.fn.entries)
