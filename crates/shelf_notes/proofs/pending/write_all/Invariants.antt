use Rattle.std.proofs.Common.{◌≡◌, take}
use Rattle.shelf_notes.proofs.pending.write_all.Given as goal

-- so many are written
abbrev pub invariant-loop-at : goal.invariant-loop-at
invariant-loop-at l = take l.at l.kept ≡ take l.at l.shelves
