use Rattle.std.proofs.Common.{take}
use Rattle.etagere_links.specs.Private.Positions.{ArePositions}
use Rattle.etagere_links.proofs.walking.note_all.Given as goal

-- the places of those so far are noted
abbrev pub invariant-loop-position : goal.invariant-loop-position
invariant-loop-position l = record {
  at_positions : ArePositions l.positions (take l.position l.met);
}
