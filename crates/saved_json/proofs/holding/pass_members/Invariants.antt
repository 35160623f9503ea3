use Rattle.std.proofs.Common.{length}
use Rattle.saved_json.specs.Private.Held.{arrays_of}
use Rattle.saved_json.proofs.PassedMembers.{PassedMembers}
use Rattle.saved_json.proofs.holding.pass_members.Given as goal

abbrev pub invariant-loop-kept : goal.invariant-loop-kept
invariant-loop-kept g l =
    PassedMembers (arrays_of g.S.Spelled.spells l.shelves l.name g.T.Spelled.spells l.others) 126 l.initial.reader
    l.kept.items l.reader

abbrev pub decreases-loop-kept : goal.decreases-loop-kept
decreases-loop-kept g l = length l.reader
