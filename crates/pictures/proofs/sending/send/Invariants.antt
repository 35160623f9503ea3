use Rattle.std.proofs.Common.{length, ◌-◌, ◌≤◌, take}
use Rattle.std.specs.Io.KnownBytes.{Appends}
use Rattle.pictures.proofs.sending.send.Given as goal

-- what was sent so far is a beginning of the text
abbrev pub invariant-loop-sent : goal.invariant-loop-sent
invariant-loop-sent g l =
    (l.sent ≤ length l.text)
    × Appends (g.W.Write.contents l.fn.writer) (g.W.Write.contents l.writer) (take l.sent l.text)

abbrev pub decreases-loop-sent : goal.decreases-loop-sent
decreases-loop-sent g l = length l.text - l.sent
