use Rattle.std.proofs.Common.{◌≡◌, ◌*◌, ◌^◌, ◌≤◌, length, take}
use Rattle.bucketed_restoring.specs.Private.Walking.{AreKeptSoFar}
use Rattle.bucketed_restoring.proofs.walking.judged_shelves.Given as goal

-- the shelves before this one were judged
abbrev pub invariant-loop-number : goal.invariant-loop-number
invariant-loop-number l =
    AreKeptSoFar l.frame l.buckets (take l.number l.shelves) l.kept.items l.marks l.steps l.space
    × (l.room ≡ l.fn.room)
    × (length l.marks ≡ length l.buckets)
    × (l.space ≤ l.steps * 2 ^ 32)
    × (l.steps ≤ length l.buckets)
