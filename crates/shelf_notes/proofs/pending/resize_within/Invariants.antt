use Rattle.std.proofs.Common.{◌≡◌, ◌-◌, ◌≤◌, length, vec_capacity}
use Rattle.shelf_notes.proofs.pending.resize_within.Given as goal

-- it never gets too long
abbrev pub invariant-loop-known : goal.invariant-loop-known
invariant-loop-known l = record {
  short : length l.standing.items ≤ l.count;
  room : vec_capacity l.standing ≡ vec_capacity l.fn.standing;
}

abbrev pub decreases-loop-known : goal.decreases-loop-known
decreases-loop-known l = l.count - length l.standing.items
