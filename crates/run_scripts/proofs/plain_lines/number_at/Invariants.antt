use Rattle.std.proofs.Common.{◌≡◌, ℕ, ◌<◌, ◌≤◌, ◌++◌, List, drop, take}
use Rattle.std.specs.Prelude.{◌-◌, ◌^◌}
use Rattle.run_scripts.proofs.Digits.{natural_after}
use Rattle.run_scripts.proofs.plain_lines.number_at.Given as goal

-- the digits so far stand for the value, whatever comes after them
abbrev pub invariant-loop-index : goal.invariant-loop-index
invariant-loop-index l =
    (l.value < 10 ^ l.index)
    × ((greatest : ℕ) (end : List ℕ) → 2 ^ 31 - 1 ≤ greatest → natural_after greatest 0 (take l.index (drop l.from l.bytes) ++ end) ≡ natural_after greatest l.value end)
