use Rattle.std.proofs.Common.{◌≡◌, ◌-◌, ◌^◌, ◌<◌, drop}
use Rattle.run_scripts.specs.Numbers.{natural_of}
use Rattle.run_scripts.proofs.Digits.{natural_after}
use Rattle.run_scripts.proofs.numbers.natural_of.Given as goal

-- the digits that are left, behind the value so far, stand for what all of them do
abbrev pub invariant-loop-byte : goal.invariant-loop-byte
invariant-loop-byte l =
    (l.value < 2 ^ 64)
    × (natural_after (2 ^ 64 - 1) l.value (drop l.byte-index l.word) ≡ natural_of (2 ^ 64 - 1) l.word)
