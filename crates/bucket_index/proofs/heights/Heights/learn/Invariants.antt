use Rattle.std.proofs.Common.{take}
use Rattle.bucket_index.specs.Private.Heights.{AreAllWithin}
use Rattle.bucket_index.proofs.heights.Heights.learn.Given as goal

-- the shelves up to a number are known
abbrev pub invariant-loop-number : goal.invariant-loop-number
invariant-loop-number l = AreAllWithin l.self (take l.number l.shelves)
