use Rattle.std.proofs.Common.{◌≡◌, ℕ, ◌<◌, ◌≤◌, Some}
use Rattle.std.specs.Prelude.{slice_get}
use Rattle.bucketed_records.specs.declared.records.KeptShelf.{KeptShelf}
use Rattle.bucket_index.specs.Private.Blocks.{IsKnown}
use Rattle.bucket_index.proofs.blocks.counted.Given as goal

-- the shelves so far are known
abbrev pub invariant-loop-number : goal.invariant-loop-number
invariant-loop-number l =
    (number : ℕ) (kept : KeptShelf) → l.from ≤ number → number < l.number → slice_get l.shelves number ≡ Some kept → IsKnown kept l.block
