use Rattle.std.proofs.Common.{◌≡◌, ℕ, ◌<◌, ◌≤◌, Some}
use Rattle.std.specs.Prelude.{slice_get}
use Rattle.bucket_index.specs.Private.Blocks.{Block, IsPart}
use Rattle.bucket_index.proofs.blocks.gathered.Given as goal

-- the blocks so far are parts
abbrev pub invariant-loop-number : goal.invariant-loop-number
invariant-loop-number l =
    (number : ℕ) (block : Block) → l.from ≤ number → number < l.number → slice_get l.blocks number ≡ Some block → IsPart block l.whole
