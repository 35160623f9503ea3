use Rattle.std.proofs.Common.{◌≡◌, ℕ, ◌<◌, ◌≤◌, false}
use Rattle.bucket_index.specs.Private.Blocks.{block_of, may_give}
use Rattle.bucket_index.proofs.blocks.behind_narrow_small.Given as goal

-- the blocks so far have no room
abbrev pub invariant-loop-number : goal.invariant-loop-number
invariant-loop-number l =
    (block : ℕ) → block_of 8 l.shelf ≤ block → block < l.number → may_give l.width l.blocks block ≡ false
