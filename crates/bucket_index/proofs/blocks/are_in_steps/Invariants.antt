use Rattle.std.proofs.Common.{◌≡◌, ℕ, ◌<◌, Some}
use Rattle.std.specs.Prelude.{slice_get, ◌%◌}
use Rattle.bucketed_records.specs.declared.records.KeptShelf.{KeptShelf}
use Rattle.bucket_index.proofs.blocks.are_in_steps.Given as goal

-- the heights so far are in steps
abbrev pub invariant-loop-number : goal.invariant-loop-number
invariant-loop-number l =
    (number : ℕ) (kept : KeptShelf) → number < l.number → slice_get l.shelves number ≡ Some kept → kept.shelf.height % 8 ≡ 0
