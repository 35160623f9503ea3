use Rattle.std.proofs.Common.{◌≡◌, ℕ, false}
use Rattle.std.specs.List.{AllByRecursion}
use Rattle.etagere_base.proofs.DecidingLemmas.{IsLeft}
use Rattle.shelf_records.specs.AtlasRecords.{is_allocated_at}
use Rattle.shelf_restoring.proofs.judging.spacing.none_allocated.Given as goal

-- the items that are left keep the fact where all do
abbrev pub invariant-loop-number : goal.invariant-loop-number
invariant-loop-number l =
    let P : ℕ → Type 0 = λ item. is_allocated_at l.items item ≡ false in IsLeft (AllByRecursion P l.numbers) (AllByRecursion P) l.number-index l.numbers
