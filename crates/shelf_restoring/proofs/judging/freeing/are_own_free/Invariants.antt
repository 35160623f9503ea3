use Rattle.std.proofs.Common.{◌≡◌, ℕ, true}
use Rattle.std.specs.List.{AllByRecursion}
use Rattle.etagere_base.proofs.DecidingLemmas.{IsLeft}
use Rattle.shelf_records.specs.Private.Judging.{is_own_free}
use Rattle.shelf_restoring.proofs.judging.freeing.are_own_free.Given as goal

-- the items that are left keep the fact where all do
abbrev pub invariant-loop-number : goal.invariant-loop-number
invariant-loop-number l =
    let P : ℕ → Type 0 = λ item. is_own_free l.items l.marks l.shelf item ≡ true in IsLeft (AllByRecursion P l.numbers) (AllByRecursion P) l.number-index l.numbers
