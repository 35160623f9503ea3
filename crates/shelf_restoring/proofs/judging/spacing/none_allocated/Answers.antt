use Rattle.std.proofs.Common.{◌≡◌, ℕ, false, sym, ◌∙◌}
use Rattle.std.specs.List.{AllByRecursion}
use Rattle.etagere_base.proofs.DecidingLemmas.{left-all, left-less}
use Rattle.shelf_records.specs.AtlasRecords.{is_allocated_at}
use Rattle.shelf_restoring.proofs.judging.spacing.none_allocated.Goals as goal

pub loop-number-init : goal.loop-number-init
loop-number-init c = left-all _ _

pub loop-number-preserved : goal.loop-number-preserved
loop-number-preserved c =
    let P : ℕ → Type 0 = λ item. is_allocated_at c.args.items.now item ≡ false in
    left-less (AllByRecursion P c.args.numbers.now) (AllByRecursion P) (AllByRecursion P) (P c.from.result) c.loop-number.number-index c.args.numbers.now 0 c.from.result
    (λ rest each. each) (λ rest each. each) c.loop-number-test.true c.from.ensures (sym c.is_allocated.ensures ∙ c.if-is_allocated.false) c.loop-number.invariant
