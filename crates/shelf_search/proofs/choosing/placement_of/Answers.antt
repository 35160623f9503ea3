use Rattle.std.proofs.Common.{sym, arith}
use Rattle.shelf_search.proofs.Searched.FoundPlacements.{none-chosen, some-chosen}
use Rattle.shelf_records.proofs.Spelled.StandsKept.{witnesses}
use Rattle.shelf_search.proofs.choosing.placement_of.Goals as goal

pub returns-in_err-placement-clause-none : goal.returns-in_err-placement-clause-none
returns-in_err-placement-clause-none c =
    λ _ size is. none-chosen c.args.frame.now c.args.records.now size c.args.sides c.requires.kept is (sym c.in_err-placement.ensures.value)

pub returns-then-items_in_use-splits-le-MOST_ITEMS-clause-some : goal.returns-then-items_in_use-splits-le-MOST_ITEMS-clause-some
returns-then-items_in_use-splits-le-MOST_ITEMS-clause-some c =
    λ size is. (some-chosen c.args.frame.now c.args.records.now size c.args.sides c.in_ok-placement.placement c.requires.kept is (sym c.in_ok-placement.ensures.value)).0
    (omega (arith, c.requires.counted, c.splits.ensures.value, c.if-items_in_use-splits-le-MOST_ITEMS.true))

pub returns-else-items_in_use-splits-le-MOST_ITEMS-clause-none : goal.returns-else-items_in_use-splits-le-MOST_ITEMS-clause-none
returns-else-items_in_use-splits-le-MOST_ITEMS-clause-none c =
    λ _ size is. (some-chosen c.args.frame.now c.args.records.now size c.args.sides c.in_ok-placement.placement c.requires.kept is (sym c.in_ok-placement.ensures.value)).1
    (omega (arith, c.requires.counted, c.splits.ensures.value, c.if-items_in_use-splits-le-MOST_ITEMS.false))

pub overflow_add-items_in_use : goal.overflow_add-items_in_use
overflow_add-items_in_use c = omega (arith, c.requires.counted, c.splits.ensures.few, (witnesses c.requires.kept).valid.peak_items)
