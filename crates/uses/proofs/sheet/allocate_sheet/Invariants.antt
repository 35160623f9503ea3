use Rattle.std.proofs.Common.{◌≡◌, length}
use Rattle.uses.specs.Sheet.{AreAllocations}
use Rattle.uses.proofs.sheet.allocate_sheet.Given as goal

abbrev pub invariant-loop-size : goal.invariant-loop-size
invariant-loop-size l =
    (length l.allocations.items ≡ l.size-index) × AreAllocations l.atlas l.sizes l.allocations.items
