use Rattle.std.proofs.Common.{◌≡◌, ◌+◌, ◌++◌, length, map, take, drop}
use Rattle.shelf_model.specs.Listing.{listed}
use Rattle.etagere_shelves.specs.Plain.{allocation_in}
use Rattle.c_answers.proofs.listing.write_each.Given as goal

-- what is written and what is left are all, and the rest of the buffer is as it was
abbrev pub invariant-loop-allocation : goal.invariant-loop-allocation
invariant-loop-allocation l =
    (goal.iterator-loop-allocation).can_next l.allocation-iterator
    × (goal.iterator-loop-allocation).is_finite l.allocation-iterator
    × (map allocation_in (take l.written l.allocations) ++ l.allocation-iterator ≡ listed l.atlas)
    × (drop l.written l.allocations ≡ drop l.written l.fn.allocations)
    × (l.written + length l.allocation-iterator ≡ length (listed l.atlas))
    × (length l.allocations ≡ length l.fn.allocations)
