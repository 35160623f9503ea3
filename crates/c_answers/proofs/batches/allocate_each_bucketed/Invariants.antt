use Rattle.std.proofs.Common.{◌≡◌, length, take, drop}
use Rattle.bucketed_model.specs.Atlas.{Allocates}
use Rattle.c_answers.specs.Batches.{GivesOver}
use Rattle.etagere_shelves.specs.Plain.{allocation_in}
use Rattle.c_answers.specs.Crossing.{size_in}
use Rattle.c_answers.proofs.batches.allocate_each_bucketed.Given as goal

-- the sizes so far were given the allocations so far, and the rest of the buffer is as it was
abbrev pub invariant-loop-i : goal.invariant-loop-i
invariant-loop-i l =
    GivesOver (λ before size allocation after. Allocates before (size_in size) (allocation_in allocation) after) l.fn.atlas (take l.i l.sizes) (take l.i l.allocations) l.atlas
    × (drop l.i l.allocations ≡ drop l.i l.fn.allocations)
    × (length l.allocations ≡ length l.fn.allocations)
