use Rattle.std.proofs.Common.{◌≡◌, take, true}
use Rattle.shelf_model.specs.Places.{is_allocated}
use Rattle.shelf_model.specs.Returning.{returned}
use Rattle.c_answers.specs.Batches.{StepsOver}
use Rattle.c_answers.proofs.batches.return_each.Given as goal

-- the ids so far came back
abbrev pub invariant-loop-i : goal.invariant-loop-i
invariant-loop-i l =
    StepsOver (λ before id after. (is_allocated before id ≡ true) × (after ≡ returned before id)) l.fn.atlas (take l.i l.ids) l.atlas
