use Rattle.std.proofs.Common.{◌≡◌, take, true}
use Rattle.bucketed_model.specs.Returning.{bucket_returned, is_known}
use Rattle.c_answers.specs.Batches.{StepsOver}
use Rattle.c_answers.proofs.batches.return_each_bucketed.Given as goal

-- the ids so far came back
abbrev pub invariant-loop-i : goal.invariant-loop-i
invariant-loop-i l =
    StepsOver (λ before id after. (is_known before id ≡ true) × (after ≡ bucket_returned before id)) l.fn.atlas (take l.i l.ids) l.atlas
