use Rattle.std.proofs.Common.{rules, arith, ◌≡◌, true}
use Rattle.std.proofs.Math.Seq.{take-suc}
use Rattle.bucketed_model.specs.Returning.{bucket_returned, is_known}
use Rattle.c_answers.proofs.BatchSteps.{steps_on}
use Rattle.c_answers.proofs.batches.return_each_bucketed.Goals as goal

pub loop-i-preserved : goal.loop-i-preserved
loop-i-preserved c =
    steps_on (λ before id after. (is_known before id ≡ true) × (after ≡ bucket_returned before id)) c.args.atlas.now c.args.ids.now c.loop-i.i c.loop-i.atlas _ c.deallocate.new.self
    (omega arith) (take-suc c.args.ids.now c.loop-i.i 0 (omega arith)) c.loop-i.invariant (search rules)
