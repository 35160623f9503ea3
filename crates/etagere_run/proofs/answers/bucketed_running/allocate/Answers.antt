use Rattle.std.proofs.Common.{refl}
use Rattle.etagere_run.specs.Answers.Private.Given.{with_given}
use Rattle.run_scripts.specs.declared.commands.Reply.TheVariants.{Placed}
use Rattle.etagere_run.proofs.RunAnswers.BucketedAnswers.{placed}
use Rattle.etagere_run.proofs.answers.bucketed_running.allocate.Goals as goal

pub returns : goal.returns
returns c position entries tied =
    placed position c.args.size c.in-Some.allocation entries (with_given position (Placed c.in-Some.allocation) entries)
    c.args.atlas.now c.allocate.new.self tied (rw c.in-Some.is at c.in-Ok.ensures.placed) refl
