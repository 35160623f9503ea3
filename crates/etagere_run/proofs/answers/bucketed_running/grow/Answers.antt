use Rattle.etagere_run.proofs.RunAnswers.BucketedAnswers.{grown}
use Rattle.etagere_run.proofs.answers.bucketed_running.grow.Goals as goal

pub returns-in-Ok : goal.returns-in-Ok
returns-in-Ok c position entries tied = grown position c.args.size entries c.args.atlas.now c.grow.new.self tied c.in-Ok.ensures.ok
