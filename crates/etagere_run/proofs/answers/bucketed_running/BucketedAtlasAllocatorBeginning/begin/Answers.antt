use Rattle.etagere_run.proofs.RunAnswers.BucketedAnswered.{bucketed-suits}
use Rattle.etagere_run.proofs.answers.bucketed_running.BucketedAtlasAllocatorBeginning.begin.Goals as goal

pub returns-clause-suits : goal.returns-clause-suits
returns-clause-suits c = bucketed-suits
