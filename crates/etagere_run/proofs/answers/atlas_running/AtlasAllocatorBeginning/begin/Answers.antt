use Rattle.etagere_run.proofs.RunAnswers.AtlasAnswered.{atlas-suits}
use Rattle.etagere_run.proofs.answers.atlas_running.AtlasAllocatorBeginning.begin.Goals as goal

pub returns-clause-suits : goal.returns-clause-suits
returns-clause-suits c = atlas-suits
