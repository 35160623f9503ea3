use Rattle.padding.proofs.PaddedCaches.PaddedRunsOn.{every_run}
use Rattle.padding.proofs.caches.runs.every_run_keeps_promises.Goals as goal

pub returns : goal.returns
returns c = every_run
