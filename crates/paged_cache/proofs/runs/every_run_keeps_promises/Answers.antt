use Rattle.paged_cache.proofs.PagedRunsOn.{every_run}
use Rattle.paged_cache.proofs.runs.every_run_keeps_promises.Goals as goal

pub returns : goal.returns
returns c = every_run
