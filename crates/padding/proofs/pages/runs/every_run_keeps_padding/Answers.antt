use Rattle.padding.proofs.PaddedPages.PaddedRunsOn.{every_run}
use Rattle.padding.proofs.pages.runs.every_run_keeps_padding.Goals as goal

pub returns : goal.returns
returns c = every_run
