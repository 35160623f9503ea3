use Rattle.bucketed_model.proofs.Allocating.{allocates-space, grows-space, returns-space}
use Rattle.bucketed_model.proofs.model_laws.each_step_counts_the_space.Goals as goal

pub returns : goal.returns
returns c = (allocates-space, returns-space, grows-space)
