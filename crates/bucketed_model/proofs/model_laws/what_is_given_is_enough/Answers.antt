use Rattle.bucketed_model.proofs.Allocating.{allocates-aligned, allocates-large}
use Rattle.bucketed_model.proofs.model_laws.what_is_given_is_enough.Goals as goal

pub returns : goal.returns
returns c old size allocation new valid h =
    (allocates-large old size allocation new valid h, allocates-aligned old size allocation new valid h)
