use Rattle.shelf_model.proofs.Returned.Restored.{taken_returned}
use Rattle.shelf_model.proofs.model_laws.a_return_restores_the_layout.Goals as goal

pub returns : goal.returns
returns c = taken_returned
