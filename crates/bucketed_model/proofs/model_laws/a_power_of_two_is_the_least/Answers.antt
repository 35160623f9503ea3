use Rattle.bucketed_model.proofs.Shelving.Powers.{least-power}
use Rattle.bucketed_model.proofs.model_laws.a_power_of_two_is_the_least.Goals as goal

pub returns : goal.returns
returns c = least-power
