use Rattle.bucketed_model.proofs.Allocating.{allocates-valid}
use Rattle.bucketed_model.proofs.Validity.EmptiedValid.{returned-valid}
use Rattle.bucketed_model.proofs.Validity.GrownValid.{grows-valid}
use Rattle.bucketed_model.proofs.Promises.{valid-promises}
use Rattle.bucketed_model.proofs.Validity.TakenValid.{fresh-valid}
use Rattle.bucketed_model.proofs.model_laws.each_step_keeps_a_state_valid.Goals as goal

pub returns-clause-steps : goal.returns-clause-steps
returns-clause-steps c = (fresh-valid, allocates-valid, returned-valid, grows-valid)

pub returns-clause-promises : goal.returns-clause-promises
returns-clause-promises c = valid-promises
