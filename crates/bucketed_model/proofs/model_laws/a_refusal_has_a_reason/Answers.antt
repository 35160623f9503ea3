use Rattle.bucketed_model.proofs.Refusing.{few-are-left, one-is-used_up, refuses-exactly, widest-fits}
use Rattle.bucketed_model.proofs.model_laws.a_refusal_has_a_reason.Goals as goal

pub returns-clause-exact : goal.returns-clause-exact
returns-clause-exact c = refuses-exactly

pub returns-clause-widest : goal.returns-clause-widest
returns-clause-widest c = widest-fits

pub returns-clause-few : goal.returns-clause-few
returns-clause-few c = few-are-left

pub returns-clause-used_up : goal.returns-clause-used_up
returns-clause-used_up c = one-is-used_up
