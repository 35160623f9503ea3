use Rattle.etagere_base.proofs.Least.{first_least-is, first_least-none}
use Rattle.shelf_model.proofs.model_laws.the_first_least_is_chosen.Goals as goal

pub returns-clause-least : goal.returns-clause-least
returns-clause-least c = first_least-is

pub returns-clause-any : goal.returns-clause-any
returns-clause-any c = first_least-none
