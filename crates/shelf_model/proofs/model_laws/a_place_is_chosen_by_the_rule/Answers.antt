use Rattle.shelf_model.proofs.Chosen.ChosenByRule.{chosen-by_rule, none_chosen-none_fits}
use Rattle.shelf_model.proofs.model_laws.a_place_is_chosen_by_the_rule.Goals as goal

pub returns-clause-rule : goal.returns-clause-rule
returns-clause-rule c = λ state sides placement valid h. chosen-by_rule state valid sides placement h

pub returns-clause-any : goal.returns-clause-any
returns-clause-any c = λ state sides valid none. none_chosen-none_fits state valid sides none
