use Rattle.atlas_pages.proofs.ByRule.{first-by_rule, fullest-by_rule}
use Rattle.atlas_pages.proofs.Chosen.{refused-chosen}
use Rattle.atlas_pages.proofs.laws.a_page_is_chosen_by_the_rule.Goals as goal

pub returns-clause-first : goal.returns-clause-first
returns-clause-first c = λ size pages n chosen. first-by_rule size pages n chosen

pub returns-clause-fullest : goal.returns-clause-fullest
returns-clause-fullest c = λ size pages n chosen. fullest-by_rule size pages n chosen

pub returns-clause-none : goal.returns-clause-none
returns-clause-none c = λ choice size pages none. refused-chosen choice size pages none
