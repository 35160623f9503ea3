use Rattle.atlas_pages.proofs.SavedLemmas.{pages-none, pages-one}
use Rattle.atlas_pages.proofs.laws.snapshots_stand_for_one_state.Goals as goal

pub returns-clause-one : goal.returns-clause-one
returns-clause-one c = pages-one

pub returns-clause-none : goal.returns-clause-none
returns-clause-none c = pages-none
