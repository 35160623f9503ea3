use Rattle.glyph_shelf.proofs.SavedLemmas.{cache-none, cache-one}
use Rattle.glyph_shelf.proofs.laws.snapshots_stand_for_one_cache.Goals as goal

pub returns-clause-one : goal.returns-clause-one
returns-clause-one c = cache-one

pub returns-clause-none : goal.returns-clause-none
returns-clause-none c = cache-none
