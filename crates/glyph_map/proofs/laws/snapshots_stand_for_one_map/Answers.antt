use Rattle.glyph_map.proofs.SavedLaws.{map-none, map-one}
use Rattle.glyph_map.proofs.laws.snapshots_stand_for_one_map.Goals as goal

pub returns-clause-one : goal.returns-clause-one
returns-clause-one g c = map-one c.snapshots_stand_for_one_cache.ensures.one

pub returns-clause-none : goal.returns-clause-none
returns-clause-none g c = map-none c.snapshots_stand_for_one_cache.ensures.none g.K.PartialEq.eq
