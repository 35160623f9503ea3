use Rattle.shelf_search.proofs.Searched.SearchSteps.{ranks-height}
use Rattle.etagere_shelves.proofs.walking.walk_if_few.Goals as goal

pub walk_shelves-walked-requires-clause-least : goal.walk_shelves-walked-requires-clause-least
walk_shelves-walked-requires-clause-least c = ranks-height c.args.records.now c.args.width c.args.height c.requires.short
