use Rattle.shelf_records.proofs.Spelled.StandsKept.{witnesses}
use Rattle.etagere_shelves.proofs.walking.walk_or_settle.Goals as goal

pub walk_if_few-walked-requires-clause-linked : goal.walk_if_few-walked-requires-clause-linked
walk_if_few-walked-requires-clause-linked c = (witnesses c.requires.kept).linked
