use Rattle.etagere_links.proofs.EditLemmas.{set-changed}
use Rattle.bucketed_store.specs.Private.StoreEdits.{given_from}
use Rattle.bucketed_store.proofs.store.count_given.Goals as goal

pub returns : goal.returns
returns c = set-changed (given_from c.args.room) c.args.shelves.now c.args.number c.index-shelves-number.result c.requires.number
