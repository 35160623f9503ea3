use Rattle.etagere_links.proofs.EditLemmas.{set-changed}
use Rattle.bucketed_store.specs.Private.StoreEdits.{flattened}
use Rattle.bucketed_store.proofs.merging.flatten.Goals as goal

pub returns : goal.returns
returns c = set-changed (flattened c.args.across) c.args.shelves.now c.args.number c.index-shelves-number.result c.requires
