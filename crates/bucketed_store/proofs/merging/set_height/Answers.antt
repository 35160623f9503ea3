use Rattle.etagere_links.proofs.EditLemmas.{set-changed}
use Rattle.bucketed_store.specs.Private.StoreEdits.{to_height}
use Rattle.bucketed_store.proofs.merging.set_height.Goals as goal

pub returns : goal.returns
returns c = set-changed (to_height c.args.height) c.args.shelves.now c.args.number c.index-shelves-number.result c.requires
