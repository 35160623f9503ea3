use Rattle.std.proofs.Common.{Some, refl}
use Rattle.etagere_links.proofs.EditLemmas.{set-changed_by}
use Rattle.bucketed_store.specs.Private.Grows as spec
use Rattle.bucketed_store.proofs.growing.set_widened.Goals as goal

pub returns : goal.returns
returns c =
    set-changed_by (spec.widened_kept c.args.count c.args.first) c.args.shelves.now (Some c.args.number) c.args.number c.widened_kept-kept.result c.index-shelves-number.result
    refl c.requires c.widened_kept-kept.ensures
