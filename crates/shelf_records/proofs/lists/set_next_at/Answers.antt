use Rattle.std.proofs.Common.{Some, refl}
use Rattle.etagere_links.proofs.EditLemmas.{set-changed_by}
use Rattle.shelf_records.proofs.lists.set_next_at.Goals as goal

pub returns : goal.returns
returns g c =
    set-changed_by (g.T.Linked.family.with_next c.args.next) _ (Some c.args.number) _ _ _ refl c.requires c.set_next.ensures
