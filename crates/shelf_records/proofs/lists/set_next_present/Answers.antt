use Rattle.std.proofs.Common.{sym, ◌∙◌}
use Rattle.etagere_links.proofs.EditLemmas.{set-changed_by}
use Rattle.shelf_records.proofs.lists.set_next_present.Goals as goal

pub returns-in-Some : goal.returns-in-Some
returns-in-Some g c =
    let names = sym c.number.ensures.value ∙ c.in-Some.is in
    set-changed_by (g.T.Linked.family.with_next c.args.next) _ _ _ _ _ names (c.requires _ names) c.set_next.ensures
