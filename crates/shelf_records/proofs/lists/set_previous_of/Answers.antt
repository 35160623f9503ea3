use Rattle.std.proofs.Common.{sym, ◌∙◌}
use Rattle.etagere_links.proofs.EditLemmas.{set-changed_by, changed_by-past}
use Rattle.shelf_records.proofs.lists.set_previous_of.Goals as goal

pub returns-then-number-records : goal.returns-then-number-records
returns-then-number-records g c =
    set-changed_by (g.T.Linked.family.with_previous c.args.previous) _ _ _ _ _ (sym c.number.ensures.value ∙ c.in-Some.is) c.if-number-records.true c.set_previous.ensures

pub returns-else-number-records : goal.returns-else-number-records
returns-else-number-records g c =
    changed_by-past _ _ _ _ (sym c.number.ensures.value ∙ c.in-Some.is) c.if-number-records.false
