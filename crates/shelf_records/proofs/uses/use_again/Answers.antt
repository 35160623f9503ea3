use Rattle.std.proofs.Common.{Some, refl}
use Rattle.shelf_records.specs.RecordUses.{used_again}
use Rattle.etagere_links.proofs.EditLemmas.{set-changed, changed_by-past}
use Rattle.shelf_records.proofs.uses.use_again.Goals as goal

pub returns-then-number-items : goal.returns-then-number-items
returns-then-number-items c =
    set-changed used_again c.args.items.now c.args.number c.index-items-number.result c.if-number-items.true

pub returns-else-number-items : goal.returns-else-number-items
returns-else-number-items c = changed_by-past used_again c.args.items.now (Some c.args.number) c.args.number refl c.if-number-items.false
