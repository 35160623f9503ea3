use Rattle.shelf_records.specs.declared.records.LinkedItem.{LinkedItem}
use Rattle.etagere_links.proofs.EditLemmas.{set-changed}
use Rattle.shelf_records.proofs.field_edits.set_width_present.Goals as goal

pub returns : goal.returns
returns c =
    set-changed (λ (here : LinkedItem). record here { width = c.args.width }) c.args.items.now c.args.number c.index-items-number.result c.requires
