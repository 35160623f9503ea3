use Rattle.std.proofs.Common.{false, sym, ◌∙◌}
use Rattle.shelf_records.specs.declared.records.LinkedItem.{LinkedItem}
use Rattle.etagere_links.proofs.EditLemmas.{set-changed, changed-twice}
use Rattle.shelf_records.proofs.field_edits.free_and_make_unused_present.Goals as goal

pub returns-clause-items : goal.returns-clause-items
returns-clause-items c =
    let free : LinkedItem → LinkedItem = λ (here : LinkedItem). record here { allocated = false } in
    let left_unused : LinkedItem → LinkedItem = λ (here : LinkedItem). record here { next = c.args.top.now } in
    set-changed (λ (here : LinkedItem). left_unused (free here)) c.args.items.now c.args.number c.index-items-number.result c.requires.here
    ∙ sym (changed-twice left_unused free c.args.items.now c.args.number)
