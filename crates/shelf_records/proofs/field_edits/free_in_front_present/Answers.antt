use Rattle.std.proofs.Common.{None, Some, ℕ, false, Option, List, ap, sym, ◌∙◌}
use Rattle.shelf_records.specs.declared.records.LinkedItem.{LinkedItem}
use Rattle.etagere_links.specs.Edits.{changed_at, changed_by}
use Rattle.shelf_records.specs.Records.{free_list}
use Rattle.etagere_links.proofs.EditLemmas.{set-changed, changed-twice}
use Rattle.shelf_records.proofs.field_edits.free_in_front_present.Goals as goal

pub returns-clause-items : goal.returns-clause-items
returns-clause-items c =
    let items : List LinkedItem = c.args.items.now in
    let number : ℕ = c.args.number in
    let first : Option ℕ = c.args.first.now in
    let free : LinkedItem → LinkedItem = λ (here : LinkedItem). record here { allocated = false } in
    let next : LinkedItem → LinkedItem = free_list.with_next first in
    let previous : LinkedItem → LinkedItem = free_list.with_previous None in
    rw (c.set_previous_present.ensures, c.to-link.ensures, c.none-here.ensures)
    (ap (λ (new : List LinkedItem). changed_by first (free_list.with_previous (Some number)) new)
    (set-changed (λ (here : LinkedItem). previous (next (free here))) items number c.index-items-number.result c.requires.here
    ∙ sym (changed-twice previous (λ (here : LinkedItem). next (free here)) items number)
    ∙ ap (λ (new : List LinkedItem). changed_at number previous new) (sym (changed-twice next free items number))))
