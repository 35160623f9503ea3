use Rattle.std.proofs.Common.{◌<◌, ◌≤◌, Some, List, length, arith, ap, sym, refl}
use Rattle.shelf_records.specs.declared.records.LinkedItem.{LinkedItem}
use Rattle.shelf_records.specs.RecordLists.{Records}
use Rattle.etagere_links.proofs.EditLemmas.{set-changed, changed_by-past}
use Rattle.shelf_records.proofs.store.Records.write_item.Goals as goal

pub returns-then-number-len : goal.returns-then-number-len
returns-then-number-len c =
    let items : List LinkedItem = c.self.inside.item_records.items in
    let old : Records = record { shelves = c.self.inside.shelf_records.items; items = c.self.inside.item_records.items; first_shelf = c.self.inside.first; unused_items = c.self.inside.unused_items; unused_shelves = c.self.inside.unused_shelves } in
    let within : c.args.number < length items = omega (arith, c.len.ensures, c.if-number-len.true) in
    rw (sym c.self.view_is)
    (ap (λ (written : List LinkedItem). record old { items = written })
    (set-changed (λ (here : LinkedItem). c.args.item) items c.args.number c.args.item within))

pub returns-else-number-len : goal.returns-else-number-len
returns-else-number-len c =
    let items : List LinkedItem = c.self.inside.item_records.items in
    let old : Records = record { shelves = c.self.inside.shelf_records.items; items = c.self.inside.item_records.items; first_shelf = c.self.inside.first; unused_items = c.self.inside.unused_items; unused_shelves = c.self.inside.unused_shelves } in
    let past : length items ≤ c.args.number = omega (arith, c.len.ensures, c.if-number-len.false) in
    rw (sym c.self.view_is)
    (ap (λ (kept : List LinkedItem). record old { items = kept })
    (changed_by-past (λ (here : LinkedItem). c.args.item) items (Some c.args.number) c.args.number refl past))
