use Rattle.std.proofs.Common.{◌<◌, List, length, ap, sym}
use Rattle.shelf_records.specs.declared.records.LinkedItem.{LinkedItem}
use Rattle.shelf_records.specs.RecordLists.{Records}
use Rattle.etagere_links.proofs.EditLemmas.{set-changed}
use Rattle.shelf_records.proofs.store.Records.write_item_present.Goals as goal

pub returns : goal.returns
returns c =
    let items : List LinkedItem = c.self.inside.item_records.items in
    let old : Records = record { shelves = c.self.inside.shelf_records.items; items = c.self.inside.item_records.items; first_shelf = c.self.inside.first; unused_items = c.self.inside.unused_items; unused_shelves = c.self.inside.unused_shelves } in
    let within : c.args.number < length items = rw (ap (λ (r : Records). r.items) c.self.view_is) c.requires in
    rw (sym c.self.view_is)
    (ap (λ (written : List LinkedItem). record old { items = written })
    (set-changed (λ (here : LinkedItem). c.args.item) items c.args.number c.args.item within))
