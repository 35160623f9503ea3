use Rattle.std.proofs.Common.{◌<◌, List, length, ap, sym, ◌∙◌}
use Rattle.std.proofs.Math.ListN.{set}
use Rattle.shelf_records.specs.declared.records.LinkedShelf.{LinkedShelf}
use Rattle.shelf_records.specs.RecordLists.{Records}
use Rattle.etagere_links.proofs.EditLemmas.{set-changed}
use Rattle.shelf_records.proofs.store.Records.set_empty_present.Goals as goal

pub returns : goal.returns
returns c =
    let shelves : List LinkedShelf = c.self.inside.shelf_records.items in
    let old : Records = record { shelves = c.self.inside.shelf_records.items; items = c.self.inside.item_records.items; first_shelf = c.self.inside.first; unused_items = c.self.inside.unused_items; unused_shelves = c.self.inside.unused_shelves } in
    let within : c.args.shelf < length shelves = rw (ap (λ (r : Records). r.shelves) c.self.view_is) c.requires in
    rw (sym c.self.view_is)
    (ap (λ (written : List LinkedShelf). record old { shelves = written })
    (ap (λ (here : LinkedShelf). set shelves c.args.shelf ((λ (here : LinkedShelf). record here { is_empty = c.args.is_empty }) here)) c.index_mut-here.ensures.value ∙ set-changed (λ (here : LinkedShelf). record here { is_empty = c.args.is_empty }) shelves c.args.shelf c.index_mut-here.result.now within))
