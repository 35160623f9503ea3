use Rattle.std.proofs.Common.{◌<◌, ◌≤◌, Some, List, length, arith, ap, sym, ◌∙◌, refl}
use Rattle.std.proofs.Math.ListN.{set}
use Rattle.shelf_records.specs.declared.records.LinkedShelf.{LinkedShelf}
use Rattle.shelf_records.specs.RecordLists.{Records}
use Rattle.etagere_links.proofs.EditLemmas.{set-changed, changed_by-past}
use Rattle.shelf_records.proofs.store.Records.set_height.Goals as goal

pub returns-then-shelf-len : goal.returns-then-shelf-len
returns-then-shelf-len c =
    let shelves : List LinkedShelf = c.self.inside.shelf_records.items in
    let old : Records = record { shelves = c.self.inside.shelf_records.items; items = c.self.inside.item_records.items; first_shelf = c.self.inside.first; unused_items = c.self.inside.unused_items; unused_shelves = c.self.inside.unused_shelves } in
    let within : c.args.shelf < length shelves = omega (arith, c.len.ensures, c.if-shelf-len.true) in
    rw (sym c.self.view_is)
    (ap (λ (written : List LinkedShelf). record old { shelves = written })
    (ap (λ (here : LinkedShelf). set shelves c.args.shelf ((λ (here : LinkedShelf). record here { height = c.args.height }) here)) c.index_mut-here.ensures.value ∙ set-changed (λ (here : LinkedShelf). record here { height = c.args.height }) shelves c.args.shelf c.index_mut-here.result.now within))

pub returns-else-shelf-len : goal.returns-else-shelf-len
returns-else-shelf-len c =
    let shelves : List LinkedShelf = c.self.inside.shelf_records.items in
    let old : Records = record { shelves = c.self.inside.shelf_records.items; items = c.self.inside.item_records.items; first_shelf = c.self.inside.first; unused_items = c.self.inside.unused_items; unused_shelves = c.self.inside.unused_shelves } in
    let past : length shelves ≤ c.args.shelf = omega (arith, c.len.ensures, c.if-shelf-len.false) in
    rw (sym c.self.view_is)
    (ap (λ (kept : List LinkedShelf). record old { shelves = kept })
    (changed_by-past (λ (here : LinkedShelf). record here { height = c.args.height }) shelves (Some c.args.shelf) c.args.shelf refl past))
