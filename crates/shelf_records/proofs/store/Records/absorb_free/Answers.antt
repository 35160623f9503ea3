use Rattle.std.proofs.Common.{◌≡◌, ℕ, ◌<◌, Option, List, length, ap, sym, ◌∙◌}
use Rattle.std.proofs.lemmas.List.{with_items_is}
use Rattle.shelf_records.specs.declared.records.LinkedItem.{LinkedItem}
use Rattle.shelf_records.specs.declared.records.LinkedShelf.{LinkedShelf}
use Rattle.etagere_links.specs.Edits.{link_at}
use Rattle.shelf_records.specs.ListEdits.{unlinked, first_without}
use Rattle.shelf_records.specs.RecordLists.{Records}
use Rattle.shelf_records.specs.RecordMerges.{free_absorbed}
use Rattle.shelf_records.specs.Records.{item_chain, free_list}
use Rattle.shelf_records.proofs.FirstWrites.{firsts-written}
use Rattle.shelf_records.proofs.NeighbourFrames.{items-free_unlinked}
use Rattle.shelf_records.proofs.store.Records.absorb_free.Goals as goal

pub unlink_present-requires-2 : goal.unlink_present-requires-2
unlink_present-requires-2 c =
    rw (c.unlink_present.ensures.records, c.deref_mut-items.ensures.value, ap (λ (r : Records). r.items) c.self.view_is)
    (items-free_unlinked c.args.self.now.items c.args.next c.args.next c.requires.next)

pub returns : goal.returns
returns c =
    let next : ℕ = c.args.next in
    let items : List LinkedItem = c.self.inside.item_records.items in
    let shelves : List LinkedShelf = c.self.inside.shelf_records.items in
    let within : c.args.shelf < length shelves = rw (ap (λ (r : Records). r.shelves) c.self.view_is) c.requires.shelf in
    let old : Records = record { shelves = shelves; items = items; first_shelf = c.self.inside.first; unused_items = c.self.inside.unused_items; unused_shelves = c.self.inside.unused_shelves } in
    let one : List LinkedItem = unlinked free_list next items in
    let done : Records = free_absorbed c.args.shelf c.args.number next c.args.width old in
    let long : length c.set_width_present.new.items ≡ c.self.inside.item_records.len =
    c.set_width_present.auto.items ∙ c.make_unused_present.auto.records ∙ c.unlink_present-2.auto.records ∙ c.unlink_present.auto.records ∙ c.deref_mut-items.ensures.len in
    rw (with_items_is c.self.inside.item_records c.set_width_present.new.items long, c.set_width_present.ensures, c.make_unused_present.ensures.records, c.make_unused_present.ensures.top, c.unlink_present-2.ensures.records, c.unlink_present-2.ensures.first, c.unlink_present.ensures.records, c.unlink_present.ensures.first, c.deref_mut-items.ensures.value, sym c.self.view_is)
    (ap (λ (written : List LinkedShelf). record done { shelves = written })
    (firsts-written shelves c.args.shelf
    (λ (first : Option ℕ). first_without (link_at item_chain.previous one next) (link_at item_chain.next one next) first)
    (λ (first : Option ℕ). first_without (link_at free_list.previous items next) (link_at free_list.next items next) first)
    c.index_mut-here.result.now c.index_mut-here.result.now within c.index_mut-here.ensures.value))
