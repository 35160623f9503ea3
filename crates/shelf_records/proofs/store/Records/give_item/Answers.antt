use Rattle.std.proofs.Common.{◌≡◌, ℕ, ◌<◌, Option, List, length, ap, sym, ◌∙◌}
use Rattle.std.proofs.lemmas.List.{with_items_is}
use Rattle.shelf_records.specs.declared.records.LinkedItem.{LinkedItem}
use Rattle.shelf_records.specs.declared.records.LinkedShelf.{LinkedShelf}
use Rattle.etagere_links.specs.Edits.{link_at}
use Rattle.shelf_records.specs.ListEdits.{first_without}
use Rattle.shelf_records.specs.RecordLists.{Records}
use Rattle.shelf_records.specs.RecordMerges.{item_given}
use Rattle.shelf_records.specs.Records.{free_list}
use Rattle.shelf_records.proofs.FirstWrites.{first_free-freed}
use Rattle.shelf_records.proofs.store.Records.give_item.Goals as goal

pub returns : goal.returns
returns c =
    let number : ℕ = c.args.number in
    let items : List LinkedItem = c.self.inside.item_records.items in
    let shelves : List LinkedShelf = c.self.inside.shelf_records.items in
    let within : c.args.shelf < length shelves = rw (ap (λ (r : Records). r.shelves) c.self.view_is) c.requires.shelf in
    let old : Records = record { shelves = shelves; items = items; first_shelf = c.self.inside.first; unused_items = c.self.inside.unused_items; unused_shelves = c.self.inside.unused_shelves } in
    let done : Records = item_given c.args.shelf number old in
    let long : length c.set_allocated_present.new.items ≡ c.self.inside.item_records.len =
    c.set_allocated_present.auto.items ∙ c.unlink_present.auto.records ∙ c.deref_mut-items.ensures.len in
    rw (with_items_is c.self.inside.item_records c.set_allocated_present.new.items long, c.set_allocated_present.ensures, c.unlink_present.ensures.records, c.unlink_present.ensures.first, c.deref_mut-items.ensures.value, sym c.self.view_is)
    (ap (λ (written : List LinkedShelf). record done { shelves = written })
    (first_free-freed shelves c.args.shelf
    (λ (first : Option ℕ). first_without (link_at free_list.previous items number) (link_at free_list.next items number) first)
    c.index_mut-here.result.now c.index_mut-here.result.now within c.index_mut-here.ensures.value))
