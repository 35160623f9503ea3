use Rattle.std.proofs.Common.{◌≡◌, ◌<◌, Some, List, length, ap, sym, ◌∙◌}
use Rattle.std.proofs.lemmas.List.{with_items_is}
use Rattle.shelf_records.specs.declared.records.LinkedShelf.{LinkedShelf}
use Rattle.shelf_records.specs.RecordLists.{Records, first_free_of}
use Rattle.shelf_records.specs.RecordMerges.{item_freed}
use Rattle.shelf_records.proofs.FirstWrites.{first_free-within, first_free-written}
use Rattle.shelf_records.proofs.store.Records.free_item.Goals as goal

pub returns : goal.returns
returns c =
    let shelves : List LinkedShelf = c.self.inside.shelf_records.items in
    let here : LinkedShelf = c.index_mut-here.result.now in
    let within : c.args.shelf < length shelves = rw (ap (λ (r : Records). r.shelves) c.self.view_is) c.requires.shelf in
    let first : here.first_unallocated ≡ first_free_of shelves c.args.shelf =
    ap (λ (shelf : LinkedShelf). shelf.first_unallocated) c.index_mut-here.ensures.value ∙ sym (first_free-within shelves c.args.shelf here within) in
    let old : Records = record { shelves = shelves; items = c.self.inside.item_records.items; first_shelf = c.self.inside.first; unused_items = c.self.inside.unused_items; unused_shelves = c.self.inside.unused_shelves } in
    let done : Records = item_freed c.args.shelf c.args.number old in
    let long : length c.free_in_front_present.new.items ≡ c.self.inside.item_records.len = c.free_in_front_present.auto.items ∙ c.deref_mut.ensures.len in
    rw (with_items_is c.self.inside.item_records c.free_in_front_present.new.items long, c.free_in_front_present.ensures.items, c.free_in_front_present.ensures.first, c.deref_mut.ensures.value, first, sym c.self.view_is)
    (ap (λ (written : List LinkedShelf). record done { shelves = written })
    (first_free-written shelves c.args.shelf (Some c.args.number) here here within c.index_mut-here.ensures.value))
