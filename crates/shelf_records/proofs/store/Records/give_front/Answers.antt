use Rattle.std.proofs.Common.{◌≡◌, ℕ, ◌<◌, Option, Some, List, length, ap, sym, ◌∙◌}
use Rattle.std.proofs.lemmas.List.{with_items_is}
use Rattle.shelf_records.specs.declared.records.LinkedItem.{LinkedItem}
use Rattle.shelf_records.specs.declared.records.LinkedShelf.{LinkedShelf}
use Rattle.etagere_links.specs.Edits.{link_at}
use Rattle.shelf_records.specs.ListEdits.{linked_between, first_without}
use Rattle.shelf_records.specs.Neighbours.{HasNeighbours}
use Rattle.shelf_records.proofs.RecordFrames.{length-linked_between}
use Rattle.shelf_records.specs.RecordLists.{Records}
use Rattle.shelf_records.specs.RecordMerges.{front_given}
use Rattle.shelf_records.specs.Records.{free_list, item_chain}
use Rattle.shelf_records.proofs.FirstWrites.{first_free-freed}
use Rattle.shelf_records.proofs.NeighbourFrames.{frees-free_inserted, frees-item_inserted}
use Rattle.shelf_records.proofs.store.Records.give_front.Goals as goal

pub returns : goal.returns
returns c =
    let number : ℕ = c.args.number in
    let rest : ℕ = c.args.rest in
    let items : List LinkedItem = c.self.inside.item_records.items in
    let shelves : List LinkedShelf = c.self.inside.shelf_records.items in
    let within : c.args.shelf < length shelves = rw (ap (λ (r : Records). r.shelves) c.self.view_is) c.requires.shelf in
    let old : Records = record { shelves = shelves; items = items; first_shelf = c.self.inside.first; unused_items = c.self.inside.unused_items; unused_shelves = c.self.inside.unused_shelves } in
    let one : List LinkedItem = linked_between item_chain (Some number) (link_at item_chain.next items number) rest items in
    let two : List LinkedItem = linked_between free_list (Some number) (link_at free_list.next one number) rest one in
    let done : Records = front_given c.args.shelf number rest c.args.width old in
    let long : length c.set_given_present.new.items ≡ c.self.inside.item_records.len =
    c.set_given_present.auto.items ∙ c.unlink_present.auto.records ∙ c.insert_after_present-2.auto.records ∙ c.insert_after_present.auto.records ∙ c.deref_mut-items.ensures.len in
    rw (with_items_is c.self.inside.item_records c.set_given_present.new.items long, c.set_given_present.ensures, c.unlink_present.ensures.records, c.unlink_present.ensures.first, c.insert_after_present-2.ensures, c.insert_after_present.ensures, c.deref_mut-items.ensures.value, sym c.self.view_is)
    (ap (λ (written : List LinkedShelf). record done { shelves = written })
    (first_free-freed shelves c.args.shelf
    (λ (first : Option ℕ). first_without (link_at free_list.previous two number) (link_at free_list.next two number) first)
    c.index_mut-here.result.now c.index_mut-here.result.now within c.index_mut-here.ensures.value))

pub insert_after_present-requires-2-clause-next : goal.insert_after_present-requires-2-clause-next
insert_after_present-requires-2-clause-next c =
    let items : List LinkedItem = c.args.self.now.items in
    rw (c.insert_after_present.ensures, c.deref_mut-items.ensures.value, ap (λ (r : Records). r.items) c.self.view_is)
    (frees-item_inserted items (Some c.args.number) (link_at item_chain.next items c.args.number) c.args.rest c.args.number c.requires.free).next

pub unlink_present-requires : goal.unlink_present-requires
unlink_present-requires c =
    let number : ℕ = c.args.number in
    let rest : ℕ = c.args.rest in
    let items : List LinkedItem = c.args.self.now.items in
    let next : Option ℕ = link_at item_chain.next items number in
    let one : List LinkedItem = linked_between item_chain (Some number) next rest items in
    let has : HasNeighbours free_list one number = frees-item_inserted items (Some number) next rest number c.requires.free in
    let within : rest < length one = rw (length-linked_between item_chain items (Some number) next rest) c.requires.rest in
    rw (c.insert_after_present-2.ensures, c.insert_after_present.ensures, c.deref_mut-items.ensures.value, ap (λ (r : Records). r.items) c.self.view_is)
    (frees-free_inserted one (Some number) (link_at free_list.next one number) rest number (λ k e. let same : number ≡ k = cc in rw (← same) has.here) has.next within has)
