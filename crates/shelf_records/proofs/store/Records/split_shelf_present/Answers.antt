use Rattle.std.proofs.Common.{◌≡◌, ◌<◌, Some, List, length, ap, sym, ◌∙◌}
use Rattle.std.proofs.lemmas.List.{with_items_is}
use Rattle.std.specs.Vec.{with_item, with_items}
use Rattle.shelf_records.specs.declared.records.LinkedItem.{LinkedItem}
use Rattle.shelf_records.specs.declared.records.LinkedShelf.{LinkedShelf}
use Rattle.etagere_links.proofs.EditLemmas.{set-changed}
use Rattle.etagere_links.specs.Edits.{changed_by, link_at}
use Rattle.shelf_records.specs.ListEdits.{linked_between}
use Rattle.shelf_records.specs.RecordLists.{Records}
use Rattle.shelf_records.specs.RecordMerges.{shelf_split}
use Rattle.shelf_records.specs.Records.{shelf_chain}
use Rattle.shelf_records.proofs.NeighbourFrames.{neighbours-changed}
use Rattle.shelf_records.proofs.store.Records.split_shelf_present.Goals as goal

pub insert_after_present-requires-clause-next : goal.insert_after_present-requires-clause-next
insert_after_present-requires-clause-next c =
    let rest : LinkedShelf → LinkedShelf = λ _. c.args.rest_shelf in
    let shelves : List LinkedShelf = c.args.self.now.shelves in
    let before : c.self.inside.shelf_records.items ≡ shelves = ap (λ (r : Records). r.shelves) c.self.view_is in
    let within : c.args.rest < length c.self.inside.shelf_records.items = rw before c.requires.rest in
    let written : c.deref_mut.result.now ≡ changed_by (Some c.args.rest) rest shelves =
    c.deref_mut.ensures.value ∙ set-changed rest c.self.inside.shelf_records.items c.args.rest c.args.rest_shelf within ∙ ap (changed_by (Some c.args.rest) rest) before in
    rw written
    (neighbours-changed shelf_chain rest shelves (Some c.args.rest) c.args.shelf (λ x was k e. absurd (cc (c.requires.alone.0, e))) (λ x was k e. absurd (cc (c.requires.alone.1, e))) c.requires.shelf).next

pub returns : goal.returns
returns c =
    let rest : LinkedShelf → LinkedShelf = λ _. c.args.rest_shelf in
    let items : List LinkedItem = c.self.inside.item_records.items in
    let shelves : List LinkedShelf = c.self.inside.shelf_records.items in
    let within : c.args.rest < length shelves = rw (ap (λ (r : Records). r.shelves) c.self.view_is) c.requires.rest in
    let within_items : c.args.rest_item < length items = rw (ap (λ (r : Records). r.items) c.self.view_is) c.requires.item in
    let old : Records = record { shelves = shelves; items = items; first_shelf = c.self.inside.first; unused_items = c.self.inside.unused_items; unused_shelves = c.self.inside.unused_shelves } in
    let done : Records = shelf_split c.args.shelf c.args.rest c.args.rest_item c.args.height c.args.rest_shelf c.args.item old in
    let one = with_item c.self.inside.shelf_records c.args.rest c.args.rest_shelf in
    let two = with_items one c.insert_after_present.new.records in
    let long : length c.insert_after_present.new.records ≡ c.self.inside.shelf_records.len = c.insert_after_present.auto.records ∙ c.deref_mut.ensures.len in
    let long_last : length c.set_height_present.new.shelves ≡ c.self.inside.shelf_records.len = c.set_height_present.auto.shelves ∙ c.deref_mut-2.ensures.len in
    let written : c.deref_mut.result.now ≡ changed_by (Some c.args.rest) rest shelves =
    c.deref_mut.ensures.value ∙ set-changed rest shelves c.args.rest c.args.rest_shelf within in
    let linked = c.deref_mut-2.ensures.value ∙ with_items_is one c.insert_after_present.new.records long ∙ c.insert_after_present.ensures
    ∙ ap (λ (all : List LinkedShelf). linked_between shelf_chain (Some c.args.shelf) (link_at shelf_chain.next all c.args.shelf) c.args.rest all) written in
    rw (with_items_is two c.set_height_present.new.shelves long_last, c.set_height_present.ensures, linked, sym c.self.view_is)
    (ap (λ (all : List LinkedItem). record done { items = all }) (set-changed (λ (here : LinkedItem). c.args.item) items c.args.rest_item c.args.item within_items))
