use Rattle.std.proofs.Common.{◌≡◌, ◌≢◌, ℕ, ◌<◌, None, Some, List, is_some, ap, arith, get_or, length, refl, sym, ◌∙◌}
use Rattle.etagere_links.specs.Links.{no_link}
use Rattle.etagere_links.specs.Edits.{field_at}
use Rattle.shelf_records.specs.Neighbours.{HasNeighbours}
use Rattle.etagere_links.proofs.FieldChanges.{field_at-within}
use Rattle.shelf_records.specs.AtlasRecords.{height_of}
use Rattle.shelf_records.specs.declared.records.LinkedShelf.{LinkedShelf}
use Rattle.shelf_records.specs.RecordLists.{first_item_of}
use Rattle.shelf_records.specs.Records.{shelf_chain}
use Rattle.shelf_store.proofs.returning.absorb_records.Goals as goal
use Rattle.shelf_store.proofs.returning.absorb_records.Goals.{After-number_or_none-item, Start}

-- both shelves are there
both-there : (c : Start) → (c.args.shelf < length c.args.records.now.shelves) × HasNeighbours shelf_chain c.args.records.now.shelves c.args.next
both-there c = (c.requires.there.here.here, c.requires.there.next c.args.next c.requires.next)

-- a field of a shelf that was read, and is there
read : {X : Type 0} (field : LinkedShelf → X) (other : X) (shelves found : List LinkedShelf) (shelf : ℕ) (here : LinkedShelf) → found ≡ shelves → shelf < length shelves → field_at field other shelves shelf ≡ field (get_or found shelf here)
read field other shelves found shelf here same within =
    field_at-within field other shelves shelf here within ∙ ap (λ (all : List LinkedShelf). field (get_or all shelf here)) (sym same)

-- the first item of the next shelf
first : (c : After-number_or_none-item) → c.args.next < length c.args.records.now.shelves → c.number_or_none-item.result ≢ no_link → first_item_of c.args.records.now.shelves c.args.next ≡ Some c.number_or_none-item.result
first c there some =
    read (λ (s : LinkedShelf). s.first_item) None c.args.records.now.shelves c.shelves.result.now c.args.next c.index-shelves-next.result c.shelves.ensures there
    ∙ ap (λ (s : LinkedShelf). s.first_item) (sym c.index-shelves-next.is)
    ∙ c.number_or_none-item.ensures.some (omega (arith, c.number_or_none-item.ensures.small, some))

pub returns-clause-records : goal.returns-clause-records
returns-clause-records c =
    let shelves : List LinkedShelf = c.args.records.now.shelves in
    let at = goal.at.returns-clause-records c in
    let there = both-there at.Start in
    let item : first_item_of shelves c.args.next ≡ Some c.number_or_none-item.result = first at.After-number_or_none-item there.1.here c.if-item-eq-NO_NUMBER.false in
    let height : height_of shelves c.args.shelf ≡ (get_or c.shelves-2.result.now c.args.shelf c.index-shelves-shelf.result).height =
    read (λ (s : LinkedShelf). s.height) 0 shelves c.shelves-2.result.now c.args.shelf c.index-shelves-shelf.result c.shelves-2.ensures there.0 in
    let next_height : height_of shelves c.args.next ≡ c.index-shelves-next.result.height =
    read (λ (s : LinkedShelf). s.height) 0 shelves c.shelves.result.now c.args.next c.index-shelves-next.result c.shelves.ensures there.1.here
    ∙ ap (λ (s : LinkedShelf). s.height) (sym c.index-shelves-next.is) in
    rw (
      c.absorb_shelf.ensures,
      c.requires.next,
      item,
      height,
      next_height,
    ) refl

pub returns-clause-item : goal.returns-clause-item
returns-clause-item c =
    let at = goal.at.returns-clause-item c in
    sym (ap is_some (first at.After-number_or_none-item (both-there at.Start).1.here c.if-item-eq-NO_NUMBER.false))

pub absorb_shelf-requires-clause-item : goal.absorb_shelf-requires-clause-item
absorb_shelf-requires-clause-item c =
    let at = goal.at.absorb_shelf-requires-clause-item c in
    c.requires.there.item c.args.next c.requires.next c.number_or_none-item.result (first at.After-number_or_none-item (both-there at.Start).1.here c.if-item-eq-NO_NUMBER.false)
