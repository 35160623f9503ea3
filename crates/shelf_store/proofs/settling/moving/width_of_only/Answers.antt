use Rattle.std.proofs.Common.{◌≡◌, ◌<◌, ℕ, None, Some, List, ap, arith, get_or, length, sym, ◌∙◌}
use Rattle.shelf_records.specs.AtlasRecords.{item_at}
use Rattle.etagere_links.specs.Edits.{link_at}
use Rattle.shelf_records.specs.Records.{free_list}
use Rattle.shelf_records.specs.RecordLists.{first_free_of}
use Rattle.shelf_records.specs.declared.records.LinkedItem.{LinkedItem}
use Rattle.shelf_records.specs.declared.records.LinkedShelf.{LinkedShelf}
use Rattle.shelf_records.proofs.Recorded.RecordsOfIds.{field_at-read}
use Rattle.shelf_heights.proofs.ByHeight.FreeBounds.{first-within, next-read, width-read}
use Rattle.shelf_store.proofs.ByHeight.OnlyFree.{more-free, none-free, one-free}
use Rattle.shelf_store.proofs.settling.moving.width_of_only.Goals as goal
use Rattle.shelf_store.proofs.settling.moving.width_of_only.Goals.{After-number, After-number-2}

-- the link to the first free item that was read
first : (c : After-number) → first_free_of c.args.records.now.shelves c.args.shelf ≡ c.number.result
first c =
    let record_ = c.index-shelves-shelf.result in
    field_at-read (λ (s : LinkedShelf). s.first_unallocated) None c.args.records.now.shelves c.args.shelf record_ c.requires.within
    (c.index-shelves-shelf.is ∙ ap (λ (shelves : List LinkedShelf). get_or shelves c.args.shelf record_) c.shelves.ensures)
    ∙ ap (λ (s : LinkedShelf). s.first_unallocated) c.index-shelves-shelf.is
    ∙ sym c.number.ensures.value

pub returns-in_default : goal.returns-in_default
returns-in_default c = sym (none-free c.args.records.now c.args.shelf c.requires.linked c.requires.stands (first (goal.at.returns-in_default c).After-number ∙ c.in_default.is))

pub bounds-items-first : goal.bounds-items-first
bounds-items-first c =
    omega (
      arith,
      first-within c.args.records.now c.args.shelf c.in-Some.first c.requires.linked c.requires.stands (first (goal.at.bounds-items-first c).After-number ∙ c.in-Some.is),
      ap length c.items.ensures,
    )

-- the first free item, and where its free list leads
record IsRead (c : After-number-2) : Type 0 where
  is : first_free_of c.args.records.now.shelves c.args.shelf ≡ Some c.in-Some.first
  leads : link_at free_list.next c.args.records.now.items c.in-Some.first ≡ c.number-2.result
  width : (item_at c.args.records.now.items c.in-Some.first).width ≡ c.index-items-first.result.width

read : (c : After-number-2) → IsRead c
read c =
    let records = c.args.records.now in
    let number = c.in-Some.first in
    let item = c.index-items-first.result in
    let is : first_free_of records.shelves c.args.shelf ≡ Some number = first (goal.at.After-number-2 c).After-number ∙ c.in-Some.is in
    let within : number < length records.items = first-within records c.args.shelf number c.requires.linked c.requires.stands is in
    let read : item ≡ get_or records.items number item = c.index-items-first.is ∙ ap (λ (items : List LinkedItem). get_or items number item) c.items.ensures in
    record {
      is = is;
      leads = next-read records.items number item within read ∙ sym c.number-2.ensures.value;
      width = width-read records number item within read;
    }

pub returns-in-None : goal.returns-in-None
returns-in-None c =
    let one = read (goal.at.returns-in-None c).After-number-2 in
    sym (one-free c.args.records.now c.args.shelf c.requires.linked c.requires.stands c.in-Some.first one.is (one.leads ∙ c.in-None.is) ∙ ap (λ (n : ℕ). Some n) one.width)

pub returns-in-Some-number : goal.returns-in-Some-number
returns-in-Some-number c =
    let one = read (goal.at.returns-in-Some-number c).After-number-2 in
    sym (more-free c.args.records.now c.args.shelf c.requires.linked c.requires.stands c.in-Some.first _ one.is (one.leads ∙ c.in-Some-number.is))
