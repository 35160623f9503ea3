use Rattle.std.proofs.Common.{◌≡◌, ◌<◌, ◌∙◌, false, List, None, Option, Some, ap, get_or, length, refl, sym}
use Rattle.std.specs.Option.{is_some}
use Rattle.shelf_records.specs.RecordLists.{first_free_of}
use Rattle.shelf_records.specs.declared.records.LinkedShelf.{LinkedShelf}
use Rattle.shelf_records.proofs.Recorded.RecordsOfIds.{field_at-read}
use Rattle.shelf_heights.specs.Private.ByHeight.{bounded_at}
use Rattle.shelf_search.specs.Private.Opening.{IsSearchable, bounded_full}
use Rattle.shelf_search.proofs.ByHeight.EmptyShelves.{full-bounded}
use Rattle.shelf_search.proofs.ByHeight.Searches.{read-at, searchable-at, searchable-set}
use Rattle.shelf_search.proofs.choosing.lower_if_full.Goals as goal

by_none : {X : Type 0} (o : Option X) → is_some o ≡ false → o ≡ None
by_none None e = refl
by_none (Some x) e = absurd (cc)

pub returns-clause-by_height : goal.returns-clause-by_height
returns-clause-by_height c =
    let records = c.args.records.now in
    let record_ = c.index-shelves-from.result in
    let same : c.get-one.result ≡ bounded_at c.args.by_height.now.items c.args.index = c.get-one.ensures ∙ read-at c.args.by_height.now.items c.args.index c.get-one.result c.requires.index in
    let searchable : IsSearchable records c.get-one.result = rw same (searchable-at records c.args.by_height.now.items c.args.index c.requires.index c.requires.by_height) in
    let within : c.from.result < length records.shelves = rw c.from.ensures searchable.within in
    let first : first_free_of records.shelves c.from.result ≡ c.number.result =
    field_at-read (λ (s : LinkedShelf). s.first_unallocated) None records.shelves c.from.result record_ within
    (c.index-shelves-from.is ∙ ap (λ (shelves : List LinkedShelf). get_or shelves c.from.result record_) c.shelves.ensures)
    ∙ sym c.number.ensures.value in
    let none : first_free_of records.shelves c.get-one.result.shelf ≡ None =
    ap (first_free_of records.shelves) (sym c.from.ensures) ∙ first ∙ by_none c.number.result (sym c.is_some.ensures ∙ c.if-is_some.false) in
    rw c.set.ensures.items
    (searchable-set records c.args.by_height.now.items c.args.index (bounded_full c.get-one.result) c.requires.by_height (full-bounded records c.get-one.result c.requires.linked searchable none))
