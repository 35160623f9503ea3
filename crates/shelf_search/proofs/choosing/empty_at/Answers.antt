use Rattle.std.proofs.Common.{ap, false, get_or, length, List, sym, ◌∙◌, ◌-◌, ◌<◌, ◌≡◌}
use Rattle.etagere_links.proofs.FieldChanges.{field_at-within}
use Rattle.shelf_records.specs.declared.records.LinkedShelf.{LinkedShelf}
use Rattle.shelf_records.specs.AtlasRecords.{is_empty_at}
use Rattle.shelf_heights.specs.Private.ByHeight.{bounded_at, numbers_by_height}
use Rattle.shelf_search.specs.Private.Opening.{IsSearchable}
use Rattle.shelf_heights.specs.declared.by_height.BoundedShelf.{BoundedShelf}
use Rattle.shelf_search.proofs.ByHeight.EmptyShelves.{lowered}
use Rattle.shelf_search.proofs.ByHeight.Searches.{numbers-set, read-at, searchable-at, searchable-set}
use Rattle.shelf_search.proofs.choosing.empty_at.Goals as goal

pub returns-clause-numbers : goal.returns-clause-numbers
returns-clause-numbers c =
    let same : c.get-one.result ≡ bounded_at c.args.by_height.now.items c.args.index = c.get-one.ensures ∙ read-at c.args.by_height.now.items c.args.index c.get-one.result c.requires.index in
    ap numbers_by_height c.set.ensures.items
    ∙ numbers-set c.args.by_height.now.items c.args.index (record { widest = c.args.column_width - 1; shelf = c.get-one.result.shelf }) (ap (λ (one : BoundedShelf). one.shelf) same)

pub returns-clause-by_height : goal.returns-clause-by_height
returns-clause-by_height c =
    let same : c.get-one.result ≡ bounded_at c.args.by_height.now.items c.args.index = c.get-one.ensures ∙ read-at c.args.by_height.now.items c.args.index c.get-one.result c.requires.index in
    let searchable : IsSearchable c.args.records.now c.get-one.result = rw same (searchable-at c.args.records.now c.args.by_height.now.items c.args.index c.requires.index c.requires.by_height) in
    let within : c.shelf.result < length c.args.records.now.shelves = rw c.shelf.ensures (searchable-at c.args.records.now c.args.by_height.now.items c.args.index c.requires.index c.requires.by_height).within in
    let read : is_empty_at c.args.records.now.shelves c.shelf.result ≡ (get_or c.shelves.result.now c.shelf.result c.index-shelves-shelf.result).is_empty =
    field_at-within (λ (s : LinkedShelf). s.is_empty) false c.args.records.now.shelves c.shelf.result c.index-shelves-shelf.result within
    ∙ ap (λ (all : List LinkedShelf). (get_or all c.shelf.result c.index-shelves-shelf.result).is_empty) (sym c.shelves.ensures) in
    let busy : is_empty_at c.args.records.now.shelves c.get-one.result.shelf ≡ false =
    ap (λ (one : BoundedShelf). is_empty_at c.args.records.now.shelves one.shelf) same ∙ ap (is_empty_at c.args.records.now.shelves) (sym c.shelf.ensures) ∙ read ∙ c.if-shelves-shelf.false in
    rw c.set.ensures.items
    (searchable-set c.args.records.now c.args.by_height.now.items c.args.index (record { widest = c.args.column_width - 1; shelf = c.get-one.result.shelf }) c.requires.by_height
    (lowered c.args.records.now c.args.column_width c.get-one.result searchable c.requires.whole busy))
