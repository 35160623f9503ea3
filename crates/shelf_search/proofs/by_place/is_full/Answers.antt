use Rattle.std.proofs.Common.{◌≡◌, None, get_or, ap, sym, ◌∙◌}
use Rattle.std.proofs.lemmas.Bool.{eqb-true}
use Rattle.etagere_links.specs.Links.{link_of}
use Rattle.shelf_records.specs.RecordLists.{first_free_of}
use Rattle.shelf_records.specs.declared.records.LinkedShelf.{LinkedShelf}
use Rattle.shelf_records.proofs.Recorded.RecordsOfIds.{field_at-read}
use Rattle.shelf_search.proofs.Searched.SearchSteps.{free-begins, free-ends, names-none, offers-none}
use Rattle.shelf_search.proofs.by_place.is_full.Goals as goal

pub returns : goal.returns
returns c = λ full width height.
    let records = c.args.records.now in
    let shelf : LinkedShelf = c.index-shelves-shelf.result in
    let read : shelf ≡ get_or records.shelves c.args.shelf shelf = rw c.shelves.ensures at c.index-shelves-shelf.is in
    let first : first_free_of records.shelves c.args.shelf ≡ shelf.first_unallocated =
    field_at-read (λ (s : LinkedShelf). s.first_unallocated) None records.shelves c.args.shelf shelf c.requires.within read in
    let at : link_of c.from.result ≡ first_free_of records.shelves c.args.shelf =
    ap link_of c.from.ensures ∙ c.bits.ensures.link ∙ ap (λ (s : LinkedShelf). s.first_unallocated) (sym c.index-shelves-shelf.is) ∙ sym first in
    let number : c.from.result ≡ 65535 = eqb-true c.from.result 65535 full in
    offers-none records width height c.args.shelf 0
    (free-ends records width c.args.shelf 0 (link_of c.from.result)
    (free-begins records width c.args.shelf (link_of c.from.result) c.requires.linked c.requires.stands at)
    (names-none c.from.result number))
