use Rattle.std.proofs.Common.{◌≡◌, None, length, get_or, ap, sym, ◌∙◌, arith}
use Rattle.etagere_links.specs.Links.{link_of}
use Rattle.shelf_records.specs.RecordLists.{first_free_of}
use Rattle.shelf_records.specs.declared.records.LinkedShelf.{LinkedShelf}
use Rattle.shelf_records.proofs.Recorded.RecordsOfIds.{field_at-read}
use Rattle.shelf_search.proofs.Searched.SearchSteps.{free-begins, free-ends, free-found, free-here, free-nearer, free-passed, named, names-none}
use Rattle.shelf_search.proofs.choosing.search_free_list.Goals as goal

pub loop-number-init : goal.loop-number-init
loop-number-init c =
    let records = c.args.records.now in
    let shelf : LinkedShelf = c.index-shelves-shelf.result in
    let read : shelf ≡ get_or records.shelves c.args.shelf shelf = rw c.shelves.ensures at c.index-shelves-shelf.is in
    let first : first_free_of records.shelves c.args.shelf ≡ shelf.first_unallocated =
    field_at-read (λ (s : LinkedShelf). s.first_unallocated) None records.shelves c.args.shelf shelf c.requires.within read in
    record {
      searches =
          free-begins records c.args.width c.args.shelf (link_of c.from-number.result) c.requires.linked c.requires.stands
          (ap link_of c.from-number.ensures ∙ c.bits.ensures.link ∙ ap (λ (s : LinkedShelf). s.first_unallocated) (sym c.index-shelves-shelf.is) ∙ sym first);
      small = omega (arith, c.from-number.ensures);
      narrow = omega arith;
    }

pub bounds-items-number : goal.bounds-items-number
bounds-items-number c =
    omega (
      arith,
      free-here c.args.records.now c.args.width c.args.shelf c.loop-number.widest (link_of c.loop-number.number) c.loop-number.number c.loop-number.invariant.searches (named c.loop-number.number c.loop-number-test.true),
      ap length c.items-items.ensures,
    )

pub returns-then-own-width : goal.returns-then-own-width
returns-then-own-width c =
    free-found c.args.records.now c.args.width c.args.shelf c.loop-number.widest (link_of c.loop-number.number) c.loop-number.number c.index-items-number.result c.loop-number.invariant.searches (named c.loop-number.number c.loop-number-test.true)
    (rw c.items-items.ensures at c.index-items-number.is) (omega (arith, c.from-own.ensures, c.if-own-width.true))

pub loop-number-smaller : goal.loop-number-smaller
loop-number-smaller c =
    free-nearer c.args.records.now c.args.width c.args.shelf c.loop-number.widest (link_of c.loop-number.number) _ c.loop-number.number c.index-items-number.result c.requires.linked c.requires.stands c.loop-number.invariant.searches (named c.loop-number.number c.loop-number-test.true)
    (rw c.items-items.ensures at c.index-items-number.is) (ap link_of c.from-number-in-loop-number.ensures ∙ c.bits-in-loop-number.ensures.link)

pub loop-number-preserved : goal.loop-number-preserved
loop-number-preserved c = record {
  searches =
      free-passed c.args.records.now c.args.width c.args.shelf c.loop-number.widest c.max-widest.result (link_of c.loop-number.number) _ c.loop-number.number c.index-items-number.result c.loop-number.invariant.searches (named c.loop-number.number c.loop-number-test.true)
      (rw c.items-items.ensures at c.index-items-number.is) (omega (arith, c.from-own.ensures, c.if-own-width.false)) (omega (arith, c.max-widest.ensures, c.from-own.ensures)) (ap link_of c.from-number-in-loop-number.ensures ∙ c.bits-in-loop-number.ensures.link);
  small = omega (arith, c.from-number-in-loop-number.ensures);
  narrow = omega (arith, c.max-widest.ensures, c.loop-number.invariant.narrow, c.from-own.ensures);
}

pub returns : goal.returns
returns c =
    free-ends c.args.records.now c.args.width c.args.shelf c.loop-number.widest (link_of c.loop-number.number) c.loop-number.invariant.searches
    (names-none c.loop-number.number (omega (arith, c.loop-number-test.false, c.loop-number.invariant.small)))
