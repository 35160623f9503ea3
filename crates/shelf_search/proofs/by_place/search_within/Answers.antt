use Rattle.std.proofs.Common.{◌≡◌, None, length, get_or, ap, sym, ◌∙◌, arith}
use Rattle.etagere_links.specs.Links.{link_of}
use Rattle.shelf_records.specs.RecordLists.{first_free_of}
use Rattle.shelf_records.specs.declared.records.LinkedShelf.{LinkedShelf}
use Rattle.shelf_records.proofs.Recorded.RecordsOfIds.{field_at-read}
use Rattle.shelf_search.proofs.Searched.SearchSteps.{free-ends, free-found, free-here, free-nearer, named, names-none, passed-few, passed-fewer, within-begins, within-passed}
use Rattle.shelf_search.proofs.by_place.search_within.Goals as goal

pub loop-number-init : goal.loop-number-init
loop-number-init c =
    let records = c.args.records.now in
    let shelf : LinkedShelf = c.index-shelves-shelf.result in
    let read : shelf ≡ get_or records.shelves c.args.shelf shelf = rw c.shelves.ensures at c.index-shelves-shelf.is in
    let first : first_free_of records.shelves c.args.shelf ≡ shelf.first_unallocated =
    field_at-read (λ (s : LinkedShelf). s.first_unallocated) None records.shelves c.args.shelf shelf c.requires.within read in
    record {
      searches =
          within-begins records c.args.width c.args.shelf c.args.left.now (link_of c.from-number.result) c.requires.linked c.requires.stands
          (ap link_of c.from-number.ensures ∙ c.bits.ensures.link ∙ ap (λ (s : LinkedShelf). s.first_unallocated) (sym c.index-shelves-shelf.is) ∙ sym first);
      small = omega (arith, c.from-number.ensures);
      narrow = omega arith;
    }

pub returns-then-left-eq0-clause-few : goal.returns-then-left-eq0-clause-few
returns-then-left-eq0-clause-few c =
    passed-few c.args.records.now c.args.width c.args.shelf c.loop-number.widest (link_of c.loop-number.number) c.args.left.now c.loop-number.left c.loop-number.invariant.searches

pub returns-then-left-eq0-clause-long : goal.returns-then-left-eq0-clause-long
returns-then-left-eq0-clause-long c = λ _.
    omega (
      arith,
      passed-fewer c.args.records.now c.args.width c.args.shelf c.loop-number.widest (link_of c.loop-number.number) c.loop-number.number c.args.left.now c.loop-number.left c.loop-number.invariant.searches
          (named c.loop-number.number c.loop-number-test.true),
      c.if-left-eq0.true,
    )

pub bounds-items-number : goal.bounds-items-number
bounds-items-number c =
    omega (
      arith,
      free-here c.args.records.now c.args.width c.args.shelf c.loop-number.widest (link_of c.loop-number.number) c.loop-number.number c.loop-number.invariant.searches.search (named c.loop-number.number c.loop-number-test.true),
      ap length c.items-items.ensures,
    )

pub returns-then-own-width-clause-known : goal.returns-then-own-width-clause-known
returns-then-own-width-clause-known c =
    free-found c.args.records.now c.args.width c.args.shelf c.loop-number.widest (link_of c.loop-number.number) c.loop-number.number c.index-items-number.result c.loop-number.invariant.searches.search (named c.loop-number.number c.loop-number-test.true)
    (rw c.items-items.ensures at c.index-items-number.is) (omega (arith, c.from-own.ensures, c.if-own-width.true))

pub returns-then-own-width-clause-few : goal.returns-then-own-width-clause-few
returns-then-own-width-clause-few c =
    omega (
      arith,
      passed-fewer c.args.records.now c.args.width c.args.shelf c.loop-number.widest (link_of c.loop-number.number) c.loop-number.number c.args.left.now c.loop-number.left c.loop-number.invariant.searches
          (named c.loop-number.number c.loop-number-test.true),
      c.if-left-eq0.false,
    )

pub loop-number-smaller : goal.loop-number-smaller
loop-number-smaller c =
    free-nearer c.args.records.now c.args.width c.args.shelf c.loop-number.widest (link_of c.loop-number.number) _ c.loop-number.number c.index-items-number.result c.requires.linked c.requires.stands c.loop-number.invariant.searches.search (named c.loop-number.number c.loop-number-test.true)
    (rw c.items-items.ensures at c.index-items-number.is) (ap link_of c.from-number-in-loop-number.ensures ∙ c.bits-in-loop-number.ensures.link)

pub loop-number-preserved : goal.loop-number-preserved
loop-number-preserved c = record {
  searches =
      within-passed c.args.records.now c.args.width c.args.shelf c.loop-number.widest c.max-widest.result (link_of c.loop-number.number) _ c.loop-number.number c.args.left.now c.loop-number.left c.index-items-number.result c.loop-number.invariant.searches (omega (arith, c.if-left-eq0.false)) (named c.loop-number.number c.loop-number-test.true)
      (rw c.items-items.ensures at c.index-items-number.is) (omega (arith, c.from-own.ensures, c.if-own-width.false)) (omega (arith, c.max-widest.ensures, c.from-own.ensures)) (ap link_of c.from-number-in-loop-number.ensures ∙ c.bits-in-loop-number.ensures.link);
  small = omega (arith, c.from-number-in-loop-number.ensures);
  narrow = omega (arith, c.max-widest.ensures, c.loop-number.invariant.narrow, c.from-own.ensures);
}

pub overflow_cast-result : goal.overflow_cast-result
overflow_cast-result c = omega (arith, c.loop-number.invariant.narrow)

pub returns-clause-known : goal.returns-clause-known
returns-clause-known c =
    free-ends c.args.records.now c.args.width c.args.shelf c.loop-number.widest (link_of c.loop-number.number) c.loop-number.invariant.searches.search
    (names-none c.loop-number.number (omega (arith, c.loop-number-test.false, c.loop-number.invariant.small)))

pub returns-clause-few : goal.returns-clause-few
returns-clause-few c =
    passed-few c.args.records.now c.args.width c.args.shelf c.loop-number.widest (link_of c.loop-number.number) c.args.left.now c.loop-number.left c.loop-number.invariant.searches
